use Rattle.run_scripts.specs.Command.{compile_kernel}
use Rattle.cvm_shell.specs.Views.{kernel_view}
use Rattle.cvm_shell.proofs.compile_kernel.Goals as goal

pub returns : goal.returns
returns g c = λ words disk is.
    c.put_made.ensures words (compile_kernel (kernel_view c.args.names.now)) c.args.shelf.now disk is c.kernel_object-object.ensures.gets c.kernel_object-object.ensures.comes
