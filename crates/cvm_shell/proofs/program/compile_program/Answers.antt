use Rattle.run_scripts.specs.Command.{compile_program}
use Rattle.cvm_shell.specs.Views.{program_view}
use Rattle.cvm_shell.proofs.program.compile_program.Goals as goal

pub returns : goal.returns
returns g c = λ words disk is.
    c.put_made.ensures words (compile_program (program_view c.args.names.now)) c.args.shelf.now disk is c.program_image-image.ensures.gets c.program_image-image.ensures.comes
