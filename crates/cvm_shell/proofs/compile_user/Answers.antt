use Rattle.run_scripts.specs.Command.{compile_user}
use Rattle.cvm_shell.specs.Views.{user_view}
use Rattle.cvm_shell.proofs.compile_user.Goals as goal

pub returns : goal.returns
returns g c = λ words disk is.
    c.put_made.ensures words (compile_user (user_view c.args.names.now)) c.args.shelf.now disk is c.user_image-image.ensures.gets c.user_image-image.ensures.comes
