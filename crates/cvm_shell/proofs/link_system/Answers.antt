use Rattle.run_scripts.specs.Command.{link}
use Rattle.cvm_shell.specs.Views.{link_view}
use Rattle.cvm_shell.proofs.link_system.Goals as goal

pub returns : goal.returns
returns g c = λ words disk is.
    c.put_made.ensures words (link (link_view c.args.names.now)) c.args.shelf.now disk is c.system_image-linked.ensures.gets c.system_image-linked.ensures.comes
