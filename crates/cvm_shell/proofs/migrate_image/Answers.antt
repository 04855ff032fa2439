use Rattle.run_scripts.specs.Command.{migrate}
use Rattle.cvm_shell.specs.Views.{migrate_view}
use Rattle.cvm_shell.proofs.migrate_image.Goals as goal

pub returns : goal.returns
returns g c = λ words disk is.
    c.put_made.ensures words (migrate (migrate_view c.args.names.now)) c.args.shelf.now disk is c.migrated_image-made.ensures.gets c.migrated_image-made.ensures.comes
