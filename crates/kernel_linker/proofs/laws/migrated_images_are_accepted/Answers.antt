use Rattle.kernel_linker.proofs.MigrateSteps.{migrated_accepted}
use Rattle.kernel_linker.proofs.laws.migrated_images_are_accepted.Goals as goal

pub returns : goal.returns
returns c = migrated_accepted
