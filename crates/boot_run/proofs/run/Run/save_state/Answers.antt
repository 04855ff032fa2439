use Rattle.std.proofs.Common.{[], ap, ◌∙◌}
use Rattle.boot_run.specs.LoadEnds.{Kept}
use Rattle.boot_run.specs.Saving.{saved_run}
use Rattle.boot_run.proofs.run.Run.save_state.Goals as goal

pub returns : goal.returns
returns g c = c.save_state.ensures [] ∙ ap (λ (r : Kept _). saved_run r) c.self.view_is
