use Rattle.c0_expr_runs.proofs.OtherFrames.{region, scalar}
use Rattle.c0_expr_runs.proofs.laws.held_elsewhere.Goals as goal

pub returns : goal.returns
returns c = record {
  region = λ sc p other q later m a types v f h. region sc p other q later m a types v f h;
  scalar = λ sc p other q later t v f s. scalar sc p other q later (λ x. 0) t v f s;
}
