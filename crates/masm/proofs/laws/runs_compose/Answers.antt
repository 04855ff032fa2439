-- By induction on the steps.
use Rattle.masm.proofs.RunsCompose.{runs_compose}
use Rattle.masm.proofs.laws.runs_compose.Goals as goal

pub returns : goal.returns
returns c = runs_compose
