-- From the laws below.
use Rattle.c0_tree.specs.Tree.{CUnit}
use Rattle.c0_meaning.specs.TypedState.{IsTypedState}
use Rattle.boot_turns.proofs.MachinesRun.{runs_stay_typed}
use Rattle.boot_turns.proofs.runs_stay_typed.Goals as goal

pub returns : goal.returns
returns c = λ (u : CUnit). runs_stay_typed c.starts_go_on.ensures c.users_follow_linked.ensures (IsTypedState u)
