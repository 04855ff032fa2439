-- From the laws below.
use Rattle.c0_tree.specs.Tree.{CUnit}
use Rattle.c0_meaning.specs.TypedState.{IsTypedState}
use Rattle.boot_turns.proofs.MachinesRun.{machines_run}
use Rattle.boot_turns.proofs.machines_run.Goals as goal

pub returns : goal.returns
returns c = λ (u : CUnit). machines_run c.turns_are_counted.ensures c.starts_go_on.ensures c.users_follow_linked.ensures (IsTypedState u)
