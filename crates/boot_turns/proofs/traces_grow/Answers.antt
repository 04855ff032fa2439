-- From the laws below.
use Rattle.c0_tree.specs.Tree.{CUnit}
use Rattle.c0_meaning.specs.TypedState.{IsTypedState}
use Rattle.boot_turns.proofs.TracesGrow.{traces_grow}
use Rattle.boot_turns.proofs.traces_grow.Goals as goal

pub returns : goal.returns
returns c = λ (u : CUnit). traces_grow c.starts_go_on.ensures c.users_follow_linked.ensures (IsTypedState u)
