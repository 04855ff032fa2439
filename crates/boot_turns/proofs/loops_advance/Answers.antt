use Rattle.c0_meaning.specs.TypedState.{IsTypedState}
use Rattle.mips_machine.specs.Steps.{outside_of}
use Rattle.boot_turns.specs.Completes.{state_seen}
use Rattle.boot_turns.proofs.LoopAdvances.{advances}
use Rattle.boot_turns.proofs.loops_advance.Goals as goal

pub returns : goal.returns
returns c = λ count old new told retold budget left most result ends. λ u.
    advances (IsTypedState u) (c.machines_run.ensures u) (outside_of old.rows count) (state_seen told old) (state_seen retold new) budget left most result ends
