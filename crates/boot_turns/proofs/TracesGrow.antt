-- The trace of every run from a start grows by the entries of its steps.
-- It serves `traces_grow` alone.
use Rattle.c0_meaning.specs.State.{C0State}
use Rattle.layer_contract.specs.Starts.{StartsGoOn}
use Rattle.layer_contract.specs.Users.{UserStepsLinked}
use Rattle.boot_turns.specs.Entries.{TracesGrow}
use Rattle.boot_turns.proofs.TurnGoesOn.{given}
use Rattle.boot_turns.proofs.ShownGrows.{trace_grows}

pub traces_grow : StartsGoOn → UserStepsLinked → (Typed : C0State → Type 0) → TracesGrow Typed
traces_grow goes users Typed x y s late held u f low high =
    trace_grows x y s late held Typed (given goes users Typed x y s late held f) f.boots.follows.calls u low high
