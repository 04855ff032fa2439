-- The safety of C0's runs, at the kernel's world.
use Rattle.cvm_model.proofs.KernelTyped.{units_answer_ints, units_stay_typed, units_want_units}
use Rattle.cvm_model.proofs.units_stay_typed.Goals as goal

pub returns-clause-typed : goal.returns-clause-typed
returns-clause-typed c = units_stay_typed c.first_states_are_typed.ensures c.calls_are_safe.ensures.dispatches

pub returns-clause-units : goal.returns-clause-units
returns-clause-units c = units_want_units c.calls_are_safe.ensures.dispatches c.calls_answer_their_types.ensures.dispatches

pub returns-clause-ints : goal.returns-clause-ints
returns-clause-ints c = units_answer_ints c.calls_answer_their_types.ensures.dispatches
