-- The unit has its addresses, its code stands by them, and the machine comes to `main`.
use Rattle.c0_tree.specs.declared.primitive.Program.TheVariants.{User}
use Rattle.c0_tree.specs.Primitives.{user_primitives}
use Rattle.c0_meaning.specs.Limits.{first_number}
use Rattle.user_c0.proofs.FlatRun.{flat_run}
use Rattle.user_c0.proofs.laws.trees_run_flat.Goals as goal

pub returns : goal.returns
returns c = λ u checked r p k answers holds loaded.
    let addresses = c.trees_have_addresses.ensures user_primitives u checked.well_formed (first_number User u) in
    let stands = c.units_stand.ensures user_primitives u checked.well_formed (first_number User u) addresses.0 addresses.1 in
    flat_run u addresses.0 checked addresses.1 stands r p holds c.code_runs_join.ensures (c.kernels_are_entered.ensures _ holds.sound) c.first_states_are_typed.ensures c.areas_hold.ensures
    c.zeros_are_held.ensures c.programs_have_a_main.ensures (c.steps_run.ensures tt) k loaded answers
