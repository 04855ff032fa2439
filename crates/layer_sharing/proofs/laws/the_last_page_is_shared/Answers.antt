-- By the law of the code, from the jump of the entry to the return.
use Rattle.real_layer.proofs.RoutinesAndExits.{tools_of}
use Rattle.layer_sharing.proofs.CopyOnMachine.{Needs, copies_share}
use Rattle.layer_sharing.proofs.laws.the_last_page_is_shared.Goals as goal

pub returns : goal.returns
returns c =
    let needs : Needs = record { tools = tools_of c.premises.ensures; returns = c.a_routine_returns.ensures; sited = c.maps_are_sited.ensures; passes = c.a_copy_passes_its_last_page.ensures } in
    λ m sizes code made. copies_share m sizes code made needs (c.primitives_answer.ensures m sizes code made).answers
