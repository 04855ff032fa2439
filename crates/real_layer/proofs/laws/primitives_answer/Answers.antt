-- By the primitives' laws on runs of code, from the jump of the entry to the return.
use Rattle.real_layer.proofs.RoutinesAndExits.{tools_of}
use Rattle.real_layer.proofs.PrimitivesKeepLaws.{Routines, primitives, grows}
use Rattle.real_layer.proofs.laws.primitives_answer.Goals as goal

pub returns : goal.returns
returns c =
    let routines : Routines = record { tools = tools_of c.premises.ensures; returns = c.a_routine_returns.ensures; sited = c.maps_are_sited.ensures; registers = c.registers_answer.ensures; memory = c.memory_answers.ensures } in
    λ m sizes code made. record { answers = primitives m sizes code made routines; grows = grows m sizes code made routines }
