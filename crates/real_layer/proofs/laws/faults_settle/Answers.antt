-- By the handler's run at a fault, and the two faults of paging.
use Rattle.real_layer.proofs.RoutinesAndExits.{tools_of}
use Rattle.real_layer.proofs.FaultSettled.{Handlers, settles, costs}
use Rattle.real_layer.proofs.laws.faults_settle.Goals as goal

pub returns : goal.returns
returns c =
    let handlers : Handlers = record {
      tools = tools_of c.premises.ensures;
      erets = c.eret_leaves.ensures;
      takes = c.an_interrupt_is_taken.ensures;
      interrupts = c.users_are_interrupted.ensures;
      ask = c.faults_ask.ensures;
      sited = c.maps_are_sited.ensures;
      blocks = c.the_block_is_a_page_block.ensures;
      faults = c.a_fault_is_handled.ensures;
      pass = c.handled_pages_pass.ensures;
      two = c.two_faults_suffice.ensures;
    } in
    λ m sizes code made. record { settles = settles m sizes code made handlers; costs = costs m sizes code made handlers }
