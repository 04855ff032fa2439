-- By the laws that the body calls.
use Rattle.trap_entry.proofs.FaultHandled.{handles}
use Rattle.trap_entry.proofs.laws.a_fault_is_handled.Goals as goal

pub returns : goal.returns
returns c w f = handles w f c.runs_compose.ensures c.alikes_stand.ensures (c.registers_are_saved.ensures w f) (c.registers_are_restored.ensures w f) (c.a_condition_is_tested.ensures w f)
