-- By the laws that the body calls.
use Rattle.trap_entry.proofs.KernelEntered.{entering_first}
use Rattle.trap_entry.proofs.laws.the_kernel_is_entered_first.Goals as goal

pub returns : goal.returns
returns c w f = entering_first w f c.runs_compose.ensures (c.jumps_lead.ensures w f) (c.registers_are_saved.ensures w f) (c.a_condition_is_tested.ensures w f)
