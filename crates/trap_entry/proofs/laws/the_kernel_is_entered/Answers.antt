-- By the laws that the body calls.
use Rattle.trap_entry.proofs.KernelEntered.{entering}
use Rattle.trap_entry.proofs.laws.the_kernel_is_entered.Goals as goal

pub returns : goal.returns
returns c w f = entering w f c.runs_compose.ensures (c.jumps_lead.ensures w f) (c.registers_are_saved.ensures w f) (c.a_user_is_kept.ensures w f) (c.a_condition_is_tested.ensures w f)
