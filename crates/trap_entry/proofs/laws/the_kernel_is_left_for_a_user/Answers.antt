-- By the laws that the body calls.
use Rattle.trap_entry.proofs.DispatchAnswered.{leaving}
use Rattle.trap_entry.proofs.laws.the_kernel_is_left_for_a_user.Goals as goal

pub returns : goal.returns
returns c w f = leaving w f c.runs_compose.ensures (c.a_user_is_restored.ensures w f) (c.a_condition_is_tested.ensures w f)
