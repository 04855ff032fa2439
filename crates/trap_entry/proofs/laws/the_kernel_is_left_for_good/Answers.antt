-- By the laws that the body calls.
use Rattle.trap_entry.proofs.DispatchAnswered.{leaving_for_good}
use Rattle.trap_entry.proofs.laws.the_kernel_is_left_for_good.Goals as goal

pub returns : goal.returns
returns c w f = leaving_for_good w f c.runs_compose.ensures (c.a_condition_is_tested.ensures w f)
