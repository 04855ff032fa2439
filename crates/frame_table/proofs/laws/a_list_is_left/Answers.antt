-- By what each instruction does.
use Rattle.frame_table.proofs.ListEdits.{leaves_list}
use Rattle.frame_table.proofs.laws.a_list_is_left.Goals as goal

pub returns : goal.returns
returns c = λ w f. leaves_list w f c.runs_compose.ensures (c.jumps_lead.ensures w f)
