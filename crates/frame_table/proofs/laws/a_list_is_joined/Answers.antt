-- By what each instruction does.
use Rattle.frame_table.proofs.ListEdits.{joins_list}
use Rattle.frame_table.proofs.laws.a_list_is_joined.Goals as goal

pub returns : goal.returns
returns c = joins_list
