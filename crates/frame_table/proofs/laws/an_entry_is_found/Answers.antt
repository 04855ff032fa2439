-- By what each instruction does.
use Rattle.frame_table.proofs.EntriesFound.{finds}
use Rattle.frame_table.proofs.laws.an_entry_is_found.Goals as goal

pub returns : goal.returns
returns c = finds
