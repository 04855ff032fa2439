-- By induction on the number of entries.
use Rattle.page_model.proofs.PagingLawsHold.{counts_are}
use Rattle.page_model.proofs.laws.entries_are_counted.Goals as goal

pub returns : goal.returns
returns c = counts_are
