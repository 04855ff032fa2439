-- By cases on whether the entry is valid.
use Rattle.page_model.proofs.PagingLawsHold.{entries_are}
use Rattle.page_model.proofs.laws.entries_show_their_pages.Goals as goal

pub returns : goal.returns
returns c = entries_are
