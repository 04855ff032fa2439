-- Two edits.
use Rattle.page_model.proofs.HandlerEdits.{whole_page}
use Rattle.page_model.proofs.laws.whole_pages_stand.Goals as goal

pub returns : goal.returns
returns c = whole_page
