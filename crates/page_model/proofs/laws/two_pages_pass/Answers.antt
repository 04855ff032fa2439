-- By the two cases of each page.
use Rattle.page_model.proofs.HandlerEdits.{two_pages}
use Rattle.page_model.proofs.laws.two_pages_pass.Goals as goal

pub returns : goal.returns
returns c = two_pages
