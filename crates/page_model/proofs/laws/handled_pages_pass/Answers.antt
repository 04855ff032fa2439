-- By the two cases of a handled page.
use Rattle.page_model.proofs.PagingLawsHold.{handled_are}
use Rattle.page_model.proofs.laws.handled_pages_pass.Goals as goal

pub returns : goal.returns
returns c = handled_are
