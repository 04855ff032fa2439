-- An edit that leaves the entry.
use Rattle.page_model.proofs.PagingLawsHold.{stores_are}
use Rattle.page_model.proofs.laws.stores_stand.Goals as goal

pub returns : goal.returns
returns c = stores_are
