-- An edit, and one after an eviction.
use Rattle.page_model.proofs.PagingLawsHold.{fills_are}
use Rattle.page_model.proofs.laws.fills_stand.Goals as goal

pub returns : goal.returns
returns c = fills_are
