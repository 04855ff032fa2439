-- Part by part.
use Rattle.page_model.proofs.PagingLawsHold.{alikes_are}
use Rattle.page_model.proofs.laws.alikes_stand.Goals as goal

pub returns : goal.returns
returns c = alikes_are
