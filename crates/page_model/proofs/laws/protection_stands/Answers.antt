-- Edits of one entry.
use Rattle.page_model.proofs.PagingLawsHold.{protections_are}
use Rattle.page_model.proofs.laws.protection_stands.Goals as goal

pub returns : goal.returns
returns c = protections_are
