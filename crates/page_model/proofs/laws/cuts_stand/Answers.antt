-- An edit of one entry.
use Rattle.page_model.proofs.MachineMoves.{unmapped}
use Rattle.page_model.proofs.laws.cuts_stand.Goals as goal

pub returns : goal.returns
returns c = unmapped
