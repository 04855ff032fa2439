-- An edit of one entry.
use Rattle.page_model.proofs.MachineMoves.{shares}
use Rattle.page_model.proofs.laws.shares_stand.Goals as goal

pub returns : goal.returns
returns c = shares
