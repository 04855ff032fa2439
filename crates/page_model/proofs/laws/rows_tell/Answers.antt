-- The five words of a list are all that is said of it.
use Rattle.page_model.proofs.ListWords.{rows_are}
use Rattle.page_model.proofs.laws.rows_tell.Goals as goal

pub returns : goal.returns
returns c = rows_are
