use Rattle.summing.proofs.TextIsTree.{is_text}
use Rattle.summing.proofs.text_is_tree.Goals as goal

pub returns : goal.returns
returns c = is_text
