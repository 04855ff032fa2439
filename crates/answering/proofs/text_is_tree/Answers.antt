use Rattle.answering.proofs.TextIsTree.{is_text}
use Rattle.answering.proofs.text_is_tree.Goals as goal

pub returns : goal.returns
returns c = is_text
