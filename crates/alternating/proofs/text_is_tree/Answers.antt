use Rattle.alternating.proofs.TextIsTree.{is_text}
use Rattle.alternating.proofs.text_is_tree.Goals as goal

pub returns : goal.returns
returns c = is_text
