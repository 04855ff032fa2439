use Rattle.c0_typed.proofs.BareTrees.{trees_ignore_spans}
use Rattle.c0_typed.proofs.laws.trees_ignore_spans.Goals as goal

pub returns : goal.returns
returns c = trees_ignore_spans
