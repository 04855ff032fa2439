-- The place in the tree is that in its view.
use Rattle.std.proofs.Common.{sym, ◌∙◌}
use Rattle.c0_tree.specs.View.{function_view}
use Rattle.c0_meaning.specs.Limits.{is_first}
use Rattle.c0_meaning.proofs.FirstPositions.{position-map}
use Rattle.c0_meaning.proofs.first.find_first.Goals as goal

pub returns : goal.returns
returns c = c.found_first.ensures ∙ sym (position-map (is_first c.args.program) function_view c.args.functions.now)
