use Rattle.std.proofs.Common.{◌≡◌, ◌≤◌, ◌*◌, ℕ, take, length}
use Rattle.c0_tree.specs.View.{unit_view}
use Rattle.c0_meaning.specs.CallChain.{frame_at}
use Rattle.bound_check.specs.Calls.{callees}
use Rattle.bound_check.specs.Marks.{mark_of, told_words, AreTold, MAX_FRAME}
use Rattle.bound_check.proofs.marks.marks_in_order.Given as goal

abbrev pub invariant-loop-function : goal.invariant-loop-function
invariant-loop-function l = record {
  all : length l.marks.items ≡ length (unit_view l.unit).functions;
  small : (v : ℕ) → told_words (mark_of l.marks.items v) ≤ l.function-index * MAX_FRAME;
  right : AreTold (callees (unit_view l.unit)) (frame_at (unit_view l.unit)) l.turning (take l.function-index l.nodes) l.marks.items;
}
