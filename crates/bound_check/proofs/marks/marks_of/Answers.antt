-- At the end all is told.
use Rattle.std.proofs.Common.{ℕ, Bool, List, length, sym, subst}
use Rattle.c0_tree.specs.View.{unit_view}
use Rattle.c0_meaning.specs.CallChain.{frame_at}
use Rattle.c0_struct_sizes.specs.Graph.{IsOrder}
use Rattle.bound_check.specs.Calls.{callees}
use Rattle.bound_check.specs.Marks.{AreTold}
use Rattle.bound_check.proofs.FunctionsTold.{all_told}
use Rattle.bound_check.proofs.marks.marks_of.Goals as goal

pub marks_in_order-requires-clause-order : goal.marks_in_order-requires-clause-order
marks_in_order-requires-clause-order c =
    subst (λ (ns : List ℕ). IsOrder (callees (unit_view c.args.unit.now)) (length (unit_view c.args.unit.now).functions) ns c.deref-4.result.now) (sym c.deref-3.ensures.value)
    (subst (λ (bs : List Bool). IsOrder (callees (unit_view c.args.unit.now)) (length (unit_view c.args.unit.now).functions) c.in_ok-order.order.nodes.items bs) (sym c.deref-4.ensures.value) c.in_ok-order.ensures)

pub returns : goal.returns
returns c =
    all_told (unit_view c.args.unit.now) c.requires c.in_ok-order.order.nodes.items c.in_ok-order.order.turning.items c.in_ok-order.ensures c.in_ok-marks.marks.items c.in_ok-marks.ensures.all
    (subst (λ (bs : List Bool). AreTold (callees (unit_view c.args.unit.now)) (frame_at (unit_view c.args.unit.now)) bs c.in_ok-order.order.nodes.items c.in_ok-marks.marks.items) c.deref-4.ensures.value
    (subst (λ (ns : List ℕ). AreTold (callees (unit_view c.args.unit.now)) (frame_at (unit_view c.args.unit.now)) c.deref-4.result.now ns c.in_ok-marks.marks.items) c.deref-3.ensures.value c.in_ok-marks.ensures.told))
