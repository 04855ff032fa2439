-- One more function is told, since those that it calls are.
use Rattle.std.proofs.Common.{◌≡◌, ◌∙◌, ◌<◌, ◌≤◌, ◌*◌, false, ℕ, Bool, List, map, length, get_or, replicate, ap, arith}
use Rattle.std.proofs.Math.ListN.{length-set}
use Rattle.std.proofs.lemmas.List.{length-map, length-replicate}
use Rattle.c0_tree.specs.View.{function_view, unit_view}
use Rattle.c0_meaning.specs.CallChain.{frame_at}
use Rattle.bound_check.specs.Calls.{callees}
use Rattle.bound_check.specs.declared.marks.Mark.{Mark}
use Rattle.bound_check.specs.declared.marks.Mark.TheVariants.{Unseen}
use Rattle.bound_check.specs.Marks.{mark_of, most, mark_by, told_words, MAX_FRAME}
use Rattle.c0_struct_sizes.proofs.WaysThroughGraphs.{in_at, replicate_at}
use Rattle.bound_check.proofs.FunctionsTold.{most_below, told_more, small_more, calls_listed, all_listed}
use Rattle.bound_check.proofs.marks.marks_in_order.Goals as goal

pub loop-function-init : goal.loop-function-init
loop-function-init c =
    let marks : c.in_ok-marks.marks.items ≡ replicate (length c.args.graph.now) Unseen = c.in_ok-marks.ensures in
    let len : length c.in_ok-marks.marks.items ≡ length c.args.graph.now = ap (λ (l : List Mark). length l) marks ∙ length-replicate (length c.args.graph.now) Unseen in
    record {
      all = len ∙ all_listed (unit_view c.args.unit.now) c.args.graph.now c.requires.calls;
      small = λ v.
          let none : told_words (mark_of c.in_ok-marks.marks.items v) ≡ 0 = ap (λ (l : List Mark). told_words (mark_of l v)) marks ∙ ap told_words (replicate_at Unseen (length c.args.graph.now) v) in
          omega arith;
      right = λ v h. absurd h;
    }

pub edges_of-calls-requires : goal.edges_of-calls-requires
edges_of-calls-requires c =
    let low : get_or c.args.nodes.now c.loop-function.function-index 0 < length (unit_view c.args.unit.now).functions = c.requires.order.within (get_or c.args.nodes.now c.loop-function.function-index 0) (in_at c.args.nodes.now c.loop-function.function-index c.loop-function-test.true) in
    let all : length c.args.graph.now ≡ length (unit_view c.args.unit.now).functions = all_listed (unit_view c.args.unit.now) c.args.graph.now c.requires.calls in
    omega arith

pub mark_for-requires-clause-there : goal.mark_for-requires-clause-there
mark_for-requires-clause-there c =
    let low : get_or c.args.nodes.now c.loop-function.function-index 0 < length (unit_view c.args.unit.now).functions = c.requires.order.within (get_or c.args.nodes.now c.loop-function.function-index 0) (in_at c.args.nodes.now c.loop-function.function-index c.loop-function-test.true) in
    let len : length (map function_view c.args.unit.now.functions.items) ≡ length c.args.unit.now.functions.items = length-map c.args.unit.now.functions.items function_view in
    omega arith

pub mark_for-requires-clause-frame : goal.mark_for-requires-clause-frame
mark_for-requires-clause-frame c = c.requires.graph.small (get_or c.args.nodes.now c.loop-function.function-index 0)

pub mark_for-requires-clause-small : goal.mark_for-requires-clause-small
mark_for-requires-clause-small c =
    let le : most c.loop-function.marks.items c.edges_of-calls.result.now ≤ c.loop-function.function-index * MAX_FRAME = most_below c.loop-function.marks.items c.edges_of-calls.result.now (c.loop-function.function-index * MAX_FRAME) c.loop-function.invariant.small in
    let same : most c.deref.result.now c.edges_of-calls.result.now ≡ most c.loop-function.marks.items c.edges_of-calls.result.now = ap (λ (l : List Mark). most l c.edges_of-calls.result.now) c.deref.ensures.value in
    omega (arith, le, same, c.loop-function-test.true, c.requires.order.few, c.requires.graph.few)

pub index_mut-requires : goal.index_mut-requires
index_mut-requires c =
    let low : get_or c.args.nodes.now c.loop-function.function-index 0 < length (unit_view c.args.unit.now).functions = c.requires.order.within (get_or c.args.nodes.now c.loop-function.function-index 0) (in_at c.args.nodes.now c.loop-function.function-index c.loop-function-test.true) in
    omega (arith, low, c.loop-function.invariant.all, c.loop-function.marks.ok.0)

pub loop-function-preserved : goal.loop-function-preserved
loop-function-preserved c =
    let u : ℕ = get_or c.args.nodes.now c.loop-function.function-index 0 in
    let calls : c.edges_of-calls.result.now ≡ callees (unit_view c.args.unit.now) u = c.edges_of-calls.ensures ∙ calls_listed (unit_view c.args.unit.now) c.args.graph.now c.requires.calls u in
    let mark : c.mark_for.result ≡ mark_by (get_or c.args.turning.now u false) (frame_at (unit_view c.args.unit.now) u) c.loop-function.marks.items (callees (unit_view c.args.unit.now) u)
    = c.mark_for.ensures
    ∙ (ap (λ (b : Bool). mark_by b (frame_at (unit_view c.args.unit.now) u) c.deref.result.now c.edges_of-calls.result.now) c.turns_at-turns.ensures
    ∙ (ap (λ (l : List Mark). mark_by (get_or c.args.turning.now u false) (frame_at (unit_view c.args.unit.now) u) l c.edges_of-calls.result.now) c.deref.ensures.value
    ∙ ap (λ (ns : List ℕ). mark_by (get_or c.args.turning.now u false) (frame_at (unit_view c.args.unit.now) u) c.loop-function.marks.items ns) calls)) in
    record {
      all = length-set c.loop-function.marks.items u c.mark_for.result ∙ c.loop-function.invariant.all;
      small = small_more (callees (unit_view c.args.unit.now)) (frame_at (unit_view c.args.unit.now)) (length (unit_view c.args.unit.now).functions) c.args.nodes.now c.args.turning.now c.requires.order
          c.loop-function.marks.items c.loop-function.function-index c.mark_for.result c.loop-function.invariant.all c.loop-function-test.true mark (c.requires.graph.small u) c.loop-function.invariant.small;
      right = told_more (callees (unit_view c.args.unit.now)) (frame_at (unit_view c.args.unit.now)) (length (unit_view c.args.unit.now).functions) c.args.nodes.now c.args.turning.now c.requires.order
          c.loop-function.marks.items c.loop-function.function-index c.mark_for.result c.loop-function.invariant.all c.loop-function-test.true mark c.loop-function.invariant.right;
    }
