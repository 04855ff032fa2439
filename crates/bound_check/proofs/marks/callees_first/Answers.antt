-- The graph whose order is asked for is that of the calls.
use Rattle.std.proofs.Common.{◌∙◌, map, length}
use Rattle.std.proofs.lemmas.List.{length-map}
use Rattle.std.proofs.lemmas.Result.{IfOk-weaker}
use Rattle.c0_tree.specs.View.{unit_view}
use Rattle.c0_struct_sizes.specs.Graph.{IsOrder, IsOrderOf}
use Rattle.bound_check.specs.Calls.{callees}
use Rattle.c0_struct_sizes.proofs.WaysThroughGraphs.{listed_inside, listed_order}
use Rattle.bound_check.proofs.FunctionsTold.{calls_listed, all_listed}
use Rattle.bound_check.proofs.marks.callees_first.Goals as goal

pub order_of-requires-clause-inside : goal.order_of-requires-clause-inside
order_of-requires-clause-inside c =
    listed_inside (callees (unit_view c.args.unit.now)) (length (unit_view c.args.unit.now).functions) (map (λ x. x.items) c.args.graph.now) (calls_listed (unit_view c.args.unit.now) c.args.graph.now c.requires.calls)
    (length-map c.args.graph.now (λ x. x.items) ∙ all_listed (unit_view c.args.unit.now) c.args.graph.now c.requires.calls) c.requires.graph.inside

pub returns : goal.returns
returns c =
    IfOk-weaker c.order_of.result
    (λ o. IsOrderOf (map (λ x. x.items) c.args.graph.now) o.nodes.items o.turning.items)
    (λ o. IsOrder (callees (unit_view c.args.unit.now)) (length (unit_view c.args.unit.now).functions) o.nodes.items o.turning.items)
    (λ o e. listed_order (callees (unit_view c.args.unit.now)) (length (unit_view c.args.unit.now).functions) (map (λ x. x.items) c.args.graph.now) (calls_listed (unit_view c.args.unit.now) c.args.graph.now c.requires.calls)
    (length-map c.args.graph.now (λ x. x.items) ∙ all_listed (unit_view c.args.unit.now) c.args.graph.now c.requires.calls) o.nodes.items o.turning.items e)
    c.order_of.ensures
