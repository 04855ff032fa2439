-- The graph whose order is asked for is that of the structs.
use Rattle.std.proofs.Common.{◌≡◌, ◌∙◌, List, ℕ, Vec, Global, map, length, ap}
use Rattle.std.proofs.lemmas.List.{length-map}
use Rattle.std.proofs.lemmas.Result.{IfOk-weaker}
use Rattle.c0_tree.specs.View.{struct_view}
use Rattle.c0_name_check.specs.Names.{look}
use Rattle.c0_struct_sizes.specs.Graph.{edges_in, IsOrderOf}
use Rattle.c0_struct_sizes.specs.Parts.{parts, edges, IsOrderOver}
use Rattle.c0_struct_sizes.proofs.WaysThroughGraphs.{listed_inside, listed_order}
use Rattle.c0_struct_sizes.proofs.NumbersTellNames.{edge_below, parts_there}
use Rattle.c0_struct_sizes.proofs.sizes.parts_first.Goals as goal

pub order_of-requires-clause-inside : goal.order_of-requires-clause-inside
order_of-requires-clause-inside c =
    let lists : map (λ x. x.items) c.deref.result.now ≡ map (λ s. parts (look c.args.names.now) s.fields) (map struct_view c.args.structs.now)
    = ap (λ (g : List (Vec ℕ Global)). map (λ x. x.items) g) c.deref.ensures.value ∙ c.in_ok-graph.ensures in
    listed_inside (edges (look c.args.names.now) (map struct_view c.args.structs.now)) (length (map struct_view c.args.structs.now)) (map (λ x. x.items) c.deref.result.now)
    (λ v. ap (λ (l : List (List ℕ)). edges_in l v) lists ∙ parts_there (look c.args.names.now) (map struct_view c.args.structs.now) v)
    (ap (λ (l : List (List ℕ)). length l) lists ∙ length-map (map struct_view c.args.structs.now) (λ s. parts (look c.args.names.now) s.fields)) (edge_below (look c.args.names.now) (map struct_view c.args.structs.now) c.requires.told)

pub returns : goal.returns
returns c =
    let lists : map (λ x. x.items) c.deref.result.now ≡ map (λ s. parts (look c.args.names.now) s.fields) (map struct_view c.args.structs.now)
    = ap (λ (g : List (Vec ℕ Global)). map (λ x. x.items) g) c.deref.ensures.value ∙ c.in_ok-graph.ensures in
    IfOk-weaker c.order_of.result
    (λ o. IsOrderOf (map (λ x. x.items) c.deref.result.now) o.nodes.items o.turning.items)
    (λ o. IsOrderOver (look c.args.names.now) (map struct_view c.args.structs.now) o.nodes.items o.turning.items)
    (λ o e. listed_order (edges (look c.args.names.now) (map struct_view c.args.structs.now)) (length (map struct_view c.args.structs.now)) (map (λ x. x.items) c.deref.result.now)
    (λ v. ap (λ (l : List (List ℕ)). edges_in l v) lists ∙ parts_there (look c.args.names.now) (map struct_view c.args.structs.now) v)
    (ap (λ (l : List (List ℕ)). length l) lists ∙ length-map (map struct_view c.args.structs.now) (λ s. parts (look c.args.names.now) s.fields)) o.nodes.items o.turning.items e)
    c.order_of.ensures
