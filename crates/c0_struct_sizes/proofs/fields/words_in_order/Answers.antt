-- The words of one more struct are right, since those of its parts are.
use Rattle.std.proofs.Common.{◌≡◌, ◌<◌, ℕ, List, map, length, get_or, sym, subst, ◌∙◌, arith}
use Rattle.std.proofs.Math.ListN.{length-set}
use Rattle.std.proofs.lemmas.List.{length-map}
use Rattle.c0_tree.specs.View.{struct_view}
use Rattle.c0_name_check.specs.Names.{look}
use Rattle.c0_struct_sizes.specs.Parts.{AreWordsOf, words_by_parts}
use Rattle.c0_struct_sizes.proofs.WaysThroughGraphs.{in_at}
use Rattle.c0_struct_sizes.proofs.OrderTells.{words_right, words_more}
use Rattle.c0_struct_sizes.proofs.fields.words_in_order.Goals as goal

pub struct_words-requires : goal.struct_words-requires
struct_words-requires c =
    let low : get_or c.args.nodes.now c.loop-node.node-index 0 < length (map struct_view c.args.structs.now) = c.requires.order.within (get_or c.args.nodes.now c.loop-node.node-index 0) (in_at c.args.nodes.now c.loop-node.node-index c.loop-node-test.true) in
    let len : length (map struct_view c.args.structs.now) ≡ length c.args.structs.now = length-map c.args.structs.now struct_view in
    omega arith

pub index_mut-requires : goal.index_mut-requires
index_mut-requires c =
    let low : get_or c.args.nodes.now c.loop-node.node-index 0 < length (map struct_view c.args.structs.now) = c.requires.order.within (get_or c.args.nodes.now c.loop-node.node-index 0) (in_at c.args.nodes.now c.loop-node.node-index c.loop-node-test.true) in
    let len : length (map struct_view c.args.structs.now) ≡ length c.args.structs.now = length-map c.args.structs.now struct_view in
    omega (arith, low, len, c.loop-node.invariant.all, c.loop-node.sizes.ok.0)

pub loop-node-preserved : goal.loop-node-preserved
loop-node-preserved c =
    let v : ℕ = get_or c.args.nodes.now c.loop-node.node-index 0 in
    let same : c.deref.result.now ≡ c.loop-node.sizes.items = c.deref.ensures.value in
    let right : AreWordsOf (look c.args.names.now) (map struct_view c.args.structs.now) v (words_by_parts (look c.args.names.now) (map struct_view c.args.structs.now) c.args.turning.now c.loop-node.sizes.items v)
    = words_right (look c.args.names.now) (map struct_view c.args.structs.now) c.requires.told c.args.nodes.now c.args.turning.now c.requires.order c.words_are_those_of_the_parts.ensures c.loop-node.sizes.items c.loop-node.node-index c.loop-node-test.true c.loop-node.invariant.right in
    let words : c.struct_words.result ≡ words_by_parts (look c.args.names.now) (map struct_view c.args.structs.now) c.args.turning.now c.loop-node.sizes.items v
    = subst (λ (l : List ℕ). c.struct_words.result ≡ words_by_parts (look c.args.names.now) (map struct_view c.args.structs.now) c.args.turning.now l v) same c.struct_words.ensures in
    record {
      all = length-set c.loop-node.sizes.items v c.struct_words.result ∙ c.loop-node.invariant.all;
      right =
          words_more (look c.args.names.now) (map struct_view c.args.structs.now) c.requires.told c.args.nodes.now c.args.turning.now c.requires.order c.loop-node.sizes.items c.loop-node.node-index c.struct_words.result
          (c.loop-node.invariant.all ∙ sym (length-map c.args.structs.now struct_view)) c.loop-node-test.true
          (subst (AreWordsOf (look c.args.names.now) (map struct_view c.args.structs.now) v) (sym words) right) c.loop-node.invariant.right;
    }
