-- At the end what is told of each struct is right.
use Rattle.std.proofs.Common.{◌≡◌, ◌∙◌, ℕ, Bool, List, map, get_or, min, sym, ap, subst}
use Rattle.std.proofs.lemmas.Result.{IfOk-weaker}
use Rattle.c0_tree.specs.View.{struct_view}
use Rattle.c0_meaning.specs.Env.{shape_of}
use Rattle.c0_meaning.specs.Ty as ty
use Rattle.c0_meaning.specs.Words.{words}
use Rattle.c0_name_check.specs.Names.{look}
use Rattle.c0_meaning.specs.Sizes.{WORDS_CAP, struct_sizes}
use Rattle.c0_name_check.specs.Structs.{KnowsStructs}
use Rattle.c0_struct_sizes.specs.Parts.{AreWordsAmong, IsOrderOver, holding_themselves, turning_listed, words_listed}
use Rattle.c0_struct_sizes.proofs.OrderTells.{words_told, table_told, all_held_told}
use Rattle.c0_struct_sizes.proofs.sizes.struct_sizes.Goals as goal

pub words_in_order-requires-clause-order : goal.words_in_order-requires-clause-order
words_in_order-requires-clause-order c =
    subst (λ (ns : List ℕ). IsOrderOver (look c.args.names.now) (map struct_view c.args.structs.now) ns c.deref-2.result.now) (sym c.deref.ensures.value)
    (subst (λ (bs : List Bool). IsOrderOver (look c.args.names.now) (map struct_view c.args.structs.now) c.in_ok-order.order.nodes.items bs) (sym c.deref-2.ensures.value) c.in_ok-order.ensures)

pub returns-clause-words : goal.returns-clause-words
returns-clause-words c =
    let right : AreWordsAmong (look c.args.names.now) (map struct_view c.args.structs.now) c.in_ok-order.order.nodes.items c.in_ok-words.words.items
    = subst (λ (ns : List ℕ). AreWordsAmong (look c.args.names.now) (map struct_view c.args.structs.now) ns c.in_ok-words.words.items) c.deref.ensures.value c.in_ok-words.ensures in
    IfOk-weaker c.sizes_of.result
    (λ s. s.words.items ≡ words_listed c.deref-3.result.now (look c.args.names.now) (map struct_view c.args.structs.now))
    (λ s. KnowsStructs c.args.names.now s.words.items (map shape_of (map struct_view c.args.structs.now)))
    (λ s e. record {
      numbers = c.requires.told;
      words = λ text n h.
          subst (λ (l : List ℕ). get_or l n 0 ≡ min (words (map shape_of (map struct_view c.args.structs.now)) (ty.named text)) WORDS_CAP)
          (sym (e ∙ ap (λ (l : List ℕ). words_listed l (look c.args.names.now) (map struct_view c.args.structs.now)) c.deref-3.ensures.value))
          (words_told (look c.args.names.now) (map struct_view c.args.structs.now) c.requires.told c.in_ok-order.order.nodes.items c.in_ok-order.order.turning.items c.in_ok-order.ensures c.in_ok-words.words.items right text n h);
    })
    c.sizes_of.ensures.words

pub returns-clause-held : goal.returns-clause-held
returns-clause-held c =
    IfOk-weaker c.sizes_of.result
    (λ s. s.holds_itself.items ≡ turning_listed c.deref-4.result.now (look c.args.names.now) (map struct_view c.args.structs.now))
    (λ s. s.holds_itself.items ≡ holding_themselves (map struct_view c.args.structs.now))
    (λ s e.
    e
    ∙ ap (λ (l : List Bool). turning_listed l (look c.args.names.now) (map struct_view c.args.structs.now)) c.deref-4.ensures.value
    ∙ all_held_told (look c.args.names.now) (map struct_view c.args.structs.now) c.requires.told c.in_ok-order.order.nodes.items c.in_ok-order.order.turning.items c.in_ok-order.ensures c.holding_is_as_tested.ensures)
    c.sizes_of.ensures.held

pub returns-clause-table : goal.returns-clause-table
returns-clause-table c =
    let right : AreWordsAmong (look c.args.names.now) (map struct_view c.args.structs.now) c.in_ok-order.order.nodes.items c.in_ok-words.words.items
    = subst (λ (ns : List ℕ). AreWordsAmong (look c.args.names.now) (map struct_view c.args.structs.now) ns c.in_ok-words.words.items) c.deref.ensures.value c.in_ok-words.ensures in
    IfOk-weaker c.sizes_of.result
    (λ s. s.words.items ≡ words_listed c.deref-3.result.now (look c.args.names.now) (map struct_view c.args.structs.now))
    (λ s. s.words.items ≡ struct_sizes (map shape_of (map struct_view c.args.structs.now)))
    (λ s e.
    e
    ∙ ap (λ (l : List ℕ). words_listed l (look c.args.names.now) (map struct_view c.args.structs.now)) c.deref-3.ensures.value
    ∙ table_told (look c.args.names.now) (map struct_view c.args.structs.now) c.requires.told c.in_ok-order.order.nodes.items c.in_ok-order.order.turning.items c.in_ok-order.ensures c.in_ok-words.words.items right c.words_are_those_of_the_parts.ensures)
    c.sizes_of.ensures.words
