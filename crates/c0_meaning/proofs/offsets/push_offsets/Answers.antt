use Rattle.std.proofs.Common.{◌≡◌, ◌+◌, ◌++◌, ℕ, List, slice_index_or, arith, subst, sym, ap, ◌∙◌}
use Rattle.c0_tree.specs.declared.tree.Decl.{Decl}
use Rattle.c0_tree.specs.View.{type_view, unit_view}
use Rattle.c0_meaning.specs.Ty.{ty_of}
use Rattle.c0_meaning.specs.Env.{Shape}
use Rattle.c0_meaning.specs.Words.{words}
use Rattle.c0_meaning.specs.Sizes.{capped}
use Rattle.c0_meaning.specs.Sound.{shapes, IsSized}
use Rattle.c0_meaning.specs.Offsets.{offsets_from}
use Rattle.c0_meaning.proofs.OffsetsAddUp.{push_one, types_left}
use Rattle.c0_meaning.proofs.SizedTypes.{decl_sized, words_left}
use Rattle.c0_meaning.proofs.offsets.push_offsets.Goals as goal

pub words_of-requires : goal.words_of-requires
words_of-requires c =
    (subst (λ (d : Decl). IsSized (shapes (unit_view c.args.unit.now)) (type_view d.ty)) (sym c.decl-item.is)
    (decl_sized (shapes (unit_view c.args.unit.now)) c.args.decls.now c.loop-decl.decl-index c.decl-item.result c.requires.decls c.loop-decl-test.true)).resolved

pub loop-decl-preserved : goal.loop-decl-preserved
loop-decl-preserved c =
    let structs : List Shape = shapes (unit_view c.args.unit.now) in
    let item : slice_index_or c.args.decls.now c.loop-decl.decl-index c.decl-item.result ≡ c.decl-item.result = sym c.decl-item.is in
    let left = words_left structs c.args.decls.now c.loop-decl.decl-index c.decl-item.result c.loop-decl-test.true in
    let here : capped structs (ty_of (type_view (slice_index_or c.args.decls.now c.loop-decl.decl-index c.decl-item.result).ty)) ≡ c.words_of.result =
    ap (λ (d : Decl). capped structs (ty_of (type_view d.ty))) item ∙ sym c.words_of.ensures in
    let sized : IsSized structs (type_view (slice_index_or c.args.decls.now c.loop-decl.decl-index c.decl-item.result).ty) =
    decl_sized structs c.args.decls.now c.loop-decl.decl-index c.decl-item.result c.requires.decls c.loop-decl-test.true in
    let few = sized.small in
    let next : c.loop-decl.at + c.from-at.result ≡ c.loop-decl.at + words structs (ty_of (type_view (slice_index_or c.args.decls.now c.loop-decl.decl-index c.decl-item.result).ty)) = omega (arith, c.from-at.ensures) in
    record {
      offsets = ap (λ (l : List ℕ). l ++ offsets_from structs (c.loop-decl.at + c.from-at.result) (types_left c.args.decls.now (c.loop-decl.decl-index + 1))) c.in_ok-push.ensures.items
          ∙ (push_one c.loop-decl.offsets.items structs c.loop-decl.at (c.loop-decl.at + c.from-at.result) c.args.decls.now c.loop-decl.decl-index c.decl-item.result c.loop-decl-test.true next
          ∙ c.loop-decl.invariant.offsets);
      words = omega (arith, c.loop-decl.invariant.words, c.from-at.ensures);
      small = omega (arith, c.loop-decl.invariant.small, c.from-at.ensures);
    }
