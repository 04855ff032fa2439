-- The globals of a well-formed unit are sized, and have few words.
use Rattle.std.proofs.Common.{◌≡◌, ◌≤◌, List, map, subst, sym, ap, ◌∙◌, arith}
use Rattle.std.specs.List.{All}
use Rattle.c0_tree.specs.declared.tree.Decl.{Decl}
use Rattle.c0_tree.specs.declared.tree.Unit.{Unit as Source}
use Rattle.c0_tree.specs.Tree.{CUnit}
use Rattle.c0_tree.specs.Primitives.{CPrimitive}
use Rattle.c0_tree.specs.View.{decl_view, unit_view}
use Rattle.c0_meaning.specs.Env.{typed_of}
use Rattle.c0_meaning.specs.Sound.{shapes, IsSized, global_words}
use Rattle.c0_meaning.specs.Words.{all_words}
use Rattle.c0_meaning.specs.Typed.{UnitsAreFaultless}
use Rattle.c0_meaning.specs.Unit.{IsWellFormed}
use Rattle.c0_unit.proofs.globals.global_words.Goals as goal

few_words : UnitsAreFaultless → (primitives : List CPrimitive) (u : CUnit) → IsWellFormed primitives u → global_words u ≤ 262144
few_words law primitives u w = ((law primitives u).1 w.typed).words

pub decls_words-requires-clause-decls : goal.decls_words-requires-clause-decls
decls_words-requires-clause-decls c =
    let e : c.deref.result.now ≡ c.args.unit.now.globals.items = c.deref.ensures.value ∙ ap (λ (u : Source). u.globals.items) c.unit.ensures.same in
    subst (λ (ds : List Decl). All (λ d. IsSized (shapes (unit_view c.args.unit.now)) d.ty) (map decl_view ds)) (sym e)
    (c.well_formed_units_are_sized.ensures _ _ c.unit.ensures.well_formed.1).globals

pub overflow_cast-result : goal.overflow_cast-result
overflow_cast-result c =
    let e : c.deref.result.now ≡ c.args.unit.now.globals.items = c.deref.ensures.value ∙ ap (λ (u : Source). u.globals.items) c.unit.ensures.same in
    let v : c.decls_words.result ≡ global_words (unit_view c.args.unit.now) =
    c.decls_words.ensures.value ∙ ap (λ (ds : List Decl). all_words (shapes (unit_view c.args.unit.now)) (map typed_of (map decl_view ds))) e in
    let few : global_words (unit_view c.args.unit.now) ≤ 262144 = few_words c.units_are_typed_or_faulty.ensures _ _ c.unit.ensures.well_formed.1 in
    omega arith

pub returns-clause-most : goal.returns-clause-most
returns-clause-most c =
    let e : c.deref.result.now ≡ c.args.unit.now.globals.items = c.deref.ensures.value ∙ ap (λ (u : Source). u.globals.items) c.unit.ensures.same in
    let v : c.decls_words.result ≡ global_words (unit_view c.args.unit.now) =
    c.decls_words.ensures.value ∙ ap (λ (ds : List Decl). all_words (shapes (unit_view c.args.unit.now)) (map typed_of (map decl_view ds))) e in
    let few : global_words (unit_view c.args.unit.now) ≤ 262144 = few_words c.units_are_typed_or_faulty.ensures _ _ c.unit.ensures.well_formed.1 in
    omega arith
