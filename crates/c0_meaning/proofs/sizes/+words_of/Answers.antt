use Rattle.std.proofs.Common.{rules, ◌≡◌, ◌*◌, min, ℕ, sym, ap, ◌∙◌, subst}
use Rattle.c0_tree.specs.declared.tree.CType as rust
use Rattle.c0_tree.specs.declared.tree.CType.TheFolds as folds
use Rattle.c0_tree.specs.Tree.{CTy, array, named}
use Rattle.c0_tree.specs.View.{type_view, unit_view, name_view}
use Rattle.c0_meaning.specs.Ty.{ty_of}
use Rattle.c0_meaning.specs.Resolved.{IsResolved}
use Rattle.c0_meaning.specs.Sizes.{capped, WORDS_CAP}
use Rattle.c0_meaning.specs.Sound.{shapes}
use Rattle.c0_meaning.proofs.SizedTypes.{struct_below, struct_told, array_told}
use Rattle.c0_meaning.proofs.sizes.+words_of.Goals as goal

view_named : (x : _) → type_view (rust.Named x) ≡ named (name_view x)
view_named x = search (rules, folds.the_lemmas)

view_array : (t : _) (n : _) → type_view (rust.Array t n) ≡ array (type_view t.value) n
view_array t n = search (rules, folds.the_lemmas)

pub struct_words-requires : goal.struct_words-requires
struct_words-requires t c =
    struct_below c.args.unit.now.structs.items (name_view c.in-Named.name)
    (subst (IsResolved (shapes (unit_view c.args.unit.now))) (ap type_view c.in-Named.is ∙ view_named c.in-Named.name) c.requires)

pub returns-in-Named : goal.returns-in-Named
returns-in-Named t c =
    let e : type_view c.args.ty.now ≡ named (name_view c.in-Named.name) = ap type_view c.in-Named.is ∙ view_named c.in-Named.name in
    struct_told (shapes (unit_view c.args.unit.now)) (name_view c.in-Named.name) c.struct_words.result (subst (IsResolved (shapes (unit_view c.args.unit.now))) e c.requires) c.struct_words.ensures
    ∙ ap (λ (v : CTy). capped (shapes (unit_view c.args.unit.now)) (ty_of v)) (sym e)

pub returns-in-Array : goal.returns-in-Array
returns-in-Array t c =
    let e : type_view c.args.ty.now ≡ array (type_view c.in-Array.element.value) c.in-Array.length = ap type_view c.in-Array.is ∙ view_array c.in-Array.element c.in-Array.length in
    let w : c.words_of.result ≡ capped (shapes (unit_view c.args.unit.now)) (ty_of (type_view c.in-Array.element.value)) =
    c.words_of.ensures ∙ ap (λ (v : rust.CType). capped (shapes (unit_view c.args.unit.now)) (ty_of (type_view v))) c.deref.ensures in
    c.min.ensures
    ∙ (ap (λ (m : ℕ). min m WORDS_CAP) c.saturating_mul.ensures
    ∙ (ap (λ (m : ℕ). min (min (m * c.in-Array.length) 4294967295) WORDS_CAP) w
    ∙ (array_told (shapes (unit_view c.args.unit.now)) (ty_of (type_view c.in-Array.element.value)) c.in-Array.length
    ∙ ap (λ (v : CTy). capped (shapes (unit_view c.args.unit.now)) (ty_of v)) (sym e))))
