-- The struct of the name has the number that the map tells, and its fields are those of its own map.
use Rattle.std.proofs.Common.{◌<◌, map, sym, ap, ◌∙◌, subst}
use Rattle.std.proofs.lemmas.Simd.{map-map}
use Rattle.c0_tree.specs.View.{decl_view}
use Rattle.c0_meaning.specs.Env.{typed_of, first_named, fields_of}
use Rattle.c0_name_check.specs.Names.{number_named}
use Rattle.c0_body_check.specs.Scope.{shape_view, typed_view}
use Rattle.c0_body_check.proofs.NumbersFindNames.{number_within, first_numbered}
use Rattle.c0_body_check.proofs.scope.find_field.Goals as goal

pub bounds-scope-place-in-Some : goal.bounds-scope-place-in-Some
bounds-scope-place-in-Some c =
    number_within shape_view (λ s. s.text) c.args.owner.now _ c.args.scope.now.structs.now
    (sym (c.requires.structs c.args.owner.now) ∙ sym c.in-Some.ensures.value)

pub bounds-scope-place : goal.bounds-scope-place
bounds-scope-place c =
    subst (λ n. c.in-Some.number.now < n) (sym c.requires.fields.count)
    (number_within shape_view (λ s. s.text) c.args.owner.now _ c.args.scope.now.structs.now
    (sym (c.requires.structs c.args.owner.now) ∙ sym c.in-Some.ensures.value))

pub find-requires : goal.find-requires
find-requires c = λ text.
    c.requires.fields.each c.in-Some.number.now c.index-scope-place.result c.index-scope-place-in-Some.result
    (number_within shape_view (λ s. s.text) c.args.owner.now _ c.args.scope.now.structs.now
    (sym (c.requires.structs c.args.owner.now) ∙ sym c.in-Some.ensures.value)) text
    ∙ ap (λ l. number_named (λ v. v.text) text 0 (map typed_view l)) (sym c.as_slice.ensures.value)

pub returns-in-Some : goal.returns-in-Some
returns-in-Some c =
    c.find.ensures.found
    ∙ (ap (λ l. first_named (λ v. v.text) c.args.text.now 0 (map typed_view l)) (c.as_slice.ensures.value ∙ ap (λ s. s.fields.items) (sym c.index-scope-place-in-Some.is))
    ∙ (ap (λ l. first_named (λ v. v.text) c.args.text.now 0 l) (sym (map-map typed_of decl_view c.index-scope-place-in-Some.result.fields.items))
    ∙ ap (λ o. first_named (λ v. v.text) c.args.text.now 0 (fields_of o))
    (sym (first_numbered shape_view (λ s. s.text) c.args.owner.now _ c.args.scope.now.structs.now _
    (sym (c.requires.structs c.args.owner.now) ∙ sym c.in-Some.ensures.value) c.index-scope-place-in-Some.is))))
