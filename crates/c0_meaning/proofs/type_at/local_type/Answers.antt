use Rattle.std.proofs.Common.{◌≡◌, ◌++◌, ◌+◌, ◌-◌, ◌<◌, List, [], length, map, sym, ap, ◌∙◌, arith}
use Rattle.std.specs.Prelude.{option_map, slice_get}
use Rattle.std.proofs.lemmas.List.{length-map}
use Rattle.c0_tree.specs.declared.tree.Decl.{Decl}
use Rattle.c0_tree.specs.declared.tree.Body.{Body}
use Rattle.c0_tree.specs.View.{decl_view, body_view}
use Rattle.c0_meaning.specs.Env.{Typed, typed_of}
use Rattle.c0_meaning.specs.Limits.{locals_of}
use Rattle.c0_meaning.proofs.TypesTold.{in_first, in_second}
use Rattle.c0_meaning.proofs.type_at.local_type.Goals as goal

pub returns-then-number-count-clause-gives : goal.returns-then-number-count-clause-gives
returns-then-number-count-clause-gives c =
    let params = c.args.function.now.params.items in
    let count : length (map decl_view params) ≡ length params = length-map params decl_view in
    let below : c.args.number < length (map decl_view params) = omega (arith, c.if-number-count.true, c.len-count.ensures) in
    c.declared_type.ensures.gives
    ∙ ap (λ (ds : List Decl). option_map (λ (d : Typed). d.ty) (slice_get (map typed_of (map decl_view ds)) c.args.number)) c.deref.ensures.value
    ∙ ap (option_map (λ (d : Typed). d.ty)) (in_first typed_of (map decl_view params) (locals_of (body_view c.args.function.now.body)) c.args.number below)

pub returns-in-Code-clause-gives : goal.returns-in-Code-clause-gives
returns-in-Code-clause-gives c =
    let params = c.args.function.now.params.items in
    let locals = c.in-Code.code.locals.items in
    let count : length (map decl_view params) ≡ length params = length-map params decl_view in
    let k = c.args.number - c.len-count.result in
    let e : c.args.number ≡ length (map decl_view params) + k = omega (arith, c.if-number-count.false, c.len-count.ensures) in
    c.declared_type-in-Code.ensures.gives
    ∙ ap (λ (ds : List Decl). option_map (λ (d : Typed). d.ty) (slice_get (map typed_of (map decl_view ds)) k)) c.deref-in-Code.ensures.value
    ∙ ap (option_map (λ (d : Typed). d.ty)) (in_second typed_of (map decl_view params) (map decl_view locals) c.args.number k e)
    ∙ ap (λ (b : Body). option_map (λ (d : Typed). d.ty) (slice_get (map typed_of (map decl_view params ++ locals_of (body_view b))) c.args.number)) (sym c.in-Code.is)

pub returns-in-Asm-clause-gives : goal.returns-in-Asm-clause-gives
returns-in-Asm-clause-gives c =
    let params = c.args.function.now.params.items in
    let count : length (map decl_view params) ≡ length params = length-map params decl_view in
    let k = c.args.number - c.len-count.result in
    let e : c.args.number ≡ length (map decl_view params) + k = omega (arith, c.if-number-count.false, c.len-count.ensures) in
    ap (option_map (λ (d : Typed). d.ty)) (in_second typed_of (map decl_view params) [] c.args.number k e)
    ∙ ap (λ (b : Body). option_map (λ (d : Typed). d.ty) (slice_get (map typed_of (map decl_view params ++ locals_of (body_view b))) c.args.number)) (sym c.in-Asm.is)
