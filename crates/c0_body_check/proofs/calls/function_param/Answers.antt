-- The type of the declaration that was got is that of the parameter.
use Rattle.std.proofs.Common.{◌≡◌, Some, length, slice_get, map, refl, sym, ap, ◌∙◌}
use Rattle.std.specs.Prelude.{option_map}
use Rattle.std.proofs.lemmas.Option.{slice_get-map, slice_get_read}
use Rattle.c0_tree.specs.View.{decl_view}
use Rattle.c0_meaning.specs.Ty.{ty_of}
use Rattle.c0_body_check.proofs.calls.function_param.Goals as goal

pub returns-in-Some : goal.returns-in-Some
returns-in-Some c =
    let got : slice_get c.deref.result.now c.args.index ≡ Some c.in-Some.decl.now =
    slice_get_read _ (length c.deref.result.now) c.args.index _ refl c.in-Some.ensures.lookup.3.0 c.in-Some.ensures.lookup.1 in
    sym (slice_get-map (λ d. ty_of d.ty) (map decl_view c.args.function.now.params.items) c.args.index
    ∙ (ap (option_map (λ d. ty_of d.ty)) (slice_get-map decl_view c.args.function.now.params.items c.args.index)
    ∙ ap (λ l. option_map (λ d. ty_of d.ty) (option_map decl_view (slice_get l c.args.index))) (sym c.deref.ensures.value)
    ∙ ap (λ o. option_map (λ d. ty_of d.ty) (option_map decl_view o)) got))
