use Rattle.std.proofs.Common.{◌≡◌, ◌+◌, ◌++◌, ℕ, List, map, sym, ap, ◌∙◌}
use Rattle.c0_tree.specs.declared.tree.Body.{Body}
use Rattle.c0_tree.specs.declared.tree.Decl.{Decl}
use Rattle.c0_tree.specs.View.{decl_view, body_view, unit_view}
use Rattle.c0_meaning.specs.Env.{Shape, typed_of}
use Rattle.c0_meaning.specs.Limits.{locals_of}
use Rattle.c0_meaning.specs.Offsets.{offsets, offsets_from}
use Rattle.c0_meaning.specs.Sound.{shapes}
use Rattle.c0_meaning.specs.TypedState.{types_of}
use Rattle.c0_meaning.specs.Words.{all_words}
use Rattle.c0_meaning.proofs.OffsetsAddUp.{push_both}
use Rattle.c0_meaning.proofs.offsets.function_offsets.Goals as goal

pub returns-in_ok-push_offsets-in-Code : goal.returns-in_ok-push_offsets-in-Code
returns-in_ok-push_offsets-in-Code c =
    let structs : List Shape = shapes (unit_view c.args.unit.now) in
    let first : c.push_offsets.new.offsets.items ≡ offsets_from structs 0 (types_of (map typed_of (map decl_view c.args.function.now.params.items))) =
    c.in_ok-end.ensures.offsets
    ∙ (ap (λ (l : List ℕ). l ++ offsets_from structs 0 (types_of (map typed_of (map decl_view c.deref.result.now)))) c.new-offsets.ensures.items
    ∙ ap (λ (ds : List Decl). offsets_from structs 0 (types_of (map typed_of (map decl_view ds)))) c.deref.ensures.value) in
    let end : c.in_ok-end.end ≡ 0 + all_words structs (map typed_of (map decl_view c.args.function.now.params.items)) =
    c.in_ok-end.ensures.end ∙ ap (λ (ds : List Decl). 0 + all_words structs (map typed_of (map decl_view ds))) c.deref.ensures.value in
    let both : c.push_offsets-in-Code.new.offsets.items ≡ c.push_offsets.new.offsets.items ++ offsets_from structs c.in_ok-end.end (types_of (map typed_of (map decl_view c.in-Code.code.locals.items))) =
    c.in_ok-push_offsets-in-Code.ensures.offsets
    ∙ ap (λ (ds : List Decl). c.push_offsets.new.offsets.items ++ offsets_from structs c.in_ok-end.end (types_of (map typed_of (map decl_view ds)))) c.deref-in-Code.ensures.value in
    push_both structs (map decl_view c.args.function.now.params.items) (map decl_view c.in-Code.code.locals.items) c.push_offsets.new.offsets.items c.push_offsets-in-Code.new.offsets.items c.in_ok-end.end first end both
    ∙ ap (λ (b : Body). offsets structs (types_of (map typed_of (map decl_view c.args.function.now.params.items ++ locals_of (body_view b))))) (sym c.in-Code.is)
