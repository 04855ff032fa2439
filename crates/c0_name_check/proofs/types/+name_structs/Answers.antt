-- A pointer and an array name the structs of their parts.
use Rattle.std.proofs.Common.{rules, ◌≡◌, sym, ap, ◌∙◌}
use Rattle.c0_tree.specs.declared.tree.CType as rust
use Rattle.c0_tree.specs.declared.tree.CType.TheFolds as folds
use Rattle.c0_tree.specs.Tree.{pointer, array}
use Rattle.c0_tree.specs.View.{type_view}
use Rattle.c0_name_check.specs.Names.{look}
use Rattle.c0_name_check.specs.Structs as structs
use Rattle.c0_name_check.proofs.types.+name_structs.Goals as goal

view_pointer : (b : _) → type_view (rust.Pointer b) ≡ pointer (type_view b.value)
view_pointer b = search (rules, folds.the_lemmas)

view_array : (b : _) (n : _) → type_view (rust.Array b n) ≡ array (type_view b.value) n
view_array b n = search (rules, folds.the_lemmas)

pub returns-in-Pointer-clause-named : goal.returns-in-Pointer-clause-named
returns-in-Pointer-clause-named t c =
    view_pointer _
    ∙ (ap pointer (c.name_structs.ensures.named ∙ ap (λ x. structs.numbered_type (look c.args.names.now) (type_view x)) c.deref_mut.ensures.value)
    ∙ ap (structs.numbered_type (look c.args.names.now)) (sym (ap type_view c.in-Pointer.is ∙ view_pointer _)))

pub returns-in-Array-clause-named : goal.returns-in-Array-clause-named
returns-in-Array-clause-named t c =
    view_array _ _
    ∙ (ap (λ x. array x c.in-Array.field-1) (c.name_structs-in-Array.ensures.named ∙ ap (λ x. structs.numbered_type (look c.args.names.now) (type_view x)) c.deref_mut-in-Array.ensures.value)
    ∙ ap (structs.numbered_type (look c.args.names.now)) (sym (ap type_view c.in-Array.is ∙ view_array _ _)))
