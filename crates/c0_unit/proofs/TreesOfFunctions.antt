-- The tree of the function of a number, among the trees of a unit's functions.
use Rattle.std.proofs.Common.{◌≡◌, ℕ, zero, suc, List, [], ◌∷◌, map, get_or, ap, ◌∙◌}
use Rattle.std.specs.Prelude.{Some, slice_get}
use Rattle.c0_tree.specs.declared.tree.Unit.{Unit as Source}
use Rattle.c0_tree.specs.Tree.{CFunction}
use Rattle.c0_tree.specs.View.{unit_view}
use Rattle.c0_typed.specs.declared.tree.TypedFunction.{TypedFunction}
use Rattle.c0_typed.specs.Typed.{typed_of_function, typed_of_unit}
use Rattle.c0_typed.specs.View.{typed_function_view}

-- lists that look the same look the same at each number
mapped_at : {A B C : Type 0} (g : A → C) (h : B → C) (xs : List A) (ys : List B) → map g xs ≡ map h ys → (n : ℕ) (x : A) (y : B) → x ≡ get_or xs n x → slice_get ys n ≡ Some y → g x ≡ h y
mapped_at g h xs [] e n x y at is = absurd (cc)
mapped_at g h [] (z ∷ ys) e n x y at is = absurd (cc)
mapped_at g h (w ∷ xs) (z ∷ ys) e zero x y at is =
    let here : z ≡ y = cc in
    let first : g w ≡ h z = cc in
    ap g at ∙ (first ∙ ap h here)
mapped_at g h (w ∷ xs) (z ∷ ys) e (suc n) x y at is = mapped_at g h xs ys (cc) n x y at is

-- the tree of a number among the trees of a unit, however the unit is reached, is that of the function of the number
pub tree_at : (s t : Source) → s ≡ t → (trees : List TypedFunction) → map typed_function_view trees ≡ typed_of_unit (unit_view s) → (n : ℕ) (tree : TypedFunction) → tree ≡ get_or trees n tree
    → (f : CFunction) → slice_get (unit_view t).functions n ≡ Some f → typed_function_view tree ≡ typed_of_function (unit_view t) f
tree_at s t same trees are n tree at f is =
    mapped_at typed_function_view (typed_of_function (unit_view t)) trees (unit_view t).functions (are ∙ ap (λ (x : Source). typed_of_unit (unit_view x)) same) n tree f at is
