-- What an expression, and a function, is elaborated to.
use Rattle.std.specs.Prelude.{◌≡◌, ℕ, true, if◌then◌else◌, IfOk, List, Option, None, Result, option_map}
use Rattle.c0_tree.specs.Tree.{CExpr, CUnit}
use Rattle.c0_meaning.specs.Env.{Shape}
use Rattle.c0_meaning.specs.Expression.{is_lvalue, target as behind}
use Rattle.c0_meaning.specs.Form.{found_view, is_declared}
use Rattle.c0_meaning.specs.Sound.{shapes}
use Rattle.c0_meaning.specs.Ty.{Ty, pointer}
use Rattle.c0_meaning.specs.TypeAt.{IsFoundResolved, element, field_type, type_at}
use Rattle.c0_meaning.specs.declared.form.Found.{Found}
use Rattle.c0_typed.specs.declared.elaborated.Elaborated.{Elaborated}
use Rattle.c0_typed.specs.declared.tree.TypedFunction.{TypedFunction}
use Rattle.c0_typed.specs.Seen.{OfFunction}
use Rattle.c0_typed.specs.Tree.{TExpr, address, part, target}
use Rattle.c0_typed.specs.SeenEnv.{env_seen, unit_seen}
use Rattle.c0_typed.specs.Typed.{elements_in, field_bytes, typed_element, typed_of_expr, typed_of_function}
use Rattle.c0_typed.specs.View.{typed_expr_view, typed_function_view}
use Rattle.c0_typed.specs.declared.seen_function.SeenFunction.{SeenFunction}

-- it has this tree and this type
pub record HasTreeAndType (t : TExpr) (a : Option Ty) (x : Elaborated) : Type 0 where
  pub tree : typed_expr_view x.tree ≡ t
  pub ty : found_view x.ty ≡ a

-- the names in a type are resolved where those in another are
pub record StaysResolved (from to : Found) : Type 0 where
  pub kept : (structs : List Shape) → IsFoundResolved structs from → IsFoundResolved structs to

-- it is the field of a number in its owner
pub record IsElaboratedField (f : SeenFunction) (owner : Elaborated) (n : ℕ) (x : Elaborated) : Type 0 where
  pub tree : typed_expr_view x.tree ≡ part (typed_expr_view owner.tree) (field_bytes (env_seen f).structs (found_view owner.ty) n)
  pub ty : found_view x.ty ≡ field_type (env_seen f).structs (found_view owner.ty) n
  pub declared : is_declared x.ty ≡ true
  pub resolved : IsFoundResolved (shapes (unit_seen f)) x.ty

-- it is what a pointer points to
pub record IsTargetOf (pointer x : Elaborated) : Type 0 where
  pub tree : typed_expr_view x.tree ≡ target (typed_expr_view pointer.tree)
  pub ty : found_view x.ty ≡ behind (found_view pointer.ty)
  pub declared : is_declared x.ty ≡ true
  pub resolved : StaysResolved pointer.ty x.ty

-- it is the address of an expression, which has a type where this is a place
pub record IsAddressOf (e : CExpr) (place x : Elaborated) : Type 0 where
  pub tree : typed_expr_view x.tree ≡ address (typed_expr_view place.tree)
  pub ty : found_view x.ty ≡ if is_lvalue e then option_map pointer (found_view place.ty) else None
  pub resolved : StaysResolved place.ty x.ty

-- it is an element of an array, by an index that may be written as a number
pub record IsElaboratedElement (f : SeenFunction) (array : Elaborated) (index : TExpr) (written : Option ℕ) (x : Elaborated) : Type 0 where
  pub tree : typed_expr_view x.tree ≡ typed_element (elements_in (env_seen f).structs (found_view array.ty)) (typed_expr_view array.tree) index written
  pub ty : found_view x.ty ≡ element (found_view array.ty)
  pub declared : is_declared x.ty ≡ true
  pub resolved : IsFoundResolved (shapes (unit_seen f)) x.ty

-- so is an expression of a function: a place has a type as declared
pub record IsElaborated (f : SeenFunction) (e : CExpr) (x : Elaborated) : Type 0 where
  pub tree : typed_expr_view x.tree ≡ typed_of_expr (env_seen f) e
  pub ty : found_view x.ty ≡ type_at (env_seen f) e
  pub declared : is_lvalue e ≡ true → is_declared x.ty ≡ true
  pub resolved : IsFoundResolved (shapes (unit_seen f)) x.ty

-- THE TYPED TREE of the function of a number of a unit
abbrev pub TypesFunction : {E : Type 0} → CUnit → ℕ → Result TypedFunction E → Type 0
TypesFunction u number result = OfFunction u number (λ f. IfOk result (λ x. typed_function_view x ≡ typed_of_function u f))
