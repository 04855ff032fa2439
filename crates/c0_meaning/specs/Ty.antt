-- Types without their places in the source.
use Rattle.std.specs.Prelude.{◌≡◌, ℕ, Bool, true, false, ◌&&◌, ◌==◌, ◌↔◌, List, IsTrue}
use Rattle.std.specs.Str.{bytes_eq}
use Rattle.c0_tree.specs.Tree.{CTy}
use Rattle.c0_tree.specs.Tree as tree

-- a type: a struct is known by its name
pub data Ty : Type 0 where
  int : Ty
  bool : Ty
  pointer : (target : Ty) → Ty
  named : (text : List ℕ) → Ty
  array : (element : Ty) (size : ℕ) → Ty

-- the type that is written
abbrev pub ty_of : CTy → Ty
ty_of tree.int = int
ty_of tree.bool = bool
ty_of (tree.pointer t) = pointer (ty_of t)
ty_of (tree.named x) = named x.text
ty_of (tree.array t n) = array (ty_of t) n

-- whether two types are written the same
abbrev pub same_ty : Ty → Ty → Bool
same_ty int int = true
same_ty bool bool = true
same_ty (pointer t) (pointer u) = same_ty t u
same_ty (named x) (named y) = bytes_eq x y
same_ty (array t m) (array u n) = (m == n) && same_ty t u
same_ty _ _ = false

-- int, bool and pointers
abbrev pub is_scalar : Ty → Bool
is_scalar int = true
is_scalar bool = true
is_scalar (pointer t) = true
is_scalar (named x) = false
is_scalar (array t n) = false

-- the test is equality
abbrev pub TypesEqualAsWritten : Type 0
TypesEqualAsWritten = (t u : Ty) → IsTrue (same_ty t u) ↔ (t ≡ u)
