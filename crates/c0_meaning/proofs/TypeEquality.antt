-- Types are equal where they are written the same.
use Rattle.std.proofs.Common.{◌≡◌, Bool, true, false, ◌&&◌, ◌==◌, refl, ap, ◌∙◌, subst}
use Rattle.std.proofs.lemmas.Slice.Eq.{bytes_eq-Decides}
use Rattle.std.proofs.lemmas.Bool.Decides.{Decides-eqb}
use Rattle.c0_meaning.specs.Ty.{Ty, int, bool, pointer, named, array, same_ty, TypesEqualAsWritten}

two_tests : (x y : Bool) → (x && y) ≡ true → (x ≡ true) × (y ≡ true)
two_tests true y h = (refl, h)
two_tests false y h = cc

both_tests : (x y : Bool) → x ≡ true → y ≡ true → (x && y) ≡ true
both_tests x y p q = ap (λ (b : Bool). b && y) p ∙ q

-- a type is written as itself
pub same_ty-itself : (t : Ty) → same_ty t t ≡ true
same_ty-itself int = refl
same_ty-itself bool = refl
same_ty-itself (pointer t) = same_ty-itself t
same_ty-itself (named x) = (bytes_eq-Decides x x).1 refl
same_ty-itself (array t n) = both_tests (n == n) (same_ty t t) ((Decides-eqb n n).1 refl) (same_ty-itself t)

-- types that are written the same are equal
pub equal-same_ty : (t u : Ty) → same_ty t u ≡ true → t ≡ u
equal-same_ty int int h = refl
equal-same_ty bool bool h = refl
equal-same_ty (pointer t) (pointer u) h = ap pointer (equal-same_ty t u h)
equal-same_ty (named x) (named y) h = ap named ((bytes_eq-Decides x y).0 h)
equal-same_ty (array t m) (array u n) h =
    let p = two_tests (m == n) (same_ty t u) h in
    ap (λ (k : Ty). array k m) (equal-same_ty t u p.1) ∙ ap (array u) ((Decides-eqb m n).0 p.0)
equal-same_ty _ _ h = cc

pub equal_as_written : TypesEqualAsWritten
equal_as_written t u = (equal-same_ty t u, λ e. subst (λ (v : Ty). same_ty t v ≡ true) e (same_ty-itself t))
