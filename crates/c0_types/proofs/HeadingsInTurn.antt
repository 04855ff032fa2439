-- The headings of functions, one after the other, and what they leave as it is.
use Rattle.std.proofs.Common.{◌≡◌, ℕ, zero, suc, ◌<◌, ◌^◌, Bool, true, false, ◌&&◌, nat_lt, List, [], ◌∷◌, length, map, get_or, set, refl, ap, arith}
use Rattle.std.specs.List.{list_all}
use Rattle.std.proofs.lemmas.List.{length-map}
use Rattle.std.proofs.lemmas.Bool.Decides.{nat_tests}
use Rattle.c0_tree.specs.Plain.{is_plain_body, is_short}
use Rattle.c0_tree.specs.Tree.{CFunction}
use Rattle.c0_tree.specs.View.{decl_view, function_view}
use Rattle.c0_tree.specs.declared.tree.Function.{Function}
use Rattle.c0_meaning.specs.Env.{Shape}
use Rattle.c0_types.specs.Parts.{headed, headed_functions, is_plain_function}
use Rattle.c0_types.proofs.DeclaredInPlace.{numbered}

-- all are headed
pub functions_numbered : (structs : List Shape) (k : ℕ) (fs : List CFunction)
    → numbered (headed structs) k (length fs) fs ≡ headed_functions structs k fs
functions_numbered structs k [] = refl
functions_numbered structs k (f ∷ fs) = ap (◌∷◌ (headed structs k f)) (functions_numbered structs (suc k) fs)

and-left : (a b : Bool) → (a && b) ≡ true → a ≡ true
and-left true b h = refl
and-left false b h = h

and-right : (a b : Bool) → (a && b) ≡ true → b ≡ true
and-right true b h = h
and-right false true h = refl
and-right false false h = h

-- what is so of all is so of each
pub all_at : {A : Type 0} (p : A → Bool) (xs : List A) (i : ℕ) (d : A) → list_all p xs ≡ true → i < length xs → p (get_or xs i d) ≡ true
all_at p [] i d h within = absurd (omega (arith, within))
all_at p (x ∷ xs) zero d h within = and-left (p x) (list_all p xs) h
all_at p (x ∷ xs) (suc i) d h within = all_at p xs i d (and-right (p x) (list_all p xs) h) (omega (arith, within))

-- the parameters of a plain function are few
pub few_params : (f : Function) → is_plain_function (function_view f) ≡ true → length f.params.items < 2 ^ 32
few_params f h =
    let short : nat_lt (length (map decl_view f.params.items)) (2 ^ 32) ≡ true = and-left (is_short (function_view f).params) (is_plain_body (function_view f).body) h in
    let e : length (map decl_view f.params.items) ≡ length f.params.items = length-map f.params.items decl_view in
    below (length (map decl_view f.params.items)) (length f.params.items) e short
  where
    below : (n m : ℕ) → n ≡ m → nat_lt n (2 ^ 32) ≡ true → m < 2 ^ 32
    below n m e s = grind (arith, nat_tests)

-- and so is its body plain
pub plain_body : (f : CFunction) → is_plain_function f ≡ true → is_plain_body f.body ≡ true
plain_body f h = and-right (is_short f.params) (is_plain_body f.body) h

-- another element than the one that is set stays
pub other_set : {A : Type 0} (xs : List A) (i j : ℕ) (x d : A) → i < j → get_or (set xs i x) j d ≡ get_or xs j d
other_set [] zero j x d h = refl
other_set [] (suc i) j x d h = refl
other_set (y ∷ xs) zero zero x d h = absurd (omega (arith, h))
other_set (y ∷ xs) zero (suc j) x d h = refl
other_set (y ∷ xs) (suc i) zero x d h = absurd (omega (arith, h))
other_set (y ∷ xs) (suc i) (suc j) x d h = other_set xs i j x d (omega (arith, h))
