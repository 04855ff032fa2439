-- A place is found where some element passes the test.
use Rattle.std.proofs.Common.{◌≡◌, ℕ, ◌+◌, suc, Bool, true, false, not, ◌||◌, cond, nat_lt, List, [], ◌∷◌, length, map, is_some, Some, None, refl, sym, ap, ◌∙◌, arith}
use Rattle.std.specs.Prelude.{position}
use Rattle.std.specs.List.{list_any, prefix_len}
use Rattle.std.proofs.lemmas.Bool.Decides.{nat_tests}
use Rattle.c0_tree.specs.View.{function_view}
use Rattle.c0_meaning.specs.Limits.{is_first}
use Rattle.c0_types.proofs.unit.has_first.Goals as goal

starts : (n : ℕ) → nat_lt 0 (suc n) ≡ true
starts n = grind (arith, nat_tests)

further : (k n : ℕ) → nat_lt (1 + k) (suc n) ≡ nat_lt k n
further k n = grind (arith, nat_tests)

-- the first place is inside of the list where the element at its head passes, or a place is inside of the rest
at_head : {A : Type 0} (p : A → Bool) (x : A) (xs : List A) (b : Bool) → p x ≡ b → nat_lt (prefix_len (λ y. not (p y)) xs) (length xs) ≡ list_any p xs
    → nat_lt (prefix_len (λ y. not (p y)) (x ∷ xs)) (length (x ∷ xs)) ≡ list_any p (x ∷ xs)
at_head p x xs true e rest =
    ap (λ (b : Bool). nat_lt (cond (not b) (1 + prefix_len (λ y. not (p y)) xs) 0) (suc (length xs))) e
    ∙ (starts (length xs) ∙ sym (ap (λ (b : Bool). b || list_any p xs) e))
at_head p x xs false e rest =
    ap (λ (b : Bool). nat_lt (cond (not b) (1 + prefix_len (λ y. not (p y)) xs) 0) (suc (length xs))) e
    ∙ (further (prefix_len (λ y. not (p y)) xs) (length xs) ∙ (rest ∙ sym (ap (λ (b : Bool). b || list_any p xs) e)))

inside : {A : Type 0} (p : A → Bool) (xs : List A) → nat_lt (prefix_len (λ x. not (p x)) xs) (length xs) ≡ list_any p xs
inside p [] = refl
inside p (x ∷ xs) = at_head p x xs (p x) refl (inside p xs)

some : (b : Bool) (n : ℕ) → is_some (cond b (Some n) None) ≡ b
some true n = refl
some false n = refl

found : {A : Type 0} (p : A → Bool) (xs : List A) → is_some (position p xs) ≡ list_any p xs
found p xs = some (nat_lt (prefix_len (λ x. not (p x)) xs) (length xs)) (prefix_len (λ x. not (p x)) xs) ∙ inside p xs

pub returns : goal.returns
returns c = c.is_some.ensures ∙ (ap is_some c.find_first.ensures ∙ found (is_first c.args.program) (map function_view c.args.functions.now))
