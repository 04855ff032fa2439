-- What isn't known behind a statement any more: of a variable that it assigns nothing, and behind a call of no parameter that it stands in its register.
use Rattle.std.specs.Prelude.{◌==◌, nat_lt, if◌then◌else◌, Option}
use Rattle.std.proofs.Common.{◌≡◌, ℕ, zero, suc, Bool, true, false, List, [], ◌∷◌, None, Some, get_or, set, replicate, refl, ap, ◌∙◌}
use Rattle.std.proofs.lemmas.Bool.{and_right}
use Rattle.c0_typed.specs.Tree.{TExpr, global, local, part, element, target, constant, address, negative, negation, plain, quotient, remainder, both, either}
use Rattle.c0_expr_code.specs.declared.facts.Facts.{Facts}
use Rattle.c0_expr_code.specs.Facts.{assigned_to, facts_called, facts_followed, holds_answer, holds_param, register_holding, variable_in, with_sure}
use Rattle.c0_stmt_code.specs.Behind.{answer_known, kill_place, stored_facts}

-- a flag that is cleared, and flags of which all are
pub cleared : (xs : List Bool) (n : ℕ) → get_or (set xs n false) n false ≡ false
cleared [] n = refl
cleared (x ∷ xs) zero = refl
cleared (x ∷ xs) (suc n) = cleared xs n

all_cleared : (k n : ℕ) → get_or (replicate k false) n false ≡ false
all_cleared zero n = refl
all_cleared (suc k) zero = refl
all_cleared (suc k) (suc n) = all_cleared k n

still_cleared : (xs : List Bool) (m n : ℕ) → get_or xs n false ≡ false → get_or (set xs m false) n false ≡ false
still_cleared [] m n e = e
still_cleared (x ∷ xs) zero zero e = refl
still_cleared (x ∷ xs) zero (suc n) e = e
still_cleared (x ∷ xs) (suc m) zero e = e
still_cleared (x ∷ xs) (suc m) (suc n) e = still_cleared xs m n e

-- no register has the word of a variable that was assigned
answer_gone : (o : Option ℕ) (n : ℕ) → holds_answer (if holds_answer o n then None else o) n ≡ false
answer_gone None n = refl
answer_gone (Some m) n = by (m == n) refl
  where
    by : (b : Bool) → (m == n) ≡ b → holds_answer (if b then None else Some m) n ≡ false
    by true e = refl
    by false e = e

in_none : (a b : Bool) (x y : Option ℕ) → a ≡ false → b ≡ false → (if a then x else if b then y else None) ≡ None
in_none true b x y e h = absurd (cc)
in_none false true x y e h = absurd (cc)
in_none false false x y e h = refl

pub in_no_register : (f : Facts) (n : ℕ) → register_holding (assigned_to f n) n ≡ None
in_no_register f n = in_none _ _ _ _ (answer_gone f.answer n) (and_right (nat_lt n 8) (get_or (set f.params n false) n false) (cleared f.params n))

-- an expression that is followed says nothing of parameters, nor of an answer
with_params : (f : Facts) (o : Option ℕ) → (with_sure f o).params ≡ f.params
with_params f None = refl
with_params f (Some n) = refl

with_answer : (f : Facts) (o : Option ℕ) → (with_sure f o).answer ≡ f.answer
with_answer f None = refl
with_answer f (Some n) = refl

followed_same : {A : Type 0} (field : Facts → A) → ((f : Facts) (o : Option ℕ) → field (with_sure f o) ≡ field f) → (e : TExpr) (f : Facts)
    → field (facts_followed e f) ≡ field f
followed_same field stays (global k) f = refl
followed_same field stays (local n w) f = refl
followed_same field stays (part p k) f = followed_same field stays p f
followed_same field stays (element p i x) f = followed_same field stays i (facts_followed p f) ∙ followed_same field stays p f
followed_same field stays (target p) f = stays (facts_followed p f) (variable_in p) ∙ followed_same field stays p f
followed_same field stays (constant k) f = refl
followed_same field stays (address p) f = followed_same field stays p f
followed_same field stays (negative e) f = followed_same field stays e f
followed_same field stays (negation e) f = followed_same field stays e f
followed_same field stays (plain o a b) f = followed_same field stays b (facts_followed a f) ∙ followed_same field stays a f
followed_same field stays (quotient a b) f = followed_same field stays b (facts_followed a f) ∙ followed_same field stays a f
followed_same field stays (remainder a b) f = followed_same field stays b (facts_followed a f) ∙ followed_same field stays a f
followed_same field stays (both a b) f = followed_same field stays a f
followed_same field stays (either a b) f = followed_same field stays a f

killed_params : (p : TExpr) (f : Facts) (n : ℕ) → get_or f.params n false ≡ false → get_or (kill_place p f).params n false ≡ false
killed_params (local m w) f n e = still_cleared f.params m n e
killed_params p f n e = e

answered_params : (r : Bool) (p : TExpr) (f : Facts) → (answer_known r p f).params ≡ f.params
answered_params true p f = refl
answered_params false (local n w) f = refl
answered_params false p f = refl

pub no_param : (r : Bool) (p : TExpr) (f : Facts) (n : ℕ) → holds_param (answer_known r p (stored_facts p (facts_called f))) n ≡ false
no_param r p f n =
    let read : List Bool → Bool = λ xs. get_or xs n false in
    let found : get_or (facts_followed p (facts_called f)).params n false ≡ false = ap read (followed_same (λ g. g.params) with_params p (facts_called f)) ∙ all_cleared 8 n in
    and_right (nat_lt n 8) (get_or (answer_known r p (stored_facts p (facts_called f))).params n false)
    (ap read (answered_params r p (stored_facts p (facts_called f))) ∙ killed_params p (facts_followed p (facts_called f)) n found)

-- an answer that goes to no variable isn't known behind its call
killed_answer : (p : TExpr) (f : Facts) → variable_in p ≡ None → (kill_place p f).answer ≡ f.answer
killed_answer (local n w) f e = absurd (cc)
killed_answer p f e = refl

known_answer : (r : Bool) (p : TExpr) (f : Facts) → variable_in p ≡ None → (answer_known r p f).answer ≡ f.answer
known_answer true p f e = refl
known_answer false (local n w) f e = absurd (cc)
known_answer false p f e = refl

pub answer_forgotten : (r : Bool) (p : TExpr) (f : Facts) → variable_in p ≡ None → (answer_known r p (stored_facts p (facts_called f))).answer ≡ None
answer_forgotten r p f e =
    known_answer r p (stored_facts p (facts_called f)) e ∙ killed_answer p (facts_followed p (facts_called f)) e
    ∙ followed_same (λ g. g.answer) with_answer p (facts_called f)
