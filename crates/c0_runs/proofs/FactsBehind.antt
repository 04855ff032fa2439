-- What statements end of what is known, and that as much is known behind them as they don't end.
use Rattle.std.specs.Prelude.{IsTrue, not, ◌&&◌, ◌==◌, nat_lt, if◌then◌else◌, Option}
use Rattle.std.proofs.Common.{◌≡◌, ◌≢◌, inl, inr, ℕ, zero, suc, replicate, ◌<◌, Bool, true, false, List, [], ◌∷◌, length, None, Some, get_or, set, refl, sym, ap, ◌∙◌, arith, length-set, get_or-set_same, get_or-set_other}
use Rattle.std.proofs.lemmas.Bool.{and_parts, and_from, cases_eq, cases_lt, eq-eqb, ltb-true, ne_eqb}
use Rattle.std.proofs.lemmas.List.{get_or_past, get_or-replicate}
use Rattle.c0_typed.specs.declared.sorted.Plain.{Plain}
use Rattle.c0_typed.specs.Tree.{TExpr, global, local, part, element, target, constant, address, negative, negation, plain, quotient, remainder, both, either, TStmt, assign, call, new, choice, loop, TStmts, done, next}
use Rattle.c0_expr_code.specs.declared.facts.Facts.{Facts}
use Rattle.c0_expr_code.specs.Facts.{IsWithin, assigned_to, facts_answered, facts_called, facts_compared, facts_followed, found_sure, holds_answer, holds_param, is_not_null, is_zero, overwritten, renewed, start_facts, tells_difference, facts_told, variable_in, with_sure}
use Rattle.c0_stmt_code.specs.Behind.{all_changed, all_followed, answer_known, facts_behind, facts_behind_all, changed, kill_place, stored_facts}

pub within_itself : (f : Facts) → IsWithin f f
within_itself f = record { params = λ n h. h; answer = λ n h. h; sure = λ n h. h }

pub within_both : (f g h : Facts) → IsWithin f g → IsWithin g h → IsWithin f h
within_both f g h a b = record { params = λ n y. b.params n (a.params n y); answer = λ n y. b.answer n (a.answer n y); sure = λ n y. b.sure n (a.sure n y) }

and_true : (b : Bool) → b ≡ (b && true)
and_true true = refl
and_true false = refl

and_false : (b : Bool) → false ≡ (b && false)
and_false true = refl
and_false false = refl

and_joined : (a b c : Bool) → ((a && b) && c) ≡ (a && (b && c))
and_joined true b c = refl
and_joined false b c = refl

-- a flag that was taken away, and the others
gone : (xs : List Bool) (n : ℕ) → get_or (set xs n false) n false ≡ false
gone xs n = elim (cases_lt n (length xs)) [
  | inl lt ↦ get_or-set_same xs n false false lt
  | inr ge ↦ get_or_past (set xs n false) n false (omega (arith, ge, length-set xs n false))
]

taken_away : (xs : List Bool) (n m : ℕ) → get_or (set xs n false) m false ≡ (get_or xs m false && not (m == n))
taken_away xs n m = elim (cases_eq m n) [
  | inl e ↦ ap (λ k. get_or (set xs n false) k false) e ∙ gone xs n ∙ and_false (get_or xs m false) ∙ ap (λ b. get_or xs m false && not b) (sym (eq-eqb m n e))
  | inr ne ↦ get_or-set_other xs n m false false ne ∙ and_true (get_or xs m false) ∙ ap (λ b. get_or xs m false && not b) (sym (ne_eqb m n ne))
]

-- the answer of a variable that nothing is known of any more
taken_answer : (o : Option ℕ) (n m : ℕ) → holds_answer (if holds_answer o n then None else o) m ≡ (holds_answer o m && not (m == n))
taken_answer None n m = refl
taken_answer (Some q) n m = elim (cases_eq q n) [
  | inl e ↦ ap (λ b. holds_answer (if b then None else Some q) m) (eq-eqb q n e) ∙ at_it e
  | inr ne ↦ ap (λ b. holds_answer (if b then None else Some q) m) (ne_eqb q n ne) ∙ beside ne
]
  where
    at_it : q ≡ n → false ≡ ((q == m) && not (m == n))
    at_it e = elim (cases_eq q m) [
      | inl s ↦ and_false (q == m) ∙ ap (λ b. (q == m) && not b) (sym (eq-eqb m n (sym s ∙ e)))
      | inr ns ↦ ap (λ b. b && not (m == n)) (sym (ne_eqb q m ns))
    ]

    beside : (q ≡ n → ⊥) → (q == m) ≡ ((q == m) && not (m == n))
    beside ne = elim (cases_eq q m) [
      | inl s ↦ and_true (q == m) ∙ ap (λ b. (q == m) && not b) (sym (ne_eqb m n (λ e. ne (s ∙ e))))
      | inr ns ↦ ne_eqb q m ns ∙ ap (λ b. b && not (m == n)) (sym (ne_eqb q m ns))
    ]

-- what is left of what is known of the variable of each number
record Mask : Type 0 where
  params : ℕ → Bool
  answer : ℕ → Bool
  sure : ℕ → Bool

-- a change of facts leaves just that
record Leaves (change : Facts → Facts) (m : Mask) : Type 0 where
  params : (f : Facts) (n : ℕ) → holds_param (change f) n ≡ (holds_param f n && m.params n)
  answer : (f : Facts) (n : ℕ) → holds_answer (change f).answer n ≡ (holds_answer f.answer n && m.answer n)
  sure : (f : Facts) (n : ℕ) → is_not_null (change f) n ≡ (is_not_null f n && m.sure n)

abbrev all_left : Mask
all_left = record { params = λ n. true; answer = λ n. true; sure = λ n. true }

abbrev without_one : ℕ → Mask
without_one i = record { params = λ n. not (n == i); answer = λ n. not (n == i); sure = λ n. not (n == i) }

abbrev joined : Mask → Mask → Mask
joined a b = record { params = λ n. a.params n && b.params n; answer = λ n. a.answer n && b.answer n; sure = λ n. a.sure n && b.sure n }

leaves_all : Leaves (λ f. f) all_left
leaves_all = record { params = λ f n. and_true (holds_param f n); answer = λ f n. and_true (holds_answer f.answer n); sure = λ f n. and_true (is_not_null f n) }

leaves_others : (i : ℕ) → Leaves (λ f. assigned_to f i) (without_one i)
leaves_others i = record {
  params = λ f n. ap (λ b. nat_lt n 8 && b) (taken_away f.params i n) ∙ sym (and_joined (nat_lt n 8) (get_or f.params n false) (not (n == i)));
  answer = λ f n. taken_answer f.answer i n;
  sure = λ f n. taken_away f.sure i n;
}

no_flag : (n : ℕ) → get_or (false ∷ false ∷ false ∷ false ∷ false ∷ false ∷ false ∷ false ∷ []) n false ≡ false
no_flag n = elim (cases_lt n 8) [
  | inl lt ↦ none n lt
  | inr ge ↦ get_or_past (false ∷ false ∷ false ∷ false ∷ false ∷ false ∷ false ∷ false ∷ []) n false (omega (arith, ge))
]
  where
    none : (n : ℕ) → n < 8 → get_or (false ∷ false ∷ false ∷ false ∷ false ∷ false ∷ false ∷ false ∷ []) n false ≡ false
    none n lt = grind (arith)

abbrev but_registers : Mask
but_registers = record { params = λ n. false; answer = λ n. false; sure = λ n. true }

leaves_sure : Leaves (λ f. facts_called f) but_registers
leaves_sure = record {
  params = λ f n. ap (λ b. nat_lt n 8 && b) (no_flag n) ∙ sym (and_false (nat_lt n 8)) ∙ and_false (holds_param f n);
  answer = λ f n. and_false (holds_answer f.answer n);
  sure = λ f n. and_true (is_not_null f n);
}

abbrev but_answer : Mask
but_answer = record { params = λ n. true; answer = λ n. false; sure = λ n. true }

leaves_no_answer : Leaves (λ f. renewed f) but_answer
leaves_no_answer = record { params = λ f n. and_true (holds_param f n); answer = λ f n. and_false (holds_answer f.answer n); sure = λ f n. and_true (is_not_null f n) }

leaves_both : (p q : Facts → Facts) (a b : Mask) → Leaves p a → Leaves q b → Leaves (λ f. q (p f)) (joined a b)
leaves_both p q a b h k = record {
  params = λ f n. k.params (p f) n ∙ ap (λ y. y && b.params n) (h.params f n) ∙ and_joined (holds_param f n) (a.params n) (b.params n);
  answer = λ f n. k.answer (p f) n ∙ ap (λ y. y && b.answer n) (h.answer f n) ∙ and_joined (holds_answer f.answer n) (a.answer n) (b.answer n);
  sure = λ f n. k.sure (p f) n ∙ ap (λ y. y && b.sure n) (h.sure f n) ∙ and_joined (is_not_null f n) (a.sure n) (b.sure n);
}

-- what each place and each statement leaves
abbrev place_mask : TExpr → Mask
place_mask (local n w) = without_one n
place_mask p = all_left

place_leaves : (p : TExpr) → Leaves (λ f. kill_place p f) (place_mask p)
place_leaves (local n w) = leaves_others n
place_leaves p = leaves_all

abbrev mutual
  stmt_mask : TStmt → Mask
  stmt_mask (assign p v) = place_mask p
  stmt_mask (call k n args p) = joined but_registers (place_mask p)
  stmt_mask (new w p) = joined but_answer (place_mask p)
  stmt_mask (choice t a b) = joined (stmts_mask a) (stmts_mask b)
  stmt_mask (loop t b) = stmts_mask b

  stmts_mask : TStmts → Mask
  stmts_mask done = all_left
  stmts_mask (next s rest) = joined (stmt_mask s) (stmts_mask rest)

mutual
  stmt_leaves : (s : TStmt) → Leaves (λ f. changed s f) (stmt_mask s)
  stmt_leaves (assign p v) = place_leaves p
  stmt_leaves (call k n args p) = leaves_both (λ f. facts_called f) (λ f. kill_place p f) but_registers (place_mask p) leaves_sure (place_leaves p)
  stmt_leaves (new w p) = leaves_both (λ f. renewed f) (λ f. kill_place p f) but_answer (place_mask p) leaves_no_answer (place_leaves p)
  stmt_leaves (choice t a b) = leaves_both (λ f. all_changed a f) (λ f. all_changed b f) (stmts_mask a) (stmts_mask b) (stmts_leave a) (stmts_leave b)
  stmt_leaves (loop t b) = stmts_leave b

  stmts_leave : (ss : TStmts) → Leaves (λ f. all_changed ss f) (stmts_mask ss)
  stmts_leave done = leaves_all
  stmts_leave (next s rest) = leaves_both (λ f. changed s f) (λ f. all_changed rest f) (stmt_mask s) (stmts_mask rest) (stmt_leaves s) (stmts_leave rest)

-- what such a change leaves was known, more is left of more, and it leaves all that it left once
module _ (change : Facts → Facts) (m : Mask) (h : Leaves change m) where
  shrinks : (f : Facts) → IsWithin (change f) f
  shrinks f = record {
    params = λ n y. (and_parts (holds_param f n) (m.params n) (sym (h.params f n) ∙ y)).0;
    answer = λ n y. (and_parts (holds_answer f.answer n) (m.answer n) (sym (h.answer f n) ∙ y)).0;
    sure = λ n y. (and_parts (is_not_null f n) (m.sure n) (sym (h.sure f n) ∙ y)).0;
  }

  follows : (f g : Facts) → IsWithin f g → IsWithin (change f) (change g)
  follows f g w = record {
    params = λ n y. let b = and_parts (holds_param f n) (m.params n) (sym (h.params f n) ∙ y) in h.params g n ∙ and_from (holds_param g n) (m.params n) (w.params n b.0) b.1;
    answer = λ n y. let b = and_parts (holds_answer f.answer n) (m.answer n) (sym (h.answer f n) ∙ y) in h.answer g n ∙ and_from (holds_answer g.answer n) (m.answer n) (w.answer n b.0) b.1;
    sure = λ n y. let b = and_parts (is_not_null f n) (m.sure n) (sym (h.sure f n) ∙ y) in h.sure g n ∙ and_from (is_not_null g n) (m.sure n) (w.sure n b.0) b.1;
  }

  stays : (f : Facts) → IsWithin (change f) (change (change f))
  stays f = record {
    params = λ n y. h.params (change f) n ∙ and_from (holds_param (change f) n) (m.params n) y (and_parts (holds_param f n) (m.params n) (sym (h.params f n) ∙ y)).1;
    answer = λ n y. h.answer (change f) n ∙ and_from (holds_answer (change f).answer n) (m.answer n) y (and_parts (holds_answer f.answer n) (m.answer n) (sym (h.answer f n) ∙ y)).1;
    sure = λ n y. h.sure (change f) n ∙ and_from (is_not_null (change f) n) (m.sure n) y (and_parts (is_not_null f n) (m.sure n) (sym (h.sure f n) ∙ y)).1;
  }

pub place_shrinks : (p : TExpr) (f : Facts) → IsWithin (kill_place p f) f
place_shrinks p f = shrinks (λ f. kill_place p f) (place_mask p) (place_leaves p) f

place_follows : (p : TExpr) (f g : Facts) → IsWithin f g → IsWithin (kill_place p f) (kill_place p g)
place_follows p f g w = follows (λ f. kill_place p f) (place_mask p) (place_leaves p) f g w

pub called_follows : (f g : Facts) → IsWithin f g → IsWithin (facts_called f) (facts_called g)
called_follows f g w = follows (λ f. facts_called f) but_registers leaves_sure f g w

pub called_shrinks : (f : Facts) → IsWithin (facts_called f) f
called_shrinks f = shrinks (λ f. facts_called f) but_registers leaves_sure f

pub renewed_shrinks : (f : Facts) → IsWithin (renewed f) f
renewed_shrinks f = shrinks (λ f. renewed f) but_answer leaves_no_answer f

pub changes_shrink : (ss : TStmts) (f : Facts) → IsWithin (all_changed ss f) f
changes_shrink ss f = shrinks (λ f. all_changed ss f) (stmts_mask ss) (stmts_leave ss) f

changes_follow : (ss : TStmts) (f g : Facts) → IsWithin f g → IsWithin (all_changed ss f) (all_changed ss g)
changes_follow ss f g w = follows (λ f. all_changed ss f) (stmts_mask ss) (stmts_leave ss) f g w

-- the facts of a loop's test are left by its body
pub turns_stay : (ss : TStmts) (f : Facts) → IsWithin (all_changed ss f) (all_changed ss (all_changed ss f))
turns_stay ss f = stays (λ f. all_changed ss f) (stmts_mask ss) (stmts_leave ss) f

-- more is known with a variable that isn't null
kept_true : (xs : List Bool) (n m : ℕ) → IsTrue (get_or xs m false) → IsTrue (get_or (set xs n true) m false)
kept_true xs n m h = elim (cases_eq m n) [
  | inl e ↦ elim (cases_lt n (length xs)) [
    | inl lt ↦ ap (λ k. get_or (set xs n true) k false) e ∙ get_or-set_same xs n true false lt
    | inr ge ↦ absurd (false_true (sym (get_or_past xs m false (omega (arith, ge, e))) ∙ h))
  ]
  | inr ne ↦ get_or-set_other xs n m true false ne ∙ h
]
  where
    false_true : false ≡ true → ⊥
    false_true q = cc

found_grows : (f : Facts) (n : ℕ) → IsWithin f (found_sure f n)
found_grows f n = record { params = λ m y. y; answer = λ m y. y; sure = λ m y. kept_true f.sure n m y }

with_grows : (f : Facts) (o : Option ℕ) → IsWithin f (with_sure f o)
with_grows f None = within_itself f
with_grows f (Some n) = found_grows f n

pub followed_grows : (e : TExpr) (f : Facts) → IsWithin f (facts_followed e f)
followed_grows (global k) f = within_itself f
followed_grows (local n w) f = within_itself f
followed_grows (part p k) f = followed_grows p f
followed_grows (element p i x) f = within_both f (facts_followed p f) (facts_followed i (facts_followed p f)) (followed_grows p f) (followed_grows i (facts_followed p f))
followed_grows (target p) f = within_both f (facts_followed p f) (with_sure (facts_followed p f) (variable_in p)) (followed_grows p f) (with_grows (facts_followed p f) (variable_in p))
followed_grows (constant k) f = within_itself f
followed_grows (address p) f = followed_grows p f
followed_grows (negative e) f = followed_grows e f
followed_grows (negation e) f = followed_grows e f
followed_grows (plain o a b) f = within_both f (facts_followed a f) (facts_followed b (facts_followed a f)) (followed_grows a f) (followed_grows b (facts_followed a f))
followed_grows (quotient a b) f = within_both f (facts_followed a f) (facts_followed b (facts_followed a f)) (followed_grows a f) (followed_grows b (facts_followed a f))
followed_grows (remainder a b) f = within_both f (facts_followed a f) (facts_followed b (facts_followed a f)) (followed_grows a f) (followed_grows b (facts_followed a f))
followed_grows (both a b) f = followed_grows a f
followed_grows (either a b) f = followed_grows a f

pub all_followed_grows : (es : List TExpr) (f : Facts) → IsWithin f (all_followed es f)
all_followed_grows [] f = within_itself f
all_followed_grows (e ∷ es) f = within_both f (facts_followed e f) (all_followed es (facts_followed e f)) (followed_grows e f) (all_followed_grows es (facts_followed e f))

-- a test tells at least what it followed
compared_grows : (o : Plain) (a b : TExpr) (s : Bool) (f : Facts) → IsWithin (facts_followed b (facts_followed a f)) (facts_compared o a b s f)
compared_grows o a b s f = by_case (tells_difference o s && is_zero b)
  where
    by_case : (y : Bool) → IsWithin (facts_followed b (facts_followed a f)) (if y then with_sure (facts_followed b (facts_followed a f)) (variable_in a) else facts_followed b (facts_followed a f))
    by_case true = with_grows (facts_followed b (facts_followed a f)) (variable_in a)
    by_case false = within_itself (facts_followed b (facts_followed a f))

pub told_grows : (e : TExpr) (s : Bool) (f : Facts) → IsWithin (facts_followed e f) (facts_told e s f)
told_grows (negation e) s f = told_grows e (not s) f
told_grows (plain o a b) s f = compared_grows o a b s f
told_grows (both a b) true f =
    within_both (facts_followed a f) (facts_told a true f) (facts_told b true (facts_told a true f)) (told_grows a true f)
    (within_both (facts_told a true f) (facts_followed b (facts_told a true f)) (facts_told b true (facts_told a true f)) (followed_grows b (facts_told a true f)) (told_grows b true (facts_told a true f)))
told_grows (both a b) false f = within_itself (facts_followed a f)
told_grows (either a b) true f = within_itself (facts_followed a f)
told_grows (either a b) false f =
    within_both (facts_followed a f) (facts_told a false f) (facts_told b false (facts_told a false f)) (told_grows a false f)
    (within_both (facts_told a false f) (facts_followed b (facts_told a false f)) (facts_told b false (facts_told a false f)) (followed_grows b (facts_told a false f)) (told_grows b false (facts_told a false f)))
told_grows (global k) s f = within_itself f
told_grows (local n w) s f = within_itself f
told_grows (part p k) s f = within_itself (facts_followed p f)
told_grows (element p i x) s f = within_itself (facts_followed i (facts_followed p f))
told_grows (target p) s f = within_itself (with_sure (facts_followed p f) (variable_in p))
told_grows (constant k) s f = within_itself f
told_grows (address p) s f = within_itself (facts_followed p f)
told_grows (negative e) s f = within_itself (facts_followed e f)
told_grows (quotient a b) s f = within_itself (facts_followed b (facts_followed a f))
told_grows (remainder a b) s f = within_itself (facts_followed b (facts_followed a f))

known_told : (e : TExpr) (s : Bool) (f : Facts) → IsWithin f (facts_told e s f)
known_told e s f = within_both f (facts_followed e f) (facts_told e s f) (followed_grows e f) (told_grows e s f)

-- an answer is known behind a place, where none was known before
place_no_answer : (p : TExpr) (f : Facts) → f.answer ≡ None → (kill_place p f).answer ≡ None
place_no_answer (local n w) f e = ap (λ o. if holds_answer o n then None else o) e
place_no_answer p f e = e

no_answer_within : (less f : Facts) (n : ℕ) → less.answer ≡ None → IsWithin less f → IsWithin less (facts_answered f n)
no_answer_within less f n e w = record { params = w.params; answer = λ m y. absurd (none m y); sure = w.sure }
  where
    none : (m : ℕ) → IsTrue (holds_answer less.answer m) → ⊥
    none m y = let q : false ≡ true = ap (λ o. holds_answer o m) (sym e) ∙ y in cc

pub answer_grows : (r : Bool) (p : TExpr) (less f : Facts) → less.answer ≡ None → IsWithin less f → IsWithin less (answer_known r p f)
answer_grows false (local n w) less f e h = no_answer_within less f n e h
answer_grows false p less f e h = h
answer_grows true p less f e h = h

stored_grows : (p : TExpr) (less f : Facts) → IsWithin less f → IsWithin (kill_place p less) (stored_facts p f)
stored_grows p less f w = place_follows p less (facts_followed p f) (within_both less f (facts_followed p f) w (followed_grows p f))

-- what a statement doesn't end is known behind it
changed_behind : (r : Bool) (s : TStmt) (f : Facts) → IsWithin (changed s f) (facts_behind r s f)
changed_behind r (assign p v) f = stored_grows p f (facts_followed v f) (followed_grows v f)
changed_behind r (call k n args p) f =
    answer_grows r p (kill_place p (facts_called f)) (stored_facts p (facts_called (all_followed args f))) (place_no_answer p (facts_called f) refl)
    (stored_grows p (facts_called f) (facts_called (all_followed args f)) (called_follows f (all_followed args f) (all_followed_grows args f)))
changed_behind r (new w p) f = stored_grows p (renewed f) (renewed f) (within_itself (renewed f))
changed_behind r (choice t a b) f = changes_follow b (all_changed a f) (all_changed a (facts_followed t f)) (changes_follow a f (facts_followed t f) (followed_grows t f))
changed_behind r (loop t b) f = followed_grows t (all_changed b f)

changes_behind : (r : Bool) (ss : TStmts) (f : Facts) → IsWithin (all_changed ss f) (facts_behind_all r ss f)
changes_behind r done f = within_itself f
changes_behind r (next s rest) f =
    within_both (all_changed rest (changed s f)) (all_changed rest (facts_behind r s f)) (facts_behind_all r rest (facts_behind r s f))
    (changes_follow rest (changed s f) (facts_behind r s f) (changed_behind r s f)) (changes_behind r rest (facts_behind r s f))

-- what is known behind an `if` is known behind each branch
pub behind_yes : (r : Bool) (t : TExpr) (a b : TStmts) (f : Facts) → IsWithin (facts_behind r (choice t a b) f) (facts_behind_all r a (facts_told t true f))
behind_yes r t a b f =
    within_both (all_changed b (all_changed a (facts_followed t f))) (all_changed a (facts_followed t f)) (facts_behind_all r a (facts_told t true f)) (changes_shrink b (all_changed a (facts_followed t f)))
    (within_both (all_changed a (facts_followed t f)) (all_changed a (facts_told t true f)) (facts_behind_all r a (facts_told t true f)) (changes_follow a (facts_followed t f) (facts_told t true f) (told_grows t true f)) (changes_behind r a (facts_told t true f)))

pub behind_no : (r : Bool) (t : TExpr) (a b : TStmts) (f : Facts) → IsWithin (facts_behind r (choice t a b) f) (facts_behind_all r b (facts_told t false f))
behind_no r t a b f =
    within_both (all_changed b (all_changed a (facts_followed t f))) (all_changed b (facts_told t false f)) (facts_behind_all r b (facts_told t false f))
    (changes_follow b (all_changed a (facts_followed t f)) (facts_told t false f) (within_both (all_changed a (facts_followed t f)) (facts_followed t f) (facts_told t false f) (changes_shrink a (facts_followed t f)) (told_grows t false f)))
    (changes_behind r b (facts_told t false f))

-- what is known where a loop's test begins is known behind its body
pub behind_turn : (r : Bool) (t : TExpr) (b : TStmts) (f : Facts) → IsWithin f (all_changed b f) → IsWithin f (facts_behind_all r b (facts_told t true f))
behind_turn r t b f w =
    within_both f (all_changed b f) (facts_behind_all r b (facts_told t true f)) w
    (within_both (all_changed b f) (all_changed b (facts_told t true f)) (facts_behind_all r b (facts_told t true f)) (changes_follow b f (facts_told t true f) (known_told t true f)) (changes_behind r b (facts_told t true f)))

-- `new` leaves no answer, and what is known once its object's address has gone to a place is known of an answer
pub object_within : (r : Bool) (p : TExpr) (f : Facts) → IsWithin (stored_facts p (renewed f)) (answer_known r p (stored_facts p (renewed f)))
object_within r p f = answer_grows r p (stored_facts p (renewed f)) (stored_facts p (renewed f)) (place_no_answer p (facts_followed p (renewed f)) (followed_no_answer p (renewed f) refl)) (within_itself (stored_facts p (renewed f)))
  where
    with_no_answer : (f : Facts) (o : Option ℕ) → f.answer ≡ None → (with_sure f o).answer ≡ None
    with_no_answer f None e = e
    with_no_answer f (Some n) e = e

    followed_no_answer : (e : TExpr) (f : Facts) → f.answer ≡ None → (facts_followed e f).answer ≡ None
    followed_no_answer (global k) f q = q
    followed_no_answer (local n w) f q = q
    followed_no_answer (part p k) f q = followed_no_answer p f q
    followed_no_answer (element p i x) f q = followed_no_answer i (facts_followed p f) (followed_no_answer p f q)
    followed_no_answer (target p) f q = with_no_answer (facts_followed p f) (variable_in p) (followed_no_answer p f q)
    followed_no_answer (constant k) f q = q
    followed_no_answer (address p) f q = followed_no_answer p f q
    followed_no_answer (negative e) f q = followed_no_answer e f q
    followed_no_answer (negation e) f q = followed_no_answer e f q
    followed_no_answer (plain o a b) f q = followed_no_answer b (facts_followed a f) (followed_no_answer a f q)
    followed_no_answer (quotient a b) f q = followed_no_answer b (facts_followed a f) (followed_no_answer a f q)
    followed_no_answer (remainder a b) f q = followed_no_answer b (facts_followed a f) (followed_no_answer a f q)
    followed_no_answer (both a b) f q = followed_no_answer a f q
    followed_no_answer (either a b) f q = followed_no_answer a f q

-- behind a call nothing is known of registers
pub called_no_param : (f : Facts) (n : ℕ) → IsTrue (holds_param (facts_called f) n) → ⊥
called_no_param f n y = let b = (and_parts (holds_param f n) false (sym (leaves_sure.params f n) ∙ y)).1 in cc

-- an argument that went to its register
pub overwritten_within : (f : Facts) (i : ℕ) → IsWithin (overwritten f i) f
overwritten_within f i = record {
  params = λ n y. let b = and_parts (nat_lt n 8) (get_or (set f.params i false) n false) y in and_from (nat_lt n 8) (get_or f.params n false) b.0 (and_parts (get_or f.params n false) (not (n == i)) (sym (taken_away f.params i n) ∙ b.1)).0;
  answer = λ n y. y;
  sure = λ n y. y;
}

pub overwritten_others : (f : Facts) (i n : ℕ) → IsTrue (holds_param (overwritten f i) n) → n ≢ i
overwritten_others f i n y e =
    let b = and_parts (nat_lt n 8) (get_or (set f.params i false) n false) y in
    let other = (and_parts (get_or f.params n false) (not (n == i)) (sym (taken_away f.params i n) ∙ b.1)).1 in
    let q : false ≡ true = ap (λ x. not x) (sym (eq-eqb n i e)) ∙ other in
    cc

-- at a function's begin it is known of parameters that they stand in their registers, and nothing else
pub start_params : (r : Bool) (k n : ℕ) → IsTrue (holds_param (start_facts r k) n) → n < k
start_params true k n y = absurd (none (sym (no_flag n) ∙ (and_parts (nat_lt n 8) (get_or (false ∷ false ∷ false ∷ false ∷ false ∷ false ∷ false ∷ false ∷ []) n false) y).1))
  where
    none : false ≡ true → ⊥
    none q = cc
start_params false k n y = let h = and_parts (nat_lt n 8) (get_or (nat_lt 0 k ∷ nat_lt 1 k ∷ nat_lt 2 k ∷ nat_lt 3 k ∷ nat_lt 4 k ∷ nat_lt 5 k ∷ nat_lt 6 k ∷ nat_lt 7 k ∷ []) n false) y in by_number n (ltb-true n 8 h.0) h.1
  where
    by_number : (n : ℕ) → n < 8 → get_or (nat_lt 0 k ∷ nat_lt 1 k ∷ nat_lt 2 k ∷ nat_lt 3 k ∷ nat_lt 4 k ∷ nat_lt 5 k ∷ nat_lt 6 k ∷ nat_lt 7 k ∷ []) n false ≡ true → n < k
    by_number zero lt q = ltb-true 0 k q
    by_number (suc zero) lt q = ltb-true 1 k q
    by_number (suc (suc zero)) lt q = ltb-true 2 k q
    by_number (suc (suc (suc zero))) lt q = ltb-true 3 k q
    by_number (suc (suc (suc (suc zero)))) lt q = ltb-true 4 k q
    by_number (suc (suc (suc (suc (suc zero))))) lt q = ltb-true 5 k q
    by_number (suc (suc (suc (suc (suc (suc zero)))))) lt q = ltb-true 6 k q
    by_number (suc (suc (suc (suc (suc (suc (suc zero))))))) lt q = ltb-true 7 k q
    by_number (suc (suc (suc (suc (suc (suc (suc (suc n)))))))) lt q = absurd (omega (arith, lt))

pub start_answer : (r : Bool) (k n : ℕ) → IsTrue (holds_answer (start_facts r k).answer n) → ⊥
start_answer true k n y = cc
start_answer false k n y = cc

not_sure : (n : ℕ) → get_or (replicate 64 false) n false ≡ false
not_sure n = elim (cases_lt n 64) [
  | inl lt ↦ get_or-replicate 64 n false false lt
  | inr ge ↦ get_or_past (replicate 64 false) n false (omega (arith, ge))
]

pub start_sure : (r : Bool) (k n : ℕ) → IsTrue (is_not_null (start_facts r k) n) → ⊥
start_sure true k n y = let q : false ≡ true = sym (not_sure n) ∙ y in cc
start_sure false k n y = let q : false ≡ true = sym (not_sure n) ∙ y in cc
