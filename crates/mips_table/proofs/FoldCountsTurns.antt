-- The turns that are complete: the fold is the count one by one, and the first end is found.
use Rattle.std.proofs.Common.{◌≡◌, ℕ, zero, suc, ◌<◌, ◌≤◌, ◌&&◌, Bool, true, false, cond, nat_lt, refl, sym, ap, ap₂, ◌∙◌, arith, lt-ltb, le-ltb, ltb-true, ltb-false, true≢false}
use Rattle.mips_table.specs.Device.{Environment}
use Rattle.mips_table.specs.Machine.{State, run}
use Rattle.mips_table.specs.Turns.{begins_turn, rests, turn_of, complete, is_end, IsTurnEnd, end_within, rests_between, completed, TurnLaws}

-- where the machine rests at t, all that have begun are complete
all_counted : (x : Environment) (s : State) (t j : ℕ) → j ≤ suc t → rests (run x s (suc t)) ≡ true → completed x s (suc t) j ≡ turn_of x s j
all_counted x s t zero le r = refl
all_counted x s t (suc j) le r =
    let a : nat_lt j (suc t) ≡ true = lt-ltb _ _ (omega arith) in
    let h : rests_between x s j (suc t) ≡ true = rw (a, r) refl in
    let c = all_counted x s t j (omega arith) r in
    by (begins_turn x (run x s j)) (rests_between x s j (suc t)) h (completed x s (suc t) j) (turn_of x s j) c
  where
    by : (b r : Bool) → r ≡ true → (n m : ℕ) → n ≡ m → cond (b && r) (suc n) n ≡ cond b (suc m) m
    by true r h n m c = rw h (ap suc c)
    by false r h n m c = c

-- where it doesn't, they are those that were
none_counted : (x : Environment) (s : State) (t j : ℕ) → rests (run x s (suc t)) ≡ false → completed x s (suc t) j ≡ completed x s t j
none_counted x s t zero r = refl
none_counted x s t (suc j) r =
    let h : rests_between x s j (suc t) ≡ rests_between x s j t = rw r (by2 (nat_lt j (suc t)) (rests_between x s j t)) in
    ap₂ (λ o n. cond (begins_turn x (run x s j) && o) (suc n) n) h (none_counted x s t j r)
  where
    by2 : (b o : Bool) → cond (b && false) true o ≡ o
    by2 true o = refl
    by2 false o = refl

-- one that begins now has not come to rest yet
not_yet : (x : Environment) (s : State) (j t : ℕ) → t ≤ j → rests_between x s j t ≡ false
not_yet x s j zero le = refl
not_yet x s j (suc t) le = let a : nat_lt j (suc t) ≡ false = le-ltb _ _ (omega arith) in rw a (not_yet x s j t (omega arith))

literal : (x : Environment) (s : State) (t : ℕ) → completed x s t t ≡ complete x s t
literal x s zero = refl
literal x s (suc t) = by (rests (run x s (suc t))) refl (literal x s t)
  where
    both_false : (b o : Bool) → o ≡ false → (b && o) ≡ false
    both_false true o h = h
    both_false false o h = refl

    by : (b : Bool) → rests (run x s (suc t)) ≡ b → completed x s t t ≡ complete x s t → completed x s (suc t) (suc t) ≡ cond (rests (run x s (suc t))) (turn_of x s (suc t)) (complete x s t)
    by true h c = all_counted x s t (suc t) (omega arith) h ∙ sym (ap (λ b. cond b (turn_of x s (suc t)) (complete x s t)) h)
    by false h c =
        let n : completed x s (suc t) (suc t) ≡ completed x s t (suc t) = none_counted x s t (suc t) h in
        let m : (begins_turn x (run x s t) && rests_between x s t t) ≡ false = both_false (begins_turn x (run x s t)) _ (not_yet x s t t (omega arith)) in
        n ∙ ap (λ b. cond b (suc (completed x s t t)) (completed x s t t)) m ∙ c ∙ sym (ap (λ b. cond b (turn_of x s (suc t)) (complete x s t)) h)

-- a step begins at most one turn
begins_one : (x : Environment) (s : State) (t : ℕ) → turn_of x s t ≤ turn_of x s (suc t)
begins_one x s t = by (begins_turn x (run x s t)) (turn_of x s t)
  where
    by : (b : Bool) (n : ℕ) → n ≤ cond b (suc n) n
    by true n = omega arith
    by false n = omega arith

begun : (x : Environment) (s : State) (t : ℕ) → complete x s t ≤ turn_of x s t
begun x s zero = omega arith
begun x s (suc t) = by (rests (run x s (suc t))) (turn_of x s (suc t)) (complete x s t) (turn_of x s t) (begun x s t) (begins_one x s t)
  where
    by : (b : Bool) (m c n : ℕ) → c ≤ n → n ≤ m → cond b m c ≤ m
    by true m c n le more = omega arith
    by false m c n le more = omega arith

grows : (x : Environment) (s : State) (t : ℕ) → complete x s t ≤ complete x s (suc t)
grows x s t = by (rests (run x s (suc t))) (turn_of x s (suc t)) (complete x s t) (turn_of x s t) (begun x s t) (begins_one x s t)
  where
    by : (b : Bool) (m c n : ℕ) → c ≤ n → n ≤ m → c ≤ cond b m c
    by true m c n le more = omega arith
    by false m c n le more = omega arith

-- the search stays within its steps
within : (x : Environment) (s : State) (k n : ℕ) → end_within x s k n ≤ n
within x s k zero = omega arith
within x s k (suc n) = by (is_end x s k (end_within x s k n)) (end_within x s k n) (within x s k n)
  where
    by : (b : Bool) (e : ℕ) → e ≤ n → cond b e (suc n) ≤ suc n
    by true e le = omega arith
    by false e le = omega arith

ends : (x : Environment) (s : State) (k n t : ℕ) → IsTurnEnd x s k t → t ≤ n → end_within x s k n ≡ t
ends x s k zero t e le = omega arith
ends x s k (suc n) t e le = by (nat_lt n t) refl (λ ge. ends x s k n t e ge)
  where
    by : (b : Bool) → nat_lt n t ≡ b → (t ≤ n → end_within x s k n ≡ t) → cond (is_end x s k (end_within x s k n)) (end_within x s k n) (suc n) ≡ t
    by true h found =
        let lt : n < t = ltb-true n t h in
        let w : end_within x s k n ≤ n = within x s k n in
        let none : is_end x s k (end_within x s k n) ≡ false = e.first (end_within x s k n) (omega arith) in
        ap (λ b. cond b (end_within x s k n) (suc n)) none ∙ omega arith
    by false h found =
        let here : end_within x s k n ≡ t = found (ltb-false n t h) in
        rw here (ap (λ b. cond b t (suc n)) e.here)

-- a search that finds no end comes to its last step
stays : (x : Environment) (s : State) (k n : ℕ) → is_end x s k (end_within x s k n) ≡ false → end_within x s k n ≡ n
stays x s k zero e = refl
stays x s k (suc n) e = by (is_end x s k (end_within x s k n)) refl e
  where
    by : (b : Bool) → is_end x s k (end_within x s k n) ≡ b → is_end x s k (cond b (end_within x s k n) (suc n)) ≡ false → cond b (end_within x s k n) (suc n) ≡ suc n
    by true h e = absurd (true≢false (sym h ∙ e))
    by false h e = refl

-- where none before the search's step is an end, and it isn't either, none up to the last step is
up_to : (x : Environment) (s : State) (k n : ℕ) → ((j : ℕ) → j < end_within x s k n → is_end x s k j ≡ false) → is_end x s k (end_within x s k n) ≡ false → (j : ℕ) → j ≤ n → is_end x s k j ≡ false
up_to x s k n earlier e j le = by (nat_lt j (end_within x s k n)) refl
  where
    by : (b : Bool) → nat_lt j (end_within x s k n) ≡ b → is_end x s k j ≡ false
    by true h = earlier j (ltb-true j (end_within x s k n) h)
    by false h =
        let ge : end_within x s k n ≤ j = ltb-false j (end_within x s k n) h in
        let here : end_within x s k n ≡ n = stays x s k n e in
        let same : j ≡ end_within x s k n = omega arith in
        ap (is_end x s k) same ∙ e

-- none before the step that the search comes to is an end
before : (x : Environment) (s : State) (k n j : ℕ) → j < end_within x s k n → is_end x s k j ≡ false
before x s k zero j lt = absurd (omega arith)
before x s k (suc n) j lt = by (before x s k n) (is_end x s k (end_within x s k n)) refl lt
  where
    by : ((i : ℕ) → i < end_within x s k n → is_end x s k i ≡ false) → (b : Bool) → is_end x s k (end_within x s k n) ≡ b → j < cond b (end_within x s k n) (suc n) → is_end x s k j ≡ false
    by earlier true h lt = earlier j lt
    by earlier false h lt = up_to x s k n earlier h j (omega arith)

pub turn_laws : TurnLaws
turn_laws = record {
  literal = literal;
  begun = begun;
  grows = grows;
  ends = ends;
  found = λ x s k n is. record { here = is; first = λ j lt. before x s k n j lt };
  none = λ x s k n e. (stays x s k n e, up_to x s k n (before x s k n) e);
}
