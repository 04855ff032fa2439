-- The number of complete turns grows by one at most in a step, since a reset is latched at a start alone: so a run for fewer turns and steps ends no later
-- than one for more, also where the machine is off at its end.
use Rattle.std.specs.Prelude.{Option, Some, None, slice_index, not, is_some, ◌==◌, ◌&&◌, ◌||◌, if◌then◌else◌}
use Rattle.std.proofs.Common.{◌≡◌, ℕ, zero, suc, ◌+◌, ◌<◌, ◌≤◌, Bool, true, false, refl, sym, ap, ◌∙◌, ⊎_elim, arith, eq-eqb, true≢false}
use Rattle.std.proofs.lemmas.Bool.{cases_lt, eqb-true}
use Rattle.mips_table.specs.declared.special.TheConstants.{SR}
use Rattle.mips_table.specs.declared.cause.Cause.TheVariants.{Reset, External}
use Rattle.mips_table.specs.Processor.{move}
use Rattle.mips_table.specs.Device.{Environment}
use Rattle.mips_table.specs.Machine.{State, Interrupt, come_to, moved, fetch, fetched, access, coming, latched, if_on, step, run}
use Rattle.mips_table.specs.Turns.{is_on, in_user, handled, begins_turn, rests, turn_of, complete, is_end, end_within, IsTurnEnd, TurnLaws}
use Rattle.run_scripts.proofs.LastingProperties.{Stays, coming_stays}

-- NO EFFECT of an instruction latches the reset, and where it is latched the step takes it
clear_stays : (x : Environment) → Stays x (λ s. s.reset ≡ false)
clear_stays x = record {
  cpu = λ s c e. e;
  special = λ s words e. e;
  memory = λ s words e. e;
  device = λ s k value e. e;
  log = λ s words e. e;
  input = λ s words e. e;
  mask = λ s lines e. e;
  reset = λ s e. refl;
  off = λ s power e. e;
}

coming_clears : (x : Environment) (s : State) → (come_to (coming x s)).reset ≡ false
coming_clears x s = by s.reset refl
  where
    by : (b : Bool) → s.reset ≡ b → (come_to (coming x s)).reset ≡ false
    by true e = ap (λ (b : Bool). (come_to (if b then Interrupt s Reset 0 s.cpu.pc else if slice_index s.special SR == 1 && not (s.mask == 0) then Interrupt s External s.mask s.cpu.pc else
        moved x (fetched s) (move (access s) s.cpu (fetch s)))).reset) e
    by false e = coming_stays x (λ t. t.reset ≡ false) (clear_stays x) s e

step_clears : (x : Environment) (s : State) → s.off ≡ None → (step x s).reset ≡ false
unfolding step
step_clears x s on = ap (λ (o : Option ℕ). (if_on x s o).reset) on ∙ coming_clears x (latched x s)

off_stays : (x : Environment) (s : State) (word : ℕ) → s.off ≡ Some word → step x s ≡ s
unfolding step
off_stays x s word off = ap (λ (o : Option ℕ). if_on x s o) off

-- BEHIND THE FIRST STEP a turn begins where the machine rests
in_mode : (on reset user turn : Bool) → reset ≡ false → (on && (reset || (user && turn))) ≡ true → (user || not on) ≡ true
in_mode on true user turn e h = absurd (true≢false e)
in_mode true false true turn e h = refl
in_mode true false false turn e h = absurd (true≢false (sym h))
in_mode false false user turn e h = absurd (true≢false (sym h))

never_off : (on begun : Bool) → on ≡ false → (on && begun) ≡ true → ⊥
never_off true begun e h = true≢false e
never_off false begun e h = true≢false (sym h)

begins_rests : (x : Environment) (s : State) (t : ℕ) → begins_turn x (run x s (suc t)) ≡ true → rests (run x s (suc t)) ≡ true
unfolding begins_turn rests
begins_rests x s t h = by (run x s t).off refl
  where
    by : (o : Option ℕ) → (run x s t).off ≡ o → rests (run x s (suc t)) ≡ true
    by None on =
        let z : State = run x s (suc t) in
        in_mode (is_on z) z.reset (in_user z) (not (handled x z)) (step_clears x (run x s t) on) h
    by (Some word) off =
        let z : State = run x s (suc t) in
        absurd (never_off (is_on z) (z.reset || (in_user z && not (handled x z))) (ap is_on (off_stays x (run x s t) word off) ∙ ap (λ (o : Option ℕ). not (is_some o)) off) h)

only_zero : (k : ℕ) → k ≤ 0 → 0 ≡ k
only_zero k le = omega (arith, le)

module _ (count : TurnLaws) (x : Environment) (s : State) where
  next_turn : (t : ℕ) → turn_of x s (suc t) ≤ complete x s t + 1
  next_turn zero = by (begins_turn x (run x s 0))
    where
      by : (b : Bool) → (if b then 1 else 0) ≤ 0 + 1
      by true = omega arith
      by false = omega arith
  next_turn (suc t) = by (begins_turn x (run x s (suc t))) refl (next_turn t)
    where
      by : (b : Bool) → begins_turn x (run x s (suc t)) ≡ b → turn_of x s (suc t) ≤ complete x s t + 1 →
          (if b then suc (turn_of x s (suc t)) else turn_of x s (suc t)) ≤ complete x s (suc t) + 1
      by true e h =
          let all : complete x s (suc t) ≡ turn_of x s (suc t) = ap (λ (b : Bool). if b then turn_of x s (suc t) else complete x s t) (begins_rests x s t e) in
          omega (arith, all)
      by false e h = let g = count.grows x s t in omega (arith, h, g)

  one_more : (t : ℕ) → complete x s (suc t) ≤ complete x s t + 1
  one_more t = by (rests (run x s (suc t)))
    where
      by : (b : Bool) → (if b then turn_of x s (suc t) else complete x s t) ≤ complete x s t + 1
      by true = next_turn t
      by false = omega arith

  -- so no number of them is skipped
  none_skipped : (k t : ℕ) → k ≤ complete x s t → (j : ℕ) × (j ≤ t) × (complete x s j ≡ k)
  none_skipped k zero le = (0, omega arith, only_zero k le)
  none_skipped k (suc t) le = ⊎_elim
      (λ (lt : complete x s t < k). let m = one_more t in (suc t, omega arith, omega (arith, le, lt, m)))
      (λ (few : k ≤ complete x s t). let h = none_skipped k t few in let at = h.1 in (h.0, omega (arith, at), h.2))
      (cases_lt (complete x s t) k)

  -- a search stays within its steps
  pub steps_within : (k n : ℕ) → end_within x s k n ≤ n
  steps_within k zero = omega arith
  steps_within k (suc n) = by (is_end x s k (end_within x s k n)) (steps_within k n)
    where
      by : (b : Bool) → end_within x s k n ≤ n → (if b then end_within x s k n else suc n) ≤ suc n
      by true le = omega (arith, le)
      by false le = omega arith

  -- a step that is an end for more turns, and none for fewer, completes the turns
  its_turns : (more few off : Bool) → (more || off) ≡ true → (few || off) ≡ false → more ≡ true
  its_turns true few off h g = refl
  its_turns false true off h g = absurd (true≢false g)
  its_turns false false off h g = absurd (true≢false (sym h ∙ g))

  is_one : (k t : ℕ) → complete x s t ≡ k → is_end x s k t ≡ true
  is_one k t e = ap (λ (b : Bool). b || not (is_on (run x s t))) (eq-eqb (complete x s t) k e)

  -- THE RUN FOR FEWER TURNS and steps ends no later
  pub no_later : (k n a b : ℕ) → k ≤ n → a ≤ b → is_end x s k (end_within x s k a) ≡ true → end_within x s k a ≤ end_within x s n b
  no_later k n a b more enough e = ⊎_elim
      (λ (lt : end_within x s n b < end_within x s k a). absurd (sooner lt (is_end x s n (end_within x s n b)) refl)) (λ ge. ge)
      (cases_lt (end_within x s n b) (end_within x s k a))
    where
      first : IsTurnEnd x s k (end_within x s k a)
      first = count.found x s k a e

      sooner : end_within x s n b < end_within x s k a → (o : Bool) → is_end x s n (end_within x s n b) ≡ o → ⊥
      sooner lt false h = let last = (count.none x s n b h).0 in let w = steps_within k a in omega (arith, last, lt, w, enough)
      sooner lt true h =
          let u : ℕ = end_within x s n b in
          let all : complete x s u ≡ n =
          eqb-true (complete x s u) n (its_turns (complete x s u == n) (complete x s u == k) (not (is_on (run x s u))) h (first.first u lt)) in
          let j = none_skipped k u (omega (arith, all, more)) in
          let at = j.1 in
          true≢false (sym (is_one k j.0 j.2) ∙ first.first j.0 (omega (arith, at, lt)))
