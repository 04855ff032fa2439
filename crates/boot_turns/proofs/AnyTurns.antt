-- What a loop that steps a machine to the end of turns comes to in any run: turns are counted by their beginnings, which come only where the machine
-- rests, but for a reset that is latched at the first step.
-- It serves `loops_make_turns` alone.
use Rattle.std.proofs.Common.{◌≡◌, ⊎_elim, None, ℕ, zero, suc, ◌+◌, ◌-◌, ◌<◌, ◌≤◌, ◌||◌, ◌&&◌, Bool, true, false, not, Option, Some, Result, Ok, Err, refl, sym, ap, ap₂, ◌∙◌, subst, subst₂, arith, eq-eqb, slice_index}
use Rattle.std.specs.Prelude.{MatchResult}
use Rattle.std.proofs.lemmas.Bool.{cases_lt, cond_both, cond-true}
use Rattle.mips_table.specs.declared.cause.Cause.{Cause}
use Rattle.mips_table.specs.declared.cause.Cause.TheVariants as causes
use Rattle.mips_table.specs.Device.{Environment}
use Rattle.mips_table.specs.declared.special.TheConstants.{MODE}
use Rattle.mips_table.specs.Machine.{State, Coming, Interrupt, Done, interrupted, come_to, latched, step_ended, step, run}
use Rattle.mips_table.specs.Turns.{is_on, in_user, handled, begins_turn, rests, turn_of, complete}
use Rattle.mips_machine.specs.Steps.{outside_of}
use Rattle.boot_turns.specs.AnyTurns.{Came, BrokeOff, LoopsMakeTurns}
use Rattle.boot_turns.specs.Sooner.{NoSooner, ComesTo}
use Rattle.boot_turns.specs.Completes.{state_seen, Open, Progress, Completed, WentOff, SkipsTurns, CompleteOk, CompleteErr, CompleteEnds}
use Rattle.boot_turns.specs.declared.completion.Begun.{Begun}
use Rattle.boot_turns.specs.declared.answers.RunFault.{RunFault}
use Rattle.boot_turns.specs.declared.answers.RunFault.TheVariants.{StepLimit, Disk, Sink}
use Rattle.boot_turns.proofs.MasksAndTimes.{Held, coming_held, on_is, on_of, user_rests, was_on, both_left}
use Rattle.boot_turns.proofs.LinesOfTurns.{turn_same, turn_more, still, completes_at}

-- AFTER A STEP no reset is latched
interrupted_reset : (s : State) (cause : Cause) (edata epc : ℕ) → s.reset ≡ false → (interrupted s cause edata epc).reset ≡ false
interrupted_reset s causes.Reset edata epc z = refl
interrupted_reset s causes.External edata epc z = z
interrupted_reset s other edata epc z = z

come_reset : (s : State) (o : Coming) → Held s o → s.reset ≡ false → (step_ended (come_to o)).reset ≡ false
come_reset s (Interrupt before cause edata epc) h z = interrupted_reset before cause edata epc (h.reset ∙ z)
come_reset s (Done after) h z = h.reset ∙ z

after_step : (x : Environment) (s : State) → s.off ≡ None → (step x s).reset ≡ false
after_step x s on = by s.reset refl
  where
    by : (b : Bool) → s.reset ≡ b → (step x s).reset ≡ false
    by true e = ap (λ (t : State). t.reset) (on_is x s on) ∙ ap (λ o. (step_ended (come_to o)).reset) (cond-true s.reset (Interrupt (latched x s) causes.Reset 0 s.cpu.pc) _ e)
    by false e = ap (λ (t : State). t.reset) (on_is x s on) ∙ come_reset (latched x s) _ (coming_held x (latched x s)) e

-- a machine that doesn't rest is in system mode, and on
left_false : (a b : Bool) → (a || b) ≡ false → a ≡ false
left_false true b e = e
left_false false b e = refl

right_false : (a b : Bool) → (a || b) ≡ false → b ≡ false
right_false true b e = absurd (cc)
right_false false b e = e

not_user : (s : State) → rests s ≡ false → in_user s ≡ false
unfolding rests
not_user s e = left_false (in_user s) _ e

not_false : (b : Bool) → not b ≡ false → b ≡ true
not_false true e = refl
not_false false e = sym e

not_off : (s : State) → rests s ≡ false → s.off ≡ None
unfolding rests
not_off s e = on_of s (not_false (is_on s) (right_false (in_user s) _ e))

and_false : (b : Bool) → (b && false) ≡ false
and_false true = refl
and_false false = refl

begins_none : (x : Environment) (s : State) → s.reset ≡ false → in_user s ≡ false → begins_turn x s ≡ false
unfolding begins_turn
begins_none x s r u = ap₂ (λ (a b : Bool). is_on s && (a || (b && not (handled x s)))) r u ∙ and_false (is_on s)

begins_on : (x : Environment) (s : State) → begins_turn x s ≡ true → s.off ≡ None
unfolding begins_turn
begins_on x s e = on_of s (both_left (is_on s) _ e)

-- so past the first step no turn begins where it doesn't rest
none_begins : (x : Environment) (s : State) (t : ℕ) → rests (run x s (suc t)) ≡ false → begins_turn x (run x s (suc t)) ≡ false
none_begins x s t e =
    let on : (run x s t).off ≡ None = was_on x (run x s t) (not_off (run x s (suc t)) e) in
    begins_none x (run x s (suc t)) (after_step x (run x s t) on) (not_user (run x s (suc t)) e)

-- THE COUNTS. Where the machine is on it was on before
on_before : (x : Environment) (s : State) (j u : ℕ) → j ≤ u → (run x s u).off ≡ None → (run x s j).off ≡ None
on_before x s j zero le on = let e : 0 ≡ j = omega (arith, le) in subst (λ i. (run x s i).off ≡ None) e on
on_before x s j (suc u) le on = ⊎_elim
    (λ (lt : j < suc u). on_before x s j u (omega (arith, lt)) (was_on x (run x s u) on))
    (λ (ge : suc u ≤ j). let e : suc u ≡ j = omega (arith, le, ge) in subst (λ i. (run x s i).off ≡ None) e on)
    (cases_lt j (suc u))

same_turns : (x : Environment) (s : State) (t u : ℕ) → t ≤ u → ((j : ℕ) → t ≤ j → j < u → begins_turn x (run x s j) ≡ false) → turn_of x s u ≡ turn_of x s t
same_turns x s t zero le none = let e : 0 ≡ t = omega (arith, le) in subst (λ i. turn_of x s 0 ≡ turn_of x s i) e refl
same_turns x s t (suc u) le none = ⊎_elim
    (λ (lt : t < suc u). turn_same x s u (none u (omega (arith, lt)) (omega arith)) ∙ same_turns x s t u (omega (arith, lt)) (λ j a b. none j a (omega (arith, b))))
    (λ (ge : suc u ≤ t). let e : suc u ≡ t = omega (arith, le, ge) in subst (λ i. turn_of x s (suc u) ≡ turn_of x s i) e refl)
    (cases_lt t (suc u))

no_more : (x : Environment) (s : State) (t : ℕ) → complete x s t ≤ turn_of x s t
no_more x s zero = omega arith
no_more x s (suc t) = cond_both (rests (run x s (suc t))) (turn_of x s (suc t)) (complete x s t) (λ n. n ≤ turn_of x s (suc t)) (λ _. omega arith)
    (λ _. let a = no_more x s t in cond_both (begins_turn x (run x s t)) (suc (turn_of x s t)) (turn_of x s t) (λ n. complete x s t ≤ n) (λ _. omega (arith, a)) (λ _. a))

-- more turns, or an earlier step
pub sooner_than : (x : Environment) (s : State) (k m t u : ℕ) → k ≤ m → u ≤ t → NoSooner x s k t → NoSooner x s m u
sooner_than x s k m t u le few n = record { before = λ j l. let b = n.before j (omega (arith, l, few)) in omega (arith, b, le); on = λ j l. n.on j (omega (arith, l, few)) }

-- k TURNS ARE COMPLETE AT t, and the machine is on there
module _ (x : Environment) (s : State) (k t : ℕ) (c : ComesTo x s k t) (on : (run x s t).off ≡ None) where
  -- a turn of one step
  one_more : begins_turn x (run x s t) ≡ true → slice_index (run x s (suc t)).special MODE ≡ 1 → ComesTo x s (suc k) (suc t)
  one_more begin mode =
      let turn : turn_of x s (suc t) ≡ suc k = turn_more x s t begin ∙ ap (λ n. suc n) (c.here on).0 in
      let rest : rests (run x s (suc t)) ≡ true = user_rests (run x s (suc t)) (eq-eqb (slice_index (run x s (suc t)).special MODE) 1 mode) in
      record {
        sooner = record {
          before = λ j l. ⊎_elim
              (λ (lt : j < t). let b = c.sooner.before j lt in omega (arith, b))
              (λ (ge : t ≤ j). let e : t ≡ j = omega (arith, l, ge) in subst (λ i. complete x s i < suc k) e (let a = (c.here on).1 in omega (arith, a)))
              (cases_lt j t);
          on = λ j l. on_before x s j t (omega (arith, l)) on;
        };
        here = λ _. (turn, completes_at x s (suc t) (omega arith) rest ∙ turn);
      }

  -- while none begins
  none_complete : (u : ℕ) → ((j : ℕ) → t ≤ j → j < u → begins_turn x (run x s j) ≡ false) → (j : ℕ) → j ≤ u → complete x s j ≤ k
  none_complete u none j le = ⊎_elim
      (λ (lt : j < t). let b = c.sooner.before j lt in omega (arith, b))
      (λ (ge : t ≤ j).
      let a = same_turns x s t j ge (λ i d e. none i d (omega (arith, e, le))) in
      let h = (c.here on).0 in
      let b = no_more x s j in
      omega (arith, a, h, b))
      (cases_lt j t)

  -- while one is open
  module _ (u : ℕ) (b : Begun) (o : Open x s t u b) where
    start_on : (run x s o.start).off ≡ None
    start_on = begins_on x (run x s o.start) o.begin

    open_on : (j : ℕ) → j < u → (run x s j).off ≡ None
    open_on j l = ⊎_elim
        (λ (lt : o.start < j). not_off (run x s j) (o.busy j lt l))
        (λ (le : j ≤ o.start). on_before x s j o.start le start_on)
        (cases_lt o.start j)

    open_complete : (j : ℕ) → ((i : ℕ) → o.start < i → i ≤ j → rests (run x s i) ≡ false) → complete x s j ≤ k
    open_complete j busy = ⊎_elim
        (λ (lt : o.start < j).
        let a = still x s o.start j (omega (arith, lt)) busy in
        let h = none_complete o.start o.none o.start (omega arith) in
        omega (arith, a, h))
        (λ (le : j ≤ o.start). none_complete o.start o.none j le)
        (cases_lt o.start j)

    open_sooner : NoSooner x s (suc k) u
    open_sooner = record {
      before = λ j l. let a = open_complete j (λ i d e. o.busy i d (omega (arith, e, l))) in omega (arith, a);
      on = open_on;
    }

    opened_turns : turn_of x s u ≡ suc k
    opened_turns =
        let to = o.to in
        same_turns x s (suc o.start) u (omega (arith, to)) (λ j a l. later j a l) ∙ turn_more x s o.start o.begin ∙ ap (λ n. suc n) (same_turns x s t o.start o.from o.none ∙ (c.here on).0)
      where
        later : (j : ℕ) → suc o.start ≤ j → j < u → begins_turn x (run x s j) ≡ false
        later zero a l = absurd (omega (arith, a))
        later (suc j) a l = none_begins x s j (o.busy (suc j) (omega (arith, a)) l)

    open_done : rests (run x s u) ≡ true → ComesTo x s (suc k) u
    open_done rest = let to = o.to in record { sooner = open_sooner; here = λ _. (opened_turns, completes_at x s u (omega (arith, to)) rest ∙ opened_turns) }

    open_more : rests (run x s u) ≡ false → NoSooner x s (suc k) (suc u)
    open_more busy = record {
      before = λ j l. let a = open_complete j (λ i d e. ⊎_elim (λ (lt : i < u). o.busy i d lt) (λ (ge : u ≤ i). let same : u ≡ i = omega (arith, e, l, ge) in subst (λ n. rests (run x s n) ≡ false) same busy) (cases_lt i u)) in omega (arith, a);
      on = λ j l. on_before x s j u (omega (arith, l)) (not_off (run x s u) busy);
    }

  -- a turn is complete, or the machine is off before it begins
  done : (u : ℕ) (b : Begun) → Completed x s t u b → ComesTo x s (suc k) u
  done u b d = open_done u b d.opened d.rest

  went_off : (u : ℕ) (b : Begun) → WentOff x s t u b → ComesTo x s (suc k) u
  went_off u b d = record {
    sooner = record {
      before = λ j l. let a = none_complete u d.none j (omega (arith, l)) in omega (arith, a);
      on = λ j l. ⊎_elim (λ (lt : j < t). c.sooner.on j lt) (λ (ge : t ≤ j). d.on j ge l) (cases_lt j t);
    };
    here = λ is_on. absurd (d.off is_on);
  }

  -- or it isn't yet, of a machine that is on
  not_yet : (u : ℕ) (b : Option Begun) → Progress x s t u b → (run x s u).off ≡ None → NoSooner x s (suc k) (suc u)
  not_yet u None p here = record {
    before = λ j l. let a = none_complete u p j (omega (arith, l)) in omega (arith, a);
    on = λ j l. on_before x s j u (omega (arith, l)) here;
  }
  not_yet u (Some b) p here = open_more u b p.0 p.1

-- turns of one step each
skips_on : (x : Environment) (s : State) (t n : ℕ) → (run x s t).off ≡ None → SkipsTurns x s t n → (run x s (t + n)).off ≡ None
skips_on x s t zero on skips = let e : t ≡ t + 0 = omega arith in subst (λ i. (run x s i).off ≡ None) e on
skips_on x s t (suc n) on skips = (skips n (omega arith)).2

after_skips : (x : Environment) (s : State) (k t n : ℕ) → ComesTo x s k t → (run x s t).off ≡ None → SkipsTurns x s t n → ComesTo x s (k + n) (t + n)
after_skips x s k t zero c on skips = let a : k ≡ k + 0 = omega arith in let e : t ≡ t + 0 = omega arith in subst₂ (λ i j. ComesTo x s i j) a e c
after_skips x s k t (suc n) c on skips =
    let few : SkipsTurns x s t n = λ j l. skips j (omega (arith, l)) in
    let so_far = after_skips x s k t n c on few in
    let here = skips n (omega arith) in
    let next : t + suc n ≡ suc (t + n) = omega arith in
    let all : suc (k + n) ≡ k + suc n = omega arith in
    subst₂ (λ i j. ComesTo x s i j) all (sym next)
    (one_more x s (k + n) (t + n) so_far (skips_on x s t n on few) here.0 (subst (λ i. slice_index (run x s i).special MODE ≡ 1) next here.1))

-- by the answer
any_ok : (x : Environment) (s : State) (k t : ℕ) → ComesTo x s k t → (run x s t).off ≡ None → (now : Option State) (budget left : ℕ) (b : Begun) → CompleteOk x now budget left s t b → Came x s (suc k) t now budget left
any_ok x s k t c on now budget left b (u, how, is, spent) = (
  u,
  ⊎_elim (λ (d : Completed x s t u b). done x s k t c on u b d) (λ (d : WentOff x s t u b). went_off x s k t c on u b d) how,
  is,
  spent,
)

any_err : (x : Environment) (s : State) (k t : ℕ) → ComesTo x s k t → (run x s t).off ≡ None → (now : Option State) (budget left : ℕ) (f : RunFault) → CompleteErr x now budget left s t f → BrokeOff x s (suc k) t now budget left f
any_err x s k t c on now budget left StepLimit (u, le, spent, is, none, here, p) =
    let at : u ≡ t + budget = omega (arith, spent, none) in
    (none, subst (λ i. NoSooner x s (suc k) (suc i)) at (not_yet x s k t c on u p.0 p.1 here), subst (λ i. now ≡ Some (run x s i)) at is)
any_err x s k t c on now budget left Disk (u, le, spent, p, here, is) = let sum : left + suc u ≡ budget + t = omega (arith, spent) in (suc u, omega (arith, le), not_yet x s k t c on u p.0 p.1 here, sum, is)
any_err x s k t c on now budget left Sink (u, le, spent, p, here, is) = let sum : left + suc u ≡ budget + t = omega (arith, spent) in (suc u, omega (arith, le), not_yet x s k t c on u p.0 p.1 here, sum, is)

-- behind turns that were passed, of so many at most
broke_later : (x : Environment) (s : State) (k m t n : ℕ) (now : Option State) (budget left : ℕ) → k ≤ m → n ≤ budget → (f : RunFault) → BrokeOff x s k (t + n) now (budget - n) left f → BrokeOff x s m t now budget left f
broke_later x s k m t n now budget left le few StepLimit (none, sooner, is) =
    let at : t + n + (budget - n) ≡ t + budget = omega (arith, few) in
    (none, subst (λ i. NoSooner x s m (suc i)) at (sooner_than x s k m (suc (t + n + (budget - n))) (suc (t + n + (budget - n))) le (omega arith) sooner), subst (λ i. now ≡ Some (run x s i)) at is)
broke_later x s k m t n now budget left le few Disk (at, from, sooner, spent, is) = (at, omega (arith, from), sooner_than x s k m at at le (omega arith) sooner, omega (arith, spent, few), is)
broke_later x s k m t n now budget left le few Sink (at, from, sooner, spent, is) = (at, omega (arith, from), sooner_than x s k m at at le (omega arith) sooner, omega (arith, spent, few), is)

by_result : (x : Environment) (s : State) (k t : ℕ) → ComesTo x s k t → (run x s t).off ≡ None → (now : Option State) (budget left most : ℕ) (result : Result (ℕ × Begun) RunFault) → CompleteEnds x now budget left s t most result →
    MatchResult result (λ r. Came x s (k + suc r.0) t now budget left) (BrokeOff x s (k + most) t now budget left)
by_result x s k t c on now budget left most (Ok r) (n, less, few, skips, (is, e)) =
    let w = any_ok x s (k + n) (t + n) (after_skips x s k t n c on skips) (skips_on x s t n on skips) now (budget - n) left r.1 e in
    let all : suc (k + n) ≡ k + suc r.0 = omega (arith, is) in
    let spent = w.3 in
    (w.0, subst (λ i. ComesTo x s i w.0) all w.1, w.2, omega (arith, spent, few))
by_result x s k t c on now budget left most (Err f) (n, less, few, skips, e) =
    broke_later x s (suc (k + n)) (k + most) t n now budget left (omega (arith, less)) few f
    (any_err x s (k + n) (t + n) (after_skips x s k t n c on skips) (skips_on x s t n on skips) now (budget - n) left f e)

pub loops_make_turns : LoopsMakeTurns
loops_make_turns count old new told retold budget left most result ends = λ s k t c on is.
    by_result (outside_of old.rows count) s k t c on (state_seen retold new) budget left most result (ends s t is)
