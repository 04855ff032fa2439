-- The turn that the loop has gone through is the next one.
use Rattle.std.proofs.Common.{◌≡◌, ◌⊎◌, ℕ, suc, ◌<◌, ◌≤◌, Bool, true, false, Option, Some, None, subst, ⊎_elim, arith}
use Rattle.std.specs.Prelude.{bit_or}
use Rattle.std.proofs.lemmas.Bool.{cases_lt, cases_order}
use Rattle.mips_table.specs.Device.{Environment}
use Rattle.mips_table.specs.Machine.{State, run}
use Rattle.mips_table.specs.Turns.{begins_turn, rests, is_on, in_user, turn_of, complete, lines_of_turn}
use Rattle.c0_meaning.specs.State.{C0State}
use Rattle.cvm_model.specs.Kernel.{power_of}
use Rattle.cvm_model.specs.Cvm.{System, Status, Running, Halted, Faulted, Cvm, begin}
use Rattle.layer_contract.specs.Layer.{Rests}
use Rattle.boot_turns.specs.declared.completion.Begun.{Begun}
use Rattle.boot_turns.specs.TurnEnds.{Stood}
use Rattle.boot_turns.specs.Ahead.{TurnAhead}
use Rattle.boot_turns.specs.Completes.{note, ShownAs, Progress, Completed}
use Rattle.boot_turns.proofs.MasksAndTimes.{both_right, user_rests, off_rests}
use Rattle.boot_turns.proofs.LinesOfTurns.{turn_more, turn_grows, completes_at}
use Rattle.boot_turns.proofs.TurnGoesOn.{on_back, Given, Turns, Waits, begin_turn, turn_ahead}
use Rattle.boot_turns.proofs.WholeRuns.{forward}
use Rattle.boot_turns.specs.RunMachines.{TurnFound, TurnGoesOn, TurnShows}

true_false : (b : Bool) → b ≡ true → b ≡ false → ⊥
true_false b e f = cc

pub stood_rests : (x : Environment) (y : System) (s : State) (k t : ℕ) (c : Cvm) → Stood x y s (suc k) t c → rests (run x s t) ≡ true
stood_rests x y s k t c st = by c.status st.rests.0
  where
    by : (b : Status) → Rests b (run x s t) → rests (run x s t) ≡ true
    by Running r = user_rests (run x s t) (both_right (is_on (run x s t)) (in_user (run x s t)) r)
    by Halted r = off_rests (run x s t) 0 r
    by (Faulted f) r = off_rests (run x s t) (power_of f) r

-- two first steps that begin a turn are one
same_start : (x : Environment) (s : State) (t a b : ℕ) → t ≤ a → t ≤ b → ((j : ℕ) → t ≤ j → j < a → begins_turn x (run x s j) ≡ false) → ((j : ℕ) → t ≤ j → j < b → begins_turn x (run x s j) ≡ false) →
    begins_turn x (run x s a) ≡ true → begins_turn x (run x s b) ≡ true → a ≡ b
same_start x s t a b la lb na nb ba bb = ⊎_elim
    (λ (e : a ≡ b). e)
    (λ (o : (a < b) ⊎ (b < a)). ⊎_elim (λ (lt : a < b). absurd (true_false _ ba (nb a la lt))) (λ (lt : b < a). absurd (true_false _ bb (na b lb lt))) o)
    (cases_order a b)

more_turns : (x : Environment) (s : State) (k t u : ℕ) (b : Begun) → turn_of x s t ≡ k → (c : Completed x s t u b) → k < complete x s u
more_turns x s k t u b e c =
    let o = c.opened in
    let g1 = turn_grows x s t o.start o.from in
    let m : turn_of x s (suc o.start) ≡ suc (turn_of x s o.start) = turn_more x s o.start o.begin in
    let to = o.to in
    let g2 = turn_grows x s (suc o.start) u to in
    let d : complete x s u ≡ turn_of x s u = completes_at x s u (omega (arith, to)) c.rest in
    omega (arith, g1, m, g2, d, e)

pub finished : (x : Environment) (y : System) (s : State) (late held : ℕ) (Typed : C0State → Type 0) → Given x y s late held Typed → TurnFound x y s
finished x y s late held Typed g k t u c b st r d = ⊎_elim
    (λ (w : Turns x y s Typed late held k t c).
    let a : TurnAhead x y s k t c = w.ahead in
    let o = d.opened in
    let e : a.start ≡ o.start = same_start x s t a.start o.start a.from o.from a.none o.none a.begin o.begin in
    let to = a.to in
    let fr = a.from in (
      a,
      e,
      ⊎_elim
          (λ (q : a.end ≡ u). q)
          (λ (w : (a.end < u) ⊎ (u < a.end)). ⊎_elim
          (λ (lt : a.end < u). absurd (true_false _ (stood_rests x y s k a.end a.after a.stood) (o.busy a.end (omega (arith, e, to)) lt)))
          (λ (lt : u < a.end). let ou = o.to in let of = o.from in let b2 = a.between u (omega (arith, ou, of)) lt in absurd (omega (arith, b2, more_turns x s k t u b st.turn d)))
          w)
          (cases_order a.end u),
    ))
    (λ (b2 : Waits x y s late held k t u c).
    let ou = d.opened.to in
    let of = d.opened.from in
    let e = b2.between u (omega (arith, ou, of)) (omega arith) in
    absurd (omega (arith, e, more_turns x s k t u b st.turn d)))
    (turn_ahead x y s late held Typed g k t u c st r (forward x y s late held Typed g st.cvm.units k c st.cvm.is).1.typed)

pub unfinished : (x : Environment) (y : System) (s : State) (late held : ℕ) (Typed : C0State → Type 0) → Given x y s late held Typed → TurnGoesOn x y s
unfinished x y s late held Typed g k t n c b le st r pr = ⊎_elim
    (λ (w : Turns x y s Typed late held k t c).
    let a : TurnAhead x y s k t c = w.ahead in
    let far : n < a.end = ⊎_elim (λ (lt : n < a.end). lt) (λ (ge : a.end ≤ n). absurd (by a ge b pr)) (cases_lt n a.end) in
    (λ j l h. a.between j l (omega (arith, far)), λ j h. a.on j (omega (arith, far))))
    (λ (w : Waits x y s late held k t n c).
    let on : (run x s n).off ≡ None = ⊎_elim
    (λ (lt : w.beginning.start < n). (w.inside n lt (omega arith)).on)
    (λ (ge : n ≤ w.beginning.start). on_back x s n w.beginning.start ge w.beginning.on)
    (cases_lt w.beginning.start n) in
    (w.between, λ j h. on_back x s j n h on))
    (turn_ahead x y s late held Typed g k t n c st r (forward x y s late held Typed g st.cvm.units k c st.cvm.is).1.typed)
  where
    by : (a : TurnAhead x y s k t c) → a.end ≤ n → (b : Option Begun) → Progress x s t n b → ⊥
    by a ge None pr = let to = a.to in true_false _ a.begin (pr a.start a.from (omega (arith, to)))
    by a ge (Some b) pr =
        let o = pr.0 in
        let d : a.start ≡ o.start = same_start x s t a.start o.start a.from o.from a.none o.none a.begin o.begin in
        let to = a.to in
        let rested = stood_rests x y s k a.end a.after a.stood in
        ⊎_elim
        (λ (lt : a.end < n). true_false _ rested (o.busy a.end (omega (arith, d, to)) lt))
        (λ (eq : n ≤ a.end). let d2 : n ≡ a.end = omega arith in true_false _ rested (subst (λ i. rests (run x s i) ≡ false) d2 pr.1))
        (cases_lt a.end n)

-- what is shown once the turn has begun
pub shown : (x : Environment) (y : System) (s : State) (late held : ℕ) (Typed : C0State → Type 0) → Given x y s late held Typed → TurnShows x y s
shown x y s late held Typed g k t c st r a =
    let b = begin_turn x y s late held Typed g k t c st r in
    let e : b.start ≡ a.start = same_start x s t b.start a.start b.from a.from b.none a.none b.begin_here a.begin in
    subst (λ i. ShownAs (begin k c.core (bit_or c.pending (lines_of_turn x s k))) (note (run x s (suc i)))) e b.shows
