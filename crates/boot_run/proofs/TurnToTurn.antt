-- From turn to turn, and how the loop over turns ends.
use Rattle.std.proofs.Common.{◌≡◌, ◌≢◌, ℕ, zero, suc, ◌+◌, ◌-◌, ◌<◌, ◌≤◌, Bool, true, false, not, Option, Some, None, Ok, Err, refl, sym, ap, ap₂, ◌∙◌, subst, ⊎_elim, arith, eq-eqb, ne_eqb}
use Rattle.std.specs.Prelude.{◌==◌, ◌||◌, is_some, IsSome, if◌then◌else◌}
use Rattle.std.proofs.lemmas.Bool.{cases_lt}
use Rattle.mips_table.specs.Device.{Environment}
use Rattle.mips_table.specs.Machine.{State, run}
use Rattle.mips_table.specs.Turns.{is_on, complete, is_end, end_within, TurnLaws}
use Rattle.cvm_model.specs.Kernel.{power_of}
use Rattle.cvm_model.specs.declared.row.Next.{Next}
use Rattle.cvm_model.specs.Cvm.{System, Status, Running, Halted, Faulted, Cvm, first_cvm}
use Rattle.layer_contract.specs.Layer.{Rests}
use Rattle.boot_turns.specs.RunMachines.{RunMachines}
use Rattle.boot_turns.specs.Advances.{Skipped}
use Rattle.boot_turns.specs.TurnEnds.{Stood}
use Rattle.boot_turns.specs.declared.answers.View.{View}
use Rattle.boot_turns.specs.declared.answers.Turn.{Turn}
use Rattle.boot_turns.specs.declared.answers.RunFault.{RunFault}
use Rattle.boot_turns.specs.declared.answers.RunFault.TheVariants.{StepLimit, Disk, Sink}
use Rattle.boot_run.specs.TurnCalls.{Around, ReadyAt, Turned, Limited, TurnsEnd}
use Rattle.boot_run.specs.Pieces.{Gone, Late, FirstAt, GoFails}
use Rattle.boot_run.specs.Shown.{ended_of}

-- after i turns the machine came to step t, and no end came before
pub record Came (x : Environment) (y : System) (s0 : State) (steps i t : ℕ) (c : Cvm) (budget : ℕ) : Type 0 where
  pub stood : Stood x y s0 i t c
  pub before : (j : ℕ) → j < t → complete x s0 j < i
  pub on : (j : ℕ) → j < t → (run x s0 j).off ≡ None
  pub spent : budget + t ≡ steps

-- and the next call finds the run so
pub record Going (x : Environment) (y : System) (s0 : State) (v : View) (steps i t : ℕ) (c : Cvm) (now : Around) : Type 0 where
  pub ready : ReadyAt x y s0 v i t c now
  pub came : Came x y s0 steps i t c now.budget

abbrev pub Goes : Environment → System → State → View → (steps i : ℕ) → Around → Type 0
Goes x y s0 v steps i now = (t : ℕ) × (c : Cvm) × Going x y s0 v steps i t c now

pub going_from : (x : Environment) (y : System) (s0 : State) (v : View) (k t steps : ℕ) (c : Cvm) (now : Around) → FirstAt x s0 k t → now.budget + t ≡ steps → ReadyAt x y s0 v k t c now → Goes x y s0 v steps k now
going_from x y s0 v k t steps c now starts sum ready = (t, c, record { ready = ready; came = record { stood = ready.stood; before = starts.before; on = starts.on; spent = sum } })

-- turns that were passed
pub came_on : (x : Environment) (y : System) (s0 : State) (steps i t : ℕ) (c : Cvm) (budget : ℕ) → Came x y s0 steps i t c budget → (n : ℕ) → n ≤ budget → (w : Skipped x y s0 i t c n) → Came x y s0 steps (i + n) (t + n) w.after (budget - n)
came_on x y s0 steps i t c budget g n le w = record {
  stood = w.stood;
  before = λ j h. ⊎_elim
      (λ (lt : j < t). let e = g.before j lt in omega (arith, e))
      (λ (ge : t ≤ j).
      let there : t + (j - t) ≡ j = omega (arith, ge) in
      let e : complete x s0 j ≡ i + (j - t) = subst (λ a. complete x s0 a ≡ i + (j - t)) there (w.done (j - t) (omega (arith, h, ge))) in
      omega (arith, e, h, ge))
      (cases_lt j t);
  on = λ j h. w.on j (omega (arith, h));
  spent = let e = g.spent in omega (arith, e, le);
}

-- how a run ended tells its status
pub running_of : (s : Status) → ended_of s ≡ None → s ≡ Running
running_of Running e = refl
running_of Halted e = absurd (cc)
running_of (Faulted f) e = absurd (cc)

pub goes_on : (x : Environment) (y : System) (s0 : State) (v : View) (i t : ℕ) (c : Cvm) (now : Around) → ReadyAt x y s0 v i t c now → now.ended ≡ None → c.status ≡ Running
goes_on x y s0 v i t c now r e = running_of c.status (sym r.ended ∙ e)

or_true : (b : Bool) → (b || true) ≡ true
or_true true = refl
or_true false = refl

end_at : (x : Environment) (s : State) (k t : ℕ) → complete x s t ≡ k → is_end x s k t ≡ true
end_at x s k t e = ap (λ b. b || not (is_on (run x s t))) (eq-eqb (complete x s t) k e)

end_off : (x : Environment) (s : State) (k t v : ℕ) → (run x s t).off ≡ Some v → is_end x s k t ≡ true
end_off x s k t v e = ap (λ o. (complete x s t == k) || not (not (is_some o))) e ∙ or_true _

pub no_end : (x : Environment) (s : State) (k t : ℕ) → complete x s t ≢ k → (run x s t).off ≡ None → is_end x s k t ≡ false
no_end x s k t e o = ap₂ (λ (b : Bool) (o : Option ℕ). b || not (not (is_some o))) (ne_eqb (complete x s t) k e) o

-- the next turn is complete
going_next : (x : Environment) (y : System) (s0 : State) (v : View) (steps i next t : ℕ) (c : Cvm) (before after : Around) (answer : Turn) → suc i ≡ next →
    Came x y s0 steps i t c before.budget → Turned x y s0 v i t c before after answer → Goes x y s0 v steps next after
going_next x y s0 v steps i next t c before after answer is g w =
    let a = w.ahead in
    let ready = subst (λ n. ReadyAt x y s0 v n a.end a.after after) is w.ready in
    let b0 = g.spent in
    let b1 = w.budget in (
      a.end,
      a.after,
      record {
        ready = ready;
        came = record {
          stood = ready.stood;
          before = λ j h. ⊎_elim
              (λ (lt : j < t). let e = g.before j lt in omega (arith, e, is))
              (λ (ge : t ≤ j). let e = a.between j ge h in omega (arith, e, is))
              (cases_lt j t);
          on = a.on;
          spent = omega (arith, b0, b1);
        };
      },
    )

-- so many turns were made in one call
pub going_turns : (x : Environment) (y : System) (s0 : State) (v : View) (steps i t : ℕ) (c : Cvm) (most : ℕ) (before after : Around) (made : ℕ) (answer : Turn) →
    Going x y s0 v steps i t c before → TurnsEnd x y s0 v i t c most before after (Ok (made, answer)) → Goes x y s0 v steps (i + made) after
going_turns x y s0 v steps i t c most before after made answer g (n, lt, le, s, (is, w)) =
    let next : suc (i + n) ≡ i + made = omega (arith, is) in
    going_next x y s0 v steps (i + n) (i + made) (t + n) s.after (record before { budget = before.budget - n }) after answer next
    (came_on x y s0 steps i t c before.budget g.came n le s) w

-- no end comes before t
pub not_before : (x : Environment) (y : System) (s0 : State) (turns steps i t : ℕ) (c : Cvm) (budget : ℕ) → i ≤ turns → Came x y s0 steps i t c budget → (j : ℕ) → j < t → is_end x s0 turns j ≡ false
not_before x y s0 turns steps i t c budget le g j h = let b = g.before j h in no_end x s0 turns j (λ e. omega (arith, b, e)) (g.on j h)

within : (x : Environment) (y : System) (s0 : State) (steps i t : ℕ) (c : Cvm) (budget : ℕ) → Came x y s0 steps i t c budget → t ≤ steps
within x y s0 steps i t c budget g = let b = g.spent in omega (arith, b)

-- so many turns are complete
pub go_done : (x : Environment) (y : System) (s0 : State) (v : View) (turns steps i : ℕ) (now : Around) → 1 ≤ turns → i ≡ turns → Goes x y s0 v steps i now → Gone x y s0 v turns steps now
go_done x y s0 v turns steps zero now some same (t, c, g) = absurd (omega arith)
go_done x y s0 v turns steps (suc k) now some same (t, c, g) = record {
  count = k;
  at = t;
  past = c;
  ready = g.ready;
  end = record { here = end_at x s0 turns t (g.ready.stood.all ∙ same); first = not_before x y s0 turns steps (suc k) t c now.budget (omega arith) g.came };
  within = within x y s0 steps (suc k) t c now.budget g.came;
}

some_none : (o : Option Next) → o ≡ None → IsSome o → ⊥
some_none None e h = cc
some_none (Some n) e h = cc

-- or the run has ended
off_of : (s : Status) (z : State) → (IsSome (ended_of s)) → Rests s z → (v : ℕ) × (z.off ≡ Some v)
off_of Running z e r = absurd (cc)
off_of Halted z e r = (0, r)
off_of (Faulted f) z e r = (power_of f, r)

pub go_over : (x : Environment) (y : System) (s0 : State) (delay bound : ℕ) → RunMachines x y s0 delay bound → (v : View) (turns steps i : ℕ) (now : Around) → i ≤ turns → IsSome now.ended → Goes x y s0 v steps i now →
    Gone x y s0 v turns steps now
go_over x y s0 delay bound m v turns steps zero now le over (t, c, g) =
    let first : c ≡ first_cvm y = m.same 0 c (first_cvm y) g.ready.stood.cvm (record { units = 0; is = refl }) in
    let none : now.ended ≡ None = g.ready.ended ∙ ap (λ (w : Cvm). ended_of w.status) first in
    absurd (some_none now.ended none over)
go_over x y s0 delay bound m v turns steps (suc k) now le over (t, c, g) =
    let off = off_of c.status (run x s0 t) (subst (λ (o : Option Next). IsSome o) g.ready.ended over) g.ready.stood.rests.0 in
    record {
      count = k;
      at = t;
      past = c;
      ready = g.ready;
      end = record { here = end_off x s0 turns t off.0 off.1; first = not_before x y s0 turns steps (suc k) t c now.budget le g.came };
      within = within x y s0 steps (suc k) t c now.budget g.came;
    }

-- the search for the end stops within the steps
pub end_most : (x : Environment) (s : State) (k n : ℕ) → end_within x s k n ≤ n
end_most x s k zero = omega arith
end_most x s k (suc n) = by (is_end x s k (end_within x s k n)) (end_most x s k n)
  where
    by : (b : Bool) → end_within x s k n ≤ n → (if b then end_within x s k n else suc n) ≤ suc n
    by true h = omega (arith, h)
    by false h = omega arith

-- where there is no end it is the last step
pub none_within : TurnLaws → (x : Environment) (s : State) (k n : ℕ) → ((j : ℕ) → j ≤ n → is_end x s k j ≡ false) → (is_end x s k (end_within x s k n) ≡ false) × (end_within x s k n ≡ n)
none_within counts x s k n h = let e = h (end_within x s k n) (end_most x s k n) in (e, (counts.none x s k n e).0)

module _ (counts : TurnLaws) (x : Environment) (y : System) (s0 : State) (turns steps i t : ℕ) (c : Cvm) (before after : Around) (lt : i < turns) (g : Came x y s0 steps i t c before.budget) where
  -- where turn i isn't complete at a step, and the machine is on, the run hasn't ended there
  pub goes_on_to : (j : ℕ) → (t ≤ j → complete x s0 j ≡ i) → (run x s0 j).off ≡ None → is_end x s0 turns j ≡ false
  goes_on_to j between on = ⊎_elim
      (λ (l : j < t). not_before x y s0 turns steps i t c before.budget (omega arith) g j l)
      (λ (ge : t ≤ j). let e = between ge in no_end x s0 turns j (λ f. omega (arith, e, f)) on)
      (cases_lt j t)

  -- the steps were run
  late : Limited x s0 i t before after → Late x s0 turns steps after
  late w =
      let b = g.spent in
      let same : t + before.budget ≡ steps = omega (arith, b) in
      let none : (j : ℕ) → j ≤ steps → is_end x s0 turns j ≡ false = λ j h. goes_on_to j (λ ge. w.between j ge (omega (arith, same))) (w.on j (omega (arith, same))) in
      let e = none_within counts x s0 turns steps none in
      let here : t + before.budget ≡ end_within x s0 turns steps = same ∙ sym e.1 in
      record { none = e.0; state = w.state ∙ ap (λ n. Some (run x s0 n)) here }

-- a call that makes so many turns at most fails in one of them
pub go_fails : (counts : TurnLaws) (x : Environment) (y : System) (s0 : State) (v : View) (turns steps i t : ℕ) (c : Cvm) (most : ℕ) (before after : Around) → i + most ≤ turns → Going x y s0 v steps i t c before →
    (f : RunFault) → TurnsEnd x y s0 v i t c most before after (Err f) → GoFails x s0 turns steps after f
go_fails counts x y s0 v turns steps i t c most before after room g StepLimit (n, lt, le, s, w) =
    late counts x y s0 turns steps (i + n) (t + n) s.after (record before { budget = before.budget - n }) after (omega (arith, room, lt)) (came_on x y s0 steps i t c before.budget g.came n le s) w
go_fails counts x y s0 v turns steps i t c most before after room g Disk w = tt
go_fails counts x y s0 v turns steps i t c most before after room g Sink w = tt
