-- What a turn has done, from what the run of the machine says of it, behind turns that were passed.
use Rattle.std.proofs.Common.{◌≡◌, ◌≢◌, ℕ, zero, suc, ◌+◌, ◌-◌, ◌^◌, ◌<◌, ◌≤◌, Bool, true, false, not, ◌&&◌, Option, Some, None, List, [], ◌∷◌, ◌++◌, refl, sym, ap, ◌∙◌, subst, arith, append-nil}
use Rattle.std.specs.Prelude.{◌==◌, if◌then◌else◌, is_some, bit_or, slice_index}
use Rattle.std.proofs.lemmas.Bool.{cond_both}
use Rattle.mips_table.specs.Device.{Environment}
use Rattle.mips_table.specs.Flat.{VStep, Goes, Trap, vstep}
use Rattle.mips_table.specs.Machine.{State, run}
use Rattle.mips_table.specs.Turns.{in_user, lines_of_turn}
use Rattle.mips_machine.specs.Machine.{Held, state_of}
use Rattle.cvm_model.specs.declared.kernel_fault.KernelFault.{KernelFault}
use Rattle.cvm_model.specs.declared.kernel_fault.KernelFault.TheVariants as faults
use Rattle.cvm_model.specs.declared.row.Next.{Next}
use Rattle.cvm_model.specs.declared.row.Next.TheVariants.{User, Halt, Fault}
use Rattle.cvm_model.specs.declared.row.Row.{Row}
use Rattle.cvm_model.specs.Kernel.{Core, power_of}
use Rattle.cvm_model.specs.Primitives.{user_of}
use Rattle.cvm_model.specs.Cvm.{System, Status, Running, Halted, Faulted, Cvm, Begin, Steps, Traps, Interrupts, user_step, begin, status_of}
use Rattle.layer_contract.specs.Layer.{Rests}
use Rattle.boot_turns.specs.Completes.{state_seen, ShownAs}
use Rattle.boot_turns.specs.RunMachines.{RowAdded, RowsGrow, RunMachines}
use Rattle.boot_turns.specs.Advances.{Advanced, BudgetStops, Skipped}
use Rattle.boot_turns.specs.TurnEnds.{Stood}
use Rattle.boot_turns.specs.declared.completion.Begun.{Begun}
use Rattle.boot_turns.specs.declared.answers.View.{View}
use Rattle.boot_run.specs.Shown.{next_shown, end_of_next, ended_of}
use Rattle.boot_turns.specs.declared.answers.Turn.{Turn}
use Rattle.boot_turns.specs.declared.answers.Turn.TheVariants.{Step, Dispatch, Over}
use Rattle.boot_run.specs.TurnCalls.{rows_of_turn, Around, ReadyAt, Traces, Turned, Limited}
use Rattle.boot_run.specs.TurnParts.{count_on, next_of_held, turn_answer}

-- the power word of a fault tells it
fault_next : (f : KernelFault) (w : ℕ) → next_shown (Some (power_of f)) w ≡ Fault f
fault_next faults.NullUse w = refl
fault_next faults.Bounds w = refl
fault_next faults.DivZero w = refl
fault_next faults.StackOut w = refl
fault_next faults.BadUser w = refl

-- a machine that runs a user is on
on_none : (o : Option ℕ) (u : Bool) → (not (is_some o) && u) ≡ true → o ≡ None
on_none None u e = refl
on_none (Some w) u e = absurd (let f : false ≡ true = e in cc)

-- who is next is what the machine at rest shows
next_is : (n : Next) (status : Status) (s : State) (w : ℕ) → status ≡ status_of n → Rests status s → ((u : ℕ) → n ≡ User u → w ≡ u) → next_shown s.off w ≡ n
next_is (User u) status s w e r cur =
    let on : s.off ≡ None = on_none s.off (in_user s) (subst (λ b. Rests b s) e r) in
    ap (λ o. next_shown o w) on ∙ ap User (cur u refl)
next_is Halt status s w e r cur = ap (λ o. next_shown o w) (subst (λ b. Rests b s) e r)
next_is (Fault f) status s w e r cur = ap (λ o. next_shown o w) (subst (λ b. Rests b s) e r) ∙ fault_next f w

-- and so is how the run has ended
pub ended_is : (status : Status) (s : State) (w : ℕ) → Rests status s → end_of_next (next_shown s.off w) ≡ ended_of status
ended_is Running s w r = ap (λ o. end_of_next (next_shown o w)) (on_none s.off (in_user s) r)
ended_is Halted s w r = ap (λ o. end_of_next (next_shown o w)) r
ended_is (Faulted f) s w r = ap (λ o. end_of_next (next_shown o w)) r ∙ ap end_of_next (fault_next f w)

-- the rows of a turn, by what was noted of its begin, the user and who is next
abbrev pub noted_rows : ℕ → Begun → ℕ → Next → List Row
noted_rows k b user next = if b.dispatched then (record { turn = k; cause = b.cause; edata = b.edata; user = user; next = next }) ∷ [] else []

-- the user that a turn begins with
abbrev BeginsAt : Core → Begin → Type 0
BeginsAt c (Steps after) = Unit {0}
BeginsAt c (Traps cause edata at) = at.current ≡ c.current
BeginsAt c (Interrupts cause edata at pending) = at.current ≡ c.current

step_at : (c : Core) (v : VStep) → BeginsAt c (user_step c v)
step_at c (Goes f) = tt
step_at c (Trap f cause edata) = refl

begins_at : (k : ℕ) (c : Core) (m : ℕ) → BeginsAt c (begin k c m)
begins_at zero c m = refl
begins_at (suc k) c m = cond_both (m == 0) (user_step c (vstep (user_of c.users c.current))) (Interrupts 1 m c 0) (BeginsAt c) (λ _. step_at c (vstep (user_of c.users c.current))) (λ _. refl)

same_row : (k c d e f u v : ℕ) (n p : Next) → c ≡ d → e ≡ f → u ≡ v → n ≡ p →
    ◌≡◌ {A = Row} (record { turn = k; cause = c; edata = e; user = u; next = n }) (record { turn = k; cause = d; edata = f; user = v; next = p })
same_row k c d e f u v n p h i j l = rw (h, i, j, l) refl

none_noted : (k user : ℕ) (b : Begun) (next : Next) (rows : List Row) → b.dispatched ≡ false → rows ≡ rows ++ noted_rows k b user next
none_noted k user b next rows e = sym (append-nil rows) ∙ ap (λ l. rows ++ l) (sym (ap (λ (d : Bool). if d then (record { turn = k; cause = b.cause; edata = b.edata; user = user; next = next }) ∷ [] else []) e))

one_noted : (k user cause edata at : ℕ) (c after : Cvm) (b : Begun) (s : State) (w : ℕ) → b.dispatched ≡ true → b.cause ≡ cause → b.edata ≡ edata → user ≡ at →
    Rests after.status s → (after.status ≡ Running → w ≡ after.core.current) → RowAdded k cause edata at c after → after.rows ≡ c.rows ++ noted_rows k b user (next_shown s.off w)
one_noted k user cause edata at c after b s w d ca ed us r cur a =
    let next : next_shown s.off w ≡ a.next = next_is a.next after.status s w a.status r (λ u e. cur (a.status ∙ ap status_of e) ∙ a.current u e) in
    let row = same_row k b.cause cause b.edata edata user at (next_shown s.off w) a.next ca ed us next in
    a.rows ∙ ap (λ l. c.rows ++ l) (ap (λ (q : Row). q ∷ []) (sym row)
    ∙ sym (ap (λ (t : Bool). if t then (record { turn = k; cause = b.cause; edata = b.edata; user = user; next = next_shown s.off w }) ∷ [] else []) d))

rows_noted : (k user : ℕ) (c after : Cvm) (begin : Begin) (b : Begun) (s : State) (w : ℕ) → user ≡ c.core.current → BeginsAt c.core begin → ShownAs begin b → RowsGrow k c after begin →
    Rests after.status s → (after.status ≡ Running → w ≡ after.core.current) → after.rows ≡ c.rows ++ noted_rows k b user (next_shown s.off w)
rows_noted k user c after (Steps at) b s w us from h g r cur = g ∙ none_noted k user b (next_shown s.off w) c.rows h
rows_noted k user c after (Traps cause edata at) b s w us from (d, ca, ed) g r cur = one_noted k user cause edata at.current c after b s w d ca ed (us ∙ sym from) r cur g
rows_noted k user c after (Interrupts cause edata at pending) b s w us from (d, ca, ed) g r cur = one_noted k user cause edata at.current c after b s w d ca ed (us ∙ sym from) r cur g

none_some : (s : State) → None ≡ Some s → ⊥
none_some s e = cc

same_state : (a b : State) → Some a ≡ Some b → a ≡ b
same_state a b h = cc

-- a machine that is seen as a state has its parts
pub seen_parts : (told : Option (List (List ℕ))) (held : Held) (s : State) → state_seen told held ≡ Some s →
    (held.hardware.off ≡ s.off) × (slice_index held.hardware.memory 1024 ≡ slice_index s.memory 1024)
seen_parts None held s e = absurd (none_some s e)
seen_parts (Some ss) held s e =
    let h = same_state (state_of held ss) s e in
    (ap (λ (q : State). q.off) h, ap (λ (q : State). slice_index q.memory 1024) h)

-- what holds once a turn is complete, whatever is viewed
pub record Did (x : Environment) (y : System) (s0 : State) (k user : ℕ) (c : Cvm) (held : Held) (b : Begun) (end : ℕ) (after : Cvm) : Type 0 where
  pub rows : after.rows ≡ c.rows ++ noted_rows k b user (next_of_held held)
  pub ended : end_of_next (next_of_held held) ≡ ended_of after.status
  pub current : after.status ≡ Running → slice_index held.hardware.memory 1024 ≡ after.core.current
  pub few : suc k ≤ end

pub did : (x : Environment) (y : System) (s0 : State) (delay bound : ℕ) (m : RunMachines x y s0 delay bound) (k t : ℕ) (c : Cvm) → Stood x y s0 k t c → c.status ≡ Running → (user : ℕ) → user ≡ c.core.current →
    (retold : Option (List (List ℕ))) (held : Held) (budget left : ℕ) (b : Begun) (a : Advanced x y s0 k t c (state_seen retold held) budget left b) → Did x y s0 k user c held b a.ahead.end a.ahead.after
did x y s0 delay bound m k t c stood running user current retold held budget left b a =
    let parts = seen_parts retold held (run x s0 a.ahead.end) a.state in
    let rests : Rests a.ahead.after.status (run x s0 a.ahead.end) = a.ahead.stood.rests.0 in
    let word : a.ahead.after.status ≡ Running → slice_index held.hardware.memory 1024 ≡ a.ahead.after.core.current = λ run. parts.1 ∙ a.ahead.stood.rests.1.stands.users.current run in
    let shows = m.shows k t c stood running a.ahead in
    let grows = m.rows k c a.ahead.after stood.cvm running a.ahead.stood.cvm in
    record {
      rows = rw parts.0 (rows_noted k user c a.ahead.after (begin k c.core (bit_or c.pending (lines_of_turn x s0 k))) b (run x s0 a.ahead.end) (slice_index held.hardware.memory 1024)
          current (begins_at k c.core (bit_or c.pending (lines_of_turn x s0 k)))
          (subst (ShownAs (begin k c.core (bit_or c.pending (lines_of_turn x s0 k)))) (sym a.shows) shows) grows rests word);
      ended = rw parts.0 (ended_is a.ahead.after.status (run x s0 a.ahead.end) (slice_index held.hardware.memory 1024) rests);
      current = word;
      few = let all = a.ahead.stood.all in let le = m.few a.ahead.end in omega (arith, all, le);
    }

-- the answer of a turn, by what was noted of its begin
answer_rows : (k user : ℕ) (b : Begun) (n : Next) → rows_of_turn (turn_answer k user b n) ≡ noted_rows k b user n
answer_rows k user b n = by b.dispatched refl
  where
    by : (d : Bool) → b.dispatched ≡ d → rows_of_turn (turn_answer k user b n) ≡ noted_rows k b user n
    by true e = rw e refl
    by false e = rw e refl

answer_proper : (k user : ℕ) (b : Begun) (n : Next) → turn_answer k user b n ≢ Over
answer_proper k user b n h = by b.dispatched refl
  where
    step_over : (u : ℕ) → Step u ≡ Over → ⊥
    step_over u e = cc

    row_over : (w : Row) → Dispatch w ≡ Over → ⊥
    row_over w e = cc

    by : (d : Bool) → b.dispatched ≡ d → ⊥
    by true e = row_over _ (sym (ap (λ (d : Bool). if d then Dispatch (record { turn = k; cause = b.cause; edata = b.edata; user = user; next = n }) else Step user) e) ∙ h)
    by false e = step_over user (sym (ap (λ (d : Bool). if d then Dispatch (record { turn = k; cause = b.cause; edata = b.edata; user = user; next = n }) else Step user) e) ∙ h)

answer_user : (k user : ℕ) (b : Begun) (n : Next) (u : ℕ) → turn_answer k user b n ≡ Step u → u ≡ user
answer_user k user b n u h = by b.dispatched refl
  where
    step_user : (v w : ℕ) → Step v ≡ Step w → w ≡ v
    step_user v w e = cc

    row_step : (w : Row) (v : ℕ) → Dispatch w ≡ Step v → ⊥
    row_step w v e = cc

    by : (d : Bool) → b.dispatched ≡ d → u ≡ user
    by true e = absurd (row_step _ u (sym (ap (λ (d : Bool). if d then Dispatch (record { turn = k; cause = b.cause; edata = b.edata; user = user; next = n }) else Step user) e) ∙ h))
    by false e = step_user user u (sym (ap (λ (d : Bool). if d then Dispatch (record { turn = k; cause = b.cause; edata = b.edata; user = user; next = n }) else Step user) e) ∙ h)

-- what the code did once the turn behind so many was complete
pub record Wrote (held : Held) (n : ℕ) (b : Begun) (answer : Turn) (before after : Around) : Type 0 where
  pub spent : after.steps + after.budget ≡ before.steps + before.budget
  pub small : before.steps + before.budget < 2 ^ 64
  pub turns : after.turns ≡ count_on (count_on before.turns n) 1
  pub current : after.current ≡ slice_index held.hardware.memory 1024
  pub ended : after.ended ≡ end_of_next (next_of_held held)
  pub fault : after.fault ≡ before.fault
  pub is : answer ≡ turn_answer (count_on before.turns n) before.current b (next_of_held held)

-- behind n turns that were passed, from where the call found the run
module _ (x : Environment) (y : System) (s0 : State) (delay bound : ℕ) (m : RunMachines x y s0 delay bound) (v : View) (k t : ℕ) (c : Cvm) (before after : Around) (r : ReadyAt x y s0 v k t c before) (running : c.status ≡ Running)
    (n : ℕ) (le : n ≤ before.budget) (s : Skipped x y s0 k t c n) where
  -- the turn was broken off
  pub limited : BudgetStops x y s0 (k + n) (t + n) after.state (before.budget - n) after.budget → after.steps + after.budget ≡ before.steps + before.budget → after.ended ≡ before.ended →
      Limited x s0 (k + n) (t + n) (record before { budget = before.budget - n }) after
  limited w time ended =
      let none = w.spent in
      let steps = r.steps in
      record {
        spent = w.spent;
        state = w.state;
        steps = omega (arith, time, none, steps, le);
        between = w.goes.between;
        on = w.goes.on;
        ended = ended ∙ r.ended ∙ ap ended_of running;
      }

  module _ (retold : Option (List (List ℕ))) (held : Held) (b : Begun) (state : after.state ≡ state_seen retold held) (adv : Advanced x y s0 (k + n) (t + n) s.after (state_seen retold held) (before.budget - n) after.budget b) (answer : Turn)
      (w : Wrote held n b answer before after) where
    user : before.current ≡ s.after.core.current
    user = r.current running ∙ sym s.current

    done : Did x y s0 (k + n) before.current s.after held b adv.ahead.end adv.ahead.after
    done = did x y s0 delay bound m (k + n) (t + n) s.after s.stood s.running before.current user retold held (before.budget - n) after.budget b adv

    -- the counter of turns stands below its end
    counted : count_on before.turns n ≡ k + n
    counted = let small = w.small in let steps = r.steps in let turns = r.turns in let all = s.stood.all in let few = m.few (t + n) in omega (arith, small, steps, turns, all, few, le)

    answer_is : answer ≡ turn_answer (k + n) before.current b (next_of_held held)
    answer_is = w.is ∙ ap (λ i. turn_answer i before.current b (next_of_held held)) counted

    -- the turn is complete
    pub turned : Traces x y s0 v adv.ahead.end after.tracer → Turned x y s0 v (k + n) (t + n) s.after (record before { budget = before.budget - n }) after answer
    turned traces = record {
      ahead = adv.ahead;
      ready = record {
        stood = adv.ahead.stood;
        state = state ∙ adv.state;
        steps = let a = adv.spent in let time = w.spent in let steps = r.steps in omega (arith, a, time, steps, le);
        turns = let few = done.few in let a = adv.spent in let time = w.spent in let steps = r.steps in let small = w.small in let turns = w.turns ∙ ap (λ i. count_on i 1) counted in omega (arith, few, a, time, steps, small, turns, le);
        current = λ run. w.current ∙ done.current run;
        ended = w.ended ∙ done.ended;
        fault = w.fault ∙ r.fault;
        traces = traces;
      };
      budget = adv.spent;
      proper = λ h. answer_proper (k + n) before.current b (next_of_held held) (sym answer_is ∙ h);
      rows = done.rows ∙ ap (λ l. s.after.rows ++ l) (sym (ap rows_of_turn answer_is ∙ answer_rows (k + n) before.current b (next_of_held held)));
      step = λ u e. answer_user (k + n) before.current b (next_of_held held) u (sym answer_is ∙ e) ∙ user;
    }
