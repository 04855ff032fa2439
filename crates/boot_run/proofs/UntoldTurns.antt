-- The calls of turns from any state of the machine: its transfers, and texts that aren't told; and those of the loop over turns.
use Rattle.std.proofs.Common.{◌≡◌, ℕ, zero, suc, ◌+◌, ◌-◌, ◌<◌, ◌≤◌, Bool, true, false, Option, Some, None, List, [], ◌∷◌, ◌++◌, Result, Ok, Err, refl, sym, ap, ◌∙◌, subst, arith, ⊎_elim, eq-eqb}
use Rattle.std.specs.Prelude.{IsSome, is_some, not, ◌||◌, ◌==◌}
use Rattle.std.proofs.lemmas.Bool.{cases_lt}
use Rattle.cvm_outside.specs.Outside.{Outside, Files, output}
use Rattle.cvm_outside.specs.declared.sink.Sink as sink_of
use Rattle.cvm_outside.specs.declared.sectors.Sectors as sectors_of
use Rattle.cvm_outside.specs.Script.{Call, Printed, Who, TheSink, TheDisk, Performs, done, Puts, blame}
use Rattle.cvm_outside.proofs.ScriptsFollow.{first}
use Rattle.cvm_outside.proofs.RowsPut.{same_script}
use Rattle.mips_table.specs.Device as device
use Rattle.mips_table.specs.Machine.{State, run}
use Rattle.mips_table.specs.Turns.{complete, is_end, IsTurnEnd, end_within, TurnLaws}
use Rattle.schedule_file.specs.Rows.{Rows}
use Rattle.mips_machine.specs.Steps.{outside_of, script_of_step}
use Rattle.cvm_model.specs.Cvm.{map_of}
use Rattle.cvm_model.specs.declared.row.Next.{Next}
use Rattle.layer_contract.specs.Boots.{boot_of}
use Rattle.boot_turns.specs.AnyTurns.{BrokeOff}
use Rattle.boot_turns.specs.Completes.{state_seen}
use Rattle.boot_turns.specs.Sooner.{NoSooner, ComesTo}
use Rattle.boot_turns.specs.RowScripts.{of_run}
use Rattle.boot_turns.specs.LoopScripts.{InSteps, StepsCall}
use Rattle.boot_turns.specs.declared.answers.Turn.{Turn}
use Rattle.boot_turns.specs.declared.answers.RunFault.{RunFault}
use Rattle.boot_turns.specs.declared.answers.RunFault.TheVariants.{StepLimit, Disk, Sink}
use Rattle.boot_turns.specs.declared.tracer.Tracer.{Tracer}
use Rattle.boot_turns.proofs.StepMakes.{from_add, in_all, in_both}
use Rattle.boot_run.specs.AnyRun.{AnyTurnsRun, AnyGoRuns}
use Rattle.boot_run.specs.AnyScripts.{untold_step, untold_script, TurnsUntold, GoUntold}
use Rattle.boot_run.specs.LoadEnds.{Kept}
use Rattle.boot_run.specs.TurnCalls.{run_around, KeepsLoad}
use Rattle.boot_run.specs.TurnParts.{rows_before}
use Rattle.boot_run.proofs.AnyRunCalls.{AnyGoing, is_on}
use Rattle.boot_run.proofs.TurnToTurn.{no_end, none_within}
use Rattle.boot_run.proofs.GoScripts.{no_sooner}
use Rattle.boot_run.proofs.ScriptsJoined.{at, none_put, some_put}
use Rattle.boot_run.proofs.TextsBehind.{each_text, last_text}

gone : (q : Option Tracer) → q ≡ None → IsSome q → ⊥
gone None e h = cc
gone (Some kept) e h = absurd (cc)

other_end : (q : Option Next) → q ≡ None → IsSome q → ⊥
other_end None e h = cc
other_end (Some n) e h = absurd (cc)

-- a step is made in a turn
some_steps : (x : device.Environment) (s : State) (k made t u : ℕ) → 1 ≤ made → ComesTo x s k t → ComesTo x s (k + made) u → (run x s t).off ≡ None → t ≤ u → t < u
some_steps x s k made t u some here there on le = ⊎_elim
    (λ (lt : t < u). lt)
    (λ (ge : u ≤ t).
    let e : t ≡ u = omega (arith, le, ge) in
    let a = (here.here on).1 in
    let b = (there.here (subst (λ i. (run x s i).off ≡ None) e on)).1 in
    let c : complete x s t ≡ k + made = subst (λ i. complete x s i ≡ k + made) (sym e) b in
    absurd (omega (arith, a, c, some)))
    (cases_lt t u)

-- steps behind no call
from_there : (f : ℕ → List Call) (n : ℕ) (old mid new : Outside) (blamed : Option Who) → Performs [] old mid None → InSteps f n mid new blamed → InSteps f n old new blamed
from_there f n old mid new blamed (done here) made = made

-- THE CALLS OF ONE CALL of `turns`, by what was called before the turns, in their steps and behind them
module _ {L O D : Type 0} (text : sink_of.Ghosts O) (told : sectors_of.Ghosts D) (r new : Kept L) (o o1 o2 o3 : O) (d d1 : D) (budget left most : ℕ) where
  -- a trace isn't untold
  pub untold_traced : {T : Type 0} (n : ℕ) (result : Result T RunFault) → IsSome r.tracer → TurnsUntold text told r (o, d) (o1, d1) n result
  untold_traced n result traced s k t alone on fine comes here is = absurd (gone r.tracer alone traced)

  module _ (puts : Puts (rows_before r.boot r.tracer r.turns) (output text o) (output text o1) None) (n : ℕ) where
    nothing : (shelf : Files) → r.tracer ≡ None → Performs [] (at text told shelf o d) (at text told shelf o1 d) None
    nothing shelf alone = none_put text told shelf o o1 d (rows_before r.boot r.tracer r.turns) (ap (λ (q : Option Tracer). rows_before r.boot q r.turns) alone) puts

    -- they were broken off
    pub untold_broke : {R : Type 0} (T : Type 0) (f : RunFault) → StepsCall {T = R} text told (map_of (boot_of r.boot)) r.machine r.tracer (o1, d) (o2, d1) n (Err f) → TurnsUntold {T = T} text told r (o, d) (o2, d1) n (Err f)
    untold_broke T f calls s k t alone on fine comes here is shelf =
        let x = outside_of r.machine.rows (told.size d) in
        from_there (untold_step x s t) n (at text told shelf o d) (at text told shelf o1 d) (at text told shelf o2 d1) (of_run f) (nothing shelf alone)
        (each_text (λ i. script_of_step x (run x s (t + i))) n (at text told shelf o1 d) (at text told shelf o2 d1) (of_run f) (calls.untraced alone s t is shelf))

    -- or made, and the text behind them was put, or cut off
    pub untold_made : {R T : Type 0} (v : R) → StepsCall {T = R} text told (map_of (boot_of r.boot)) r.machine r.tracer (o1, d) (o2, d1) n (Ok v) → n ≡ budget - left → left ≤ budget → (made : ℕ) (answer : Turn) → 1 ≤ made →
        AnyTurnsRun (told.size d) r most (run_around r (told.sectors d) budget) (run_around new (told.sectors d1) left) (Ok (made, answer)) → (rows : List ℕ) (result : Result T RunFault) →
        Puts rows (output text o2) (output text o3) (blame of_run result) → TurnsUntold text told r (o, d) (o3, d1) n result
    untold_made v calls n_is less made answer some runs rows result behind s k t alone on fine comes here is shelf =
        let x = outside_of r.machine.rows (told.size d) in
        let g = runs s k t comes here is on in
        let spent : left + g.at ≡ budget + t = g.spent in
        let later = some_steps x s k made t g.at some comes g.comes here (omega (arith, spent, less)) in
        from_there (untold_step x s t) n (at text told shelf o d) (at text told shelf o1 d) (at text told shelf o3 d1) (blame of_run result) (nothing shelf alone)
        (last_text (λ i. script_of_step x (run x s (t + i))) n (at text told shelf o1 d) (at text told shelf o2 d1) (at text told shelf o3 d1) (blame of_run result) (omega (arith, n_is, spent, less, later)) (calls.untraced alone s t is shelf)
        (some_put text told shelf o2 o3 d1 rows (blame of_run result) behind))

-- a run that kept a fault, or has ended, is none that goes on
pub untold_faulted : {L O D T : Type 0} (text : sink_of.Ghosts O) (told : sectors_of.Ghosts D) (r : Kept L) (o o1 : O) (d d1 : D) (n : ℕ) (result : Result T RunFault) (f : RunFault) → r.fault ≡ Some f → TurnsUntold text told r (o, d) (o1, d1) n result
untold_faulted text told r o o1 d d1 n result f is s k t alone on fine comes here seen_so = absurd (let e : ◌≡◌ {A = Option RunFault} (Some f) None = sym is ∙ fine in cc)

pub untold_over : {L O D T : Type 0} (text : sink_of.Ghosts O) (told : sectors_of.Ghosts D) (r : Kept L) (o o1 : O) (d d1 : D) (n : ℕ) (result : Result T RunFault) → IsSome r.ended → TurnsUntold text told r (o, d) (o1, d1) n result
untold_over text told r o o1 d d1 n result over s k t alone on fine comes here seen_so = absurd (other_end r.ended on over)

-- no step
pub untold_first : {L O D : Type 0} (text : sink_of.Ghosts O) (told : sectors_of.Ghosts D) (r : Kept L) (o : O) (d : D) (n : ℕ) → n ≡ 0 → TurnsUntold {T = Unit {0}} text told r (o, d) (o, d) n (Ok tt)
untold_first text told r o d zero none s k t alone on fine comes here is shelf = done (at text told shelf o d)
untold_first text told r o d (suc n) none s k t alone on fine comes here is shelf = absurd (omega (arith, none))

-- scripts behind scripts
pub untold_join : (x : device.Environment) (s : State) (t n m : ℕ) → untold_script x s t (n + m) ≡ untold_script x s t n ++ untold_script x s (t + n) m
untold_join x s t n m = from_add (λ j. script_of_step x (run x s j) ++ Printed None ∷ []) t n m

-- THE LOOP: the next turns, in n steps, behind those that were made
abbrev UntoldAt : {L O D : Type 0} → sink_of.Ghosts O → sectors_of.Ghosts D → Kept L → Rows → (size : ℕ) → O → D → O → D → (n : ℕ) → Option Who → Type 0
UntoldAt text told r rows size o d o1 d1 n blamed =
    (s : State) (k t : ℕ) → r.tracer ≡ None → r.ended ≡ None → r.fault ≡ None → ComesTo (outside_of rows size) s k t → (run (outside_of rows size) s t).off ≡ None → state_seen (told.sectors d) r.machine ≡ Some (run (outside_of rows size) s t) → (shelf : Files) →
    InSteps (untold_step (outside_of rows size) s t) n (at text told shelf o d) (at text told shelf o1 d1) blamed

module _ {L O D : Type 0} (text : sink_of.Ghosts O) (told : sectors_of.Ghosts D) (r now : Kept L) (o o1 o2 : O) (d d1 d2 : D) (budget left i : ℕ) (kept : KeepsLoad r now) (size : told.size d1 ≡ told.size d) (less : left ≤ budget)
    (alone_too : r.tracer ≡ None → now.tracer ≡ None) (on_too : now.ended ≡ None) (fine_too : now.fault ≡ None)
    (going : AnyGoing (told.size d) r (run_around r (told.sectors d) budget) i (run_around now (told.sectors d1) left)) (so : TurnsUntold {T = Unit {0}} text told r (o, d) (o1, d1) (budget - left) (Ok tt)) where
  next_at : {T : Type 0} (n : ℕ) (result : Result T RunFault) → TurnsUntold text told now (o1, d1) (o2, d2) n result → UntoldAt text told now r.machine.rows (told.size d) o1 d1 o2 d2 n (blame of_run result)
  next_at n result calls =
      subst (λ (q : ℕ). UntoldAt text told now r.machine.rows q o1 d1 o2 d2 n (blame of_run result)) size
      (subst (λ (rows : Rows). UntoldAt text told now rows (told.size d1) o1 d1 o2 d2 n (blame of_run result)) kept.rows_are calls)

  pub untold_next : {T : Type 0} (n all : ℕ) (result : Result T RunFault) → all ≡ budget - left + n → TurnsUntold text told now (o1, d1) (o2, d2) n result → TurnsUntold text told r (o, d) (o2, d2) all result
  untold_next n all result all_is calls s k t alone on fine comes here is shelf =
      let x = outside_of r.machine.rows (told.size d) in
      let g = going s k t comes here is on in
      let spent : left + g.at ≡ budget + t = g.spent in
      let there : g.at ≡ t + (budget - left) = omega (arith, spent, less) in
      subst (λ j. InSteps (untold_step x s t) j (at text told shelf o d) (at text told shelf o2 d2) (blame of_run result)) (sym all_is)
      (in_both (λ j. script_of_step x (run x s j) ++ Printed None ∷ []) t (budget - left) n (at text told shelf o d) (at text told shelf o1 d1) (at text told shelf o2 d2) (blame of_run result)
      (so s k t alone on fine comes here is shelf)
      (subst (λ j. InSteps (untold_step x s j) n (at text told shelf o1 d1) (at text told shelf o2 d2) (blame of_run result)) there
      (next_at n result calls s (k + i) g.at (alone_too alone) on_too fine_too g.comes (is_on (run x s g.at).off (sym g.ended ∙ on_too)) g.state shelf)))

-- WHERE THE LOOP STANDS on the run
module _ (x : device.Environment) (s : State) (wanted : ℕ) where
  -- before turns are complete it doesn't end
  pub no_end_before : (u : ℕ) → NoSooner x s wanted u → (j : ℕ) → j < u → is_end x s wanted j ≡ false
  no_end_before u sooner j lt = let less = sooner.before j lt in no_end x s wanted j (λ e. omega (arith, less, e)) (sooner.on j lt)

  -- and where they are it does
  pub end_there : (u : ℕ) → ComesTo x s wanted u → IsTurnEnd x s wanted u
  end_there u comes = record { here = by (run x s u).off refl; first = no_end_before u comes.sooner }
    where
      by : (off : Option ℕ) → (run x s u).off ≡ off → is_end x s wanted u ≡ true
      by None e = ap (λ (b : Bool). b || not (not (is_some (run x s u).off))) (eq-eqb (complete x s u) wanted (comes.here e).1)
      by (Some power) e = ap (λ (q : Option ℕ). complete x s u == wanted || not (not (is_some q))) e ∙ or_true (complete x s u == wanted)
        where
          or_true : (b : Bool) → (b || true) ≡ true
          or_true true = refl
          or_true false = refl

-- IT CAME TO ITS END
module _ {L O D : Type 0} (text : sink_of.Ghosts O) (told : sectors_of.Ghosts D) (r new : Kept L) (o o1 : O) (d d1 : D) (budget left turns : ℕ) (counts : TurnLaws) (less : left ≤ budget) where
  pub untold_came : TurnsUntold {T = Unit {0}} text told r (o, d) (o1, d1) (budget - left) (Ok tt) → AnyGoRuns (told.size d) r turns (run_around r (told.sectors d) budget) (run_around new (told.sectors d1) left) (Ok tt) →
      GoUntold {T = Unit {0}} text told r turns budget (o, d) (o1, d1) (Ok tt)
  untold_came so goes s k t wanted steps alone on fine comes here is more sum shelf =
      let x = outside_of r.machine.rows (told.size d) in
      let g = goes s k t comes here is on in
      let spent : left + g.at ≡ budget + t = g.spent in
      let last = end_there x s wanted g.at (subst (λ i. ComesTo x s i g.at) more g.comes) in
      let end : end_within x s wanted steps ≡ g.at = counts.ends x s wanted steps g.at last (omega (arith, spent, sum)) in
      let many : budget - left ≡ end_within x s wanted steps - t = omega (arith, end, spent, less) in
      subst (λ q. Performs (untold_script x s t q) (at text told shelf o d) (at text told shelf o1 d1) None) many
      (in_all (untold_step x s t) (budget - left) (at text told shelf o d) (at text told shelf o1 d1) None (so s k t alone on fine comes here is shelf))

  -- what breaks off breaks off in more steps, too
  more_steps : (x : device.Environment) (s : State) (t n all : ℕ) → n ≤ all → (old fresh : Outside) (whom : Who) → Performs (untold_script x s t n) old fresh (Some whom) → Performs (untold_script x s t all) old fresh (Some whom)
  more_steps x s t n all le old fresh whom p =
      let sum : n + (all - n) ≡ all = omega (arith, le) in
      same_script (untold_script x s t n ++ untold_script x s (t + n) (all - n)) (untold_script x s t all) old fresh (Some whom) (sym (untold_join x s t n (all - n)) ∙ ap (untold_script x s t) sum)
      (first (untold_script x s t n) (untold_script x s (t + n) (all - n)) old fresh whom p)

  -- OR FAILED
  pub untold_failed : (T : Type 0) (f : RunFault) → TurnsUntold {T = T} text told r (o, d) (o1, d1) (budget - left) (Err f) →
      AnyGoRuns (told.size d) r turns (run_around r (told.sectors d) budget) (run_around new (told.sectors d1) left) (Err f) → GoUntold {T = T} text told r turns budget (o, d) (o1, d1) (Err f)
  untold_failed T f so goes s k t wanted steps alone on fine comes here is more sum shelf =
      let x = outside_of r.machine.rows (told.size d) in
      by f x s t wanted steps (subst (λ i. BrokeOff x s i t (state_seen (told.sectors d1) new.machine) budget left f) more (goes s k t comes here is on)) sum shelf
      (in_all (untold_step x s t) (budget - left) (at text told shelf o d) (at text told shelf o1 d1) (of_run f) (so s k t alone on fine comes here is shelf))
    where
      by : (f : RunFault) (x : device.Environment) (s : State) (t wanted steps : ℕ) → BrokeOff x s wanted t (state_seen (told.sectors d1) new.machine) budget left f → budget + t ≡ steps → (shelf : Files) →
          Performs (untold_script x s t (budget - left)) (at text told shelf o d) (at text told shelf o1 d1) (of_run f) → Performs (untold_script x s t (end_within x s wanted steps - t)) (at text told shelf o d) (at text told shelf o1 d1) (of_run f)
      by StepLimit x s t wanted steps (spent, sooner, is) sum shelf p =
          let end = none_within counts x s wanted steps (λ j le. no_end_before x s wanted (suc (t + budget)) sooner j (omega (arith, le, sum))) in
          let last : end_within x s wanted steps ≡ steps = end.1 in
          let many : budget - left ≡ end_within x s wanted steps - t = omega (arith, last, spent, sum) in
          subst (λ q. Performs (untold_script x s t q) (at text told shelf o d) (at text told shelf o1 d1) None) many p
      by Disk x s t wanted steps (u, from, sooner, spent, is) sum shelf p =
          let last = no_sooner counts x s wanted steps u (omega (arith, spent, sum)) (no_end_before x s wanted u sooner) in
          more_steps x s t (budget - left) (end_within x s wanted steps - t) (omega (arith, last, from, spent)) (at text told shelf o d) (at text told shelf o1 d1) TheDisk p
      by Sink x s t wanted steps (u, from, sooner, spent, is) sum shelf p =
          let last = no_sooner counts x s wanted steps u (omega (arith, spent, sum)) (no_end_before x s wanted u sooner) in
          more_steps x s t (budget - left) (end_within x s wanted steps - t) (omega (arith, last, from, spent)) (at text told shelf o d) (at text told shelf o1 d1) TheSink p
