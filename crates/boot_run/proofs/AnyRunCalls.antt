-- What calls of a run come to on any run of the machine: turns, and the loop over them.
use Rattle.std.proofs.Common.{◌≡◌, ◌≢◌, ℕ, suc, ◌+◌, ◌<◌, ◌≤◌, ◌==◌, Bool, true, false, Option, Some, None, List, Result, Ok, Err, refl, sym, ap, ◌∙◌, subst, ⊎_elim, arith}
use Rattle.std.specs.Prelude.{IsSome, if◌then◌else◌, slice_index, MatchResult}
use Rattle.std.proofs.lemmas.Bool.{cases_lt}
use Rattle.mips_table.specs.Device.{Environment}
use Rattle.mips_table.specs.Machine.{State, run}
use Rattle.schedule_file.specs.Rows.{Rows}
use Rattle.mips_machine.specs.Steps.{outside_of}
use Rattle.cvm_model.specs.declared.row.Next.{Next}
use Rattle.cvm_model.specs.declared.row.Next.TheVariants.{Halt, Fault}
use Rattle.boot_turns.specs.AnyTurns.{BrokeOff}
use Rattle.boot_turns.specs.Sooner.{NoSooner, ComesTo}
use Rattle.boot_turns.specs.Completes.{state_seen}
use Rattle.boot_turns.specs.declared.completion.Begun.{Begun}
use Rattle.boot_turns.specs.declared.answers.Turn.{Turn}
use Rattle.boot_turns.specs.declared.answers.RunFault.{RunFault}
use Rattle.boot_turns.specs.declared.answers.RunFault.TheVariants.{StepLimit, Disk, Sink}
use Rattle.boot_run.specs.AnyRun.{CameTo, WasCut, FromAnywhere, AnyTurnsRun, AnyGoRuns}
use Rattle.boot_run.specs.AnyEnds.{ended_off}
use Rattle.boot_run.specs.LoadEnds.{Kept}
use Rattle.boot_run.specs.Shown.{next_shown, end_of_next, fault_of_power}
use Rattle.boot_run.specs.TurnCalls.{Around, run_around, KeepsLoad}
use Rattle.boot_run.specs.TurnParts.{TurnCounted, Moved}
use Rattle.boot_run.proofs.TurnDone.{seen_parts}

-- fewer turns at an earlier step
pub sooner_than : (x : Environment) (s : State) (k m t : ℕ) → k ≤ m → NoSooner x s k t → NoSooner x s m t
sooner_than x s k m t le n = record { before = λ j l. let b = n.before j l in omega (arith, b, le); on = n.on }

-- more turns are complete no earlier
no_earlier : (x : Environment) (s : State) (k t i u : ℕ) → ComesTo x s k t → ComesTo x s (k + i) u → t ≤ u
no_earlier x s k t i u c d = ⊎_elim
    (λ (lt : u < t). let less = c.sooner.before u lt in let all = (d.here (c.sooner.on u lt)).1 in absurd (omega (arith, less, all)))
    (λ (ge : t ≤ u). ge)
    (cases_lt u t)

-- how a run ended doesn't hang on the current user
ended_any : (off : Option ℕ) (current : ℕ) → end_of_next (next_shown off current) ≡ ended_off off
ended_any None current = refl
ended_any (Some power) current = refl

-- a run that hasn't ended is on, and one that has is off
some_ended : (power : ℕ) → IsSome (ended_off (Some power))
some_ended power = by (power == 0)
  where
    by : (b : Bool) → IsSome (end_of_next (if b then Halt else Fault (fault_of_power power)))
    by true = refl
    by false = refl

some_none : (o : Option Next) → IsSome o → o ≡ None → ⊥
some_none None h e = cc
some_none (Some n) h e = cc

pub is_on : (off : Option ℕ) → ended_off off ≡ None → off ≡ None
is_on None e = refl
is_on (Some power) e = absurd (some_none (ended_off (Some power)) (some_ended power) e)

pub is_off : (off : Option ℕ) → IsSome (ended_off off) → off ≢ None
is_off None h e = cc
is_off (Some power) h e = cc

-- A CALL OF `turns`, by what the machine did
module _ {L : Type 0} (r new : Kept L) (count most : ℕ) (told retold : Option (List (List ℕ))) (budget left : ℕ) where
  -- the first row couldn't be printed
  pub any_cut_before : AnyTurnsRun count r most (run_around r told budget) (run_around r told budget) (Err Sink)
  any_cut_before = λ s k t c on is none. (t, omega arith, sooner_than (outside_of r.machine.rows count) s k (k + most) t (omega arith) c.sooner, refl, is)

  -- the turns were broken off
  pub any_broke_off : (f : RunFault) → Moved count r new most told retold budget left (Err f) → AnyTurnsRun count r most (run_around r told budget) (run_around new retold left) (Err f)
  any_broke_off f w = λ s k t c on is none. w.anyhow s k t c on is

  module _ (made skipped : ℕ) (b : Begun) (answer : Turn) (number : made ≡ skipped + 1) (w : Moved count r new most told retold budget left (Ok (skipped, b))) (counted : TurnCounted r new skipped b answer) where
    came : (s : State) (k t : ℕ) → ComesTo (outside_of r.machine.rows count) s k t → (run (outside_of r.machine.rows count) s t).off ≡ None → state_seen told r.machine ≡ Some (run (outside_of r.machine.rows count) s t) →
        CameTo (outside_of r.machine.rows count) s (k + made) t (run_around r told budget) (run_around new retold left)
    came s k t c on is =
        let x = outside_of r.machine.rows count in
        let d = w.anyhow s k t c on is in
        let all : k + suc skipped ≡ k + made = omega (arith, number) in
        let parts = seen_parts retold new.machine (run x s d.0) d.2 in
        record {
          at = d.0;
          comes = subst (λ i. ComesTo x s i d.0) all d.1;
          state = d.2;
          spent = d.3;
          ended = counted.ended ∙ ended_any new.machine.hardware.off (slice_index new.machine.hardware.memory 1024) ∙ ap ended_off parts.0;
        }

    pub any_made : AnyTurnsRun count r most (run_around r told budget) (run_around new retold left) (Ok (made, answer))
    any_made = λ s k t c on is none. came s k t c on is

    -- or the row behind them couldn't be printed
    pub any_cut_after : made ≤ most → AnyTurnsRun count r most (run_around r told budget) (run_around new retold left) (Err Sink)
    any_cut_after few = λ s k t c on is none.
        let d = came s k t c on is in
        (d.at, no_earlier (outside_of r.machine.rows count) s k t made d.at c d.comes, sooner_than (outside_of r.machine.rows count) s (k + made) (k + most) d.at (omega (arith, few)) d.comes.sooner, d.spent, d.state)

-- a fault that is passed on
pub any_passed : {L : Type 0} (count : ℕ) (r : Kept L) (most : ℕ) (before after : Around) (f e : RunFault) (result : Result (ℕ × Turn) RunFault) → result ≡ Err e → f ≡ e → AnyTurnsRun count r most before after (Err f) → AnyTurnsRun count r most before after result
any_passed count r most before after f e result is same w = subst (AnyTurnsRun count r most before after) (ap (λ g. Err g) same ∙ sym is) w

-- what a broken call comes to doesn't hang on the kept fault
cut_kept : (x : Environment) (s : State) (k t : ℕ) (before after : Around) (f : RunFault) (kept : Option RunFault) → WasCut x s k t before after f → WasCut x s k t before (record after { fault = kept }) f
cut_kept x s k t before after StepLimit kept w = w
cut_kept x s k t before after Disk kept w = w
cut_kept x s k t before after Sink kept w = w

any_faulted : {L : Type 0} (count : ℕ) (r : Kept L) (most : ℕ) (before after : Around) (f : RunFault) (kept : Option RunFault) → AnyTurnsRun count r most before after (Err f) → AnyTurnsRun count r most before (record after { fault = kept }) (Err f)
any_faulted count r most before after f kept w = λ s k t c on is none. cut_kept (outside_of r.machine.rows count) s (k + most) t before after f kept (w s k t c on is none)

pub any_kept : {L : Type 0} (a b : Kept L) → a ≡ b → (count : ℕ) (r : Kept L) (most : ℕ) (before : Around) (told : Option (List (List ℕ))) (budget : ℕ) (f : RunFault) →
    AnyTurnsRun count r most before (run_around b told budget) (Err f) → AnyTurnsRun count r most before (record (run_around a told budget) { fault = Some f }) (Err f)
any_kept a b e count r most before told budget f w =
    any_faulted count r most before (run_around a told budget) f (Some f) (subst (λ (q : Kept _). AnyTurnsRun count r most before (run_around q told budget) (Err f)) (sym e) w)

-- THE LOOP. A call's turns come behind those that were made
joins : (x : Environment) (s : State) (k m t : ℕ) (before mid after : Around) → (c : CameTo x s k t before mid) → CameTo x s m c.at mid after → CameTo x s m t before after
joins x s k m t before mid after c d = record {
  at = d.at;
  comes = d.comes;
  state = d.state;
  spent = let a = c.spent in let b = d.spent in omega (arith, a, b);
  ended = d.ended;
}

-- the budget that is spent is that of the first call
cut_later : (x : Environment) (s : State) (k t u : ℕ) (now : Option State) (budget mid left : ℕ) → t ≤ u → mid + u ≡ budget + t → (f : RunFault) → BrokeOff x s k u now mid left f → BrokeOff x s k t now budget left f
cut_later x s k t u now budget mid left le sum StepLimit (none, sooner, is) =
    let at : u + mid ≡ t + budget = omega (arith, sum) in
    (none, subst (λ i. NoSooner x s k (suc i)) at sooner, subst (λ i. now ≡ Some (run x s i)) at is)
cut_later x s k t u now budget mid left le sum Disk (at, from, sooner, spent, is) = (at, omega (arith, le, from), sooner, omega (arith, spent, sum), is)
cut_later x s k t u now budget mid left le sum Sink (at, from, sooner, spent, is) = (at, omega (arith, le, from), sooner, omega (arith, spent, sum), is)

-- after i turns of a run that was found as r
abbrev pub AnyGoing : {L : Type 0} → (count : ℕ) → Kept L → (before : Around) → ℕ → Around → Type 0
AnyGoing count r before i now = FromAnywhere count r before (λ x s k t. CameTo x s (k + i) t before now)

pub any_first : {L : Type 0} (count : ℕ) (r : Kept L) (before : Around) (i : ℕ) → i ≡ 0 → AnyGoing count r before i before
any_first count r before i none = λ s k t c on is ended.
    let x = outside_of r.machine.rows count in
    let same : k ≡ k + i = omega (arith, none) in
    record { at = t; comes = subst (λ n. ComesTo x s n t) same c; state = is; spent = refl; ended = ended ∙ sym (ap ended_off on) }

-- what a call of `turns` comes to, of these rows
abbrev TurnsAt : Rows → (count most : ℕ) → (before after : Around) → Result (ℕ × Turn) RunFault → Type 0
TurnsAt rows count most before after result =
    (s : State) (k t : ℕ) → ComesTo (outside_of rows count) s k t → (run (outside_of rows count) s t).off ≡ None →
    before.state ≡ Some (run (outside_of rows count) s t) → before.ended ≡ None →
    MatchResult result (λ made. CameTo (outside_of rows count) s (k + made.0) t before after) (WasCut (outside_of rows count) s (k + most) t before after)

module _ {L : Type 0} (count size : ℕ) (r now : Kept L) (kept : KeepsLoad r now) (same : size ≡ count) (before mid after : Around) (i most : ℕ) (on : mid.ended ≡ None) (so : AnyGoing count r before i mid) where
  at_load : (result : Result (ℕ × Turn) RunFault) → AnyTurnsRun size now most mid after result → TurnsAt r.machine.rows count most mid after result
  at_load result runs =
      subst (λ (n : ℕ). TurnsAt r.machine.rows n most mid after result) same
      (subst (λ (rows : Rows). TurnsAt rows size most mid after result) kept.rows_are runs)

  -- so many turns are made
  pub any_next : (next made : ℕ) (answer : Turn) → AnyTurnsRun size now most mid after (Ok (made, answer)) → i + made ≡ next → AnyGoing count r before next after
  any_next next made answer runs is = λ s k t c here at none.
      let x = outside_of r.machine.rows count in
      let g = so s k t c here at none in
      let there : k + i + made ≡ k + next = omega (arith, is) in
      joins x s (k + i) (k + next) t before mid after g
      (subst (λ n. CameTo x s n g.at mid after) there
      (at_load (Ok (made, answer)) runs s (k + i) g.at g.comes (is_on (run x s g.at).off (sym g.ended ∙ on)) g.state on))

  -- one fails
  pub any_failed : (turns : ℕ) (f e : RunFault) (result : Result (Unit {0}) RunFault) → AnyTurnsRun size now most mid after (Err f) → i + most ≡ turns → result ≡ Err e → f ≡ e → AnyGoRuns count r turns before after result
  any_failed turns f e result runs all so_is fault = λ s k t c here at none.
      let x = outside_of r.machine.rows count in
      let g = so s k t c here at none in
      let there : k + i + most ≡ k + turns = omega (arith, all) in
      rw (so_is, sym fault)
      (cut_later x s (k + turns) t g.at after.state before.budget mid.budget after.budget (no_earlier x s k t i g.at c g.comes) g.spent f
      (subst (λ n. BrokeOff x s n g.at after.state mid.budget after.budget f) there
      (at_load (Err f) runs s (k + i) g.at g.comes (is_on (run x s g.at).off (sym g.ended ∙ on)) g.state on)))

-- the run has ended
pub any_over : {L : Type 0} (count : ℕ) (r : Kept L) (turns : ℕ) (before mid after : Around) (i : ℕ) → i ≤ turns → IsSome mid.ended → mid ≡ after → AnyGoing count r before i mid → AnyGoRuns count r turns before after (Ok tt)
any_over count r turns before mid after i le over same so = λ s k t c here at none.
    let x = outside_of r.machine.rows count in
    let g = so s k t c here at none in
    let off = is_off (run x s g.at).off (subst (λ o. IsSome o) g.ended over) in
    subst (λ (a : Around). CameTo x s (k + turns) t before a) same
    (record {
      at = g.at;
      comes = record { sooner = sooner_than x s (k + i) (k + turns) g.at (omega (arith, le)) g.comes.sooner; here = λ h. absurd (off h) };
      state = g.state;
      spent = g.spent;
      ended = g.ended;
    })

-- or all turns are made
pub any_went : {L : Type 0} (count : ℕ) (r : Kept L) (turns : ℕ) (before after : Around) (i : ℕ) → i ≡ turns → AnyGoing count r before i after → AnyGoRuns count r turns before after (Ok tt)
any_went count r turns before after i same so = λ s k t c here at none. subst (λ n. CameTo (outside_of r.machine.rows count) s (k + n) t before after) same (so s k t c here at none)
