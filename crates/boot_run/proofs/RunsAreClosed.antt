-- The scripts that close a run, and those of a loaded run to its end.
use Rattle.std.proofs.Common.{◌≡◌, ℕ, zero, suc, ◌+◌, ◌-◌, ◌≤◌, Bool, true, false, Option, Some, None, List, [], ◌++◌, Ok, Err, refl, sym, ap, ap₂, ◌∙◌, subst, arith, append-nil, append_assoc}
use Rattle.std.specs.Prelude.{◌≢◌, if◌then◌else◌}
use Rattle.cvm_outside.specs.Outside.{Outside}
use Rattle.cvm_outside.specs.declared.sink.Sink as sink_of
use Rattle.cvm_outside.specs.declared.sectors.Sectors as sectors_of
use Rattle.cvm_outside.specs.Script.{Call, Who, Performs, done}
use Rattle.cvm_outside.proofs.ScriptsFollow.{both, first}
use Rattle.cvm_outside.proofs.RowsPut.{same_script}
use Rattle.mips_table.specs.Device as device
use Rattle.mips_table.specs.Machine.{State, run}
use Rattle.mips_table.specs.Turns.{complete, lines_of_turn, is_end, end_within, TurnLaws}
use Rattle.schedule_file.specs.Rows.{Rows}
use Rattle.mips_machine.specs.Steps.{outside_of}
use Rattle.c0_tree.specs.Tree.{CUnit}
use Rattle.c0_meaning.specs.TypedState.{IsTypedState}
use Rattle.cvm_model.specs.Kernel.{power_of}
use Rattle.cvm_model.specs.Cvm.{System, Status, Running, Halted, Faulted, Cvm, IsCvm, first_cvm}
use Rattle.cvm_model.specs.declared.kernel_fault.KernelFault.{KernelFault}
use Rattle.cvm_model.specs.declared.row.Next.{Next}
use Rattle.layer_contract.specs.declared.boot.Boot.{Boot as Booted}
use Rattle.layer_contract.specs.Layer.{Rests}
use Rattle.boot_turns.specs.RunMachines.{RunMachines, MachinesRun}
use Rattle.boot_turns.specs.TurnEnds.{RestsAfter}
use Rattle.boot_turns.specs.declared.answers.View.{View}
use Rattle.boot_turns.specs.declared.answers.RunFault.{RunFault}
use Rattle.boot_turns.specs.declared.answers.RunFault.TheVariants.{StepLimit, Disk, Sink}
use Rattle.boot_turns.specs.Runs.{Run, Past, IsPast, cvm_at}
use Rattle.boot_turns.specs.StepScript.{steps_script}
use Rattle.boot_turns.specs.RowScripts.{of_run}
use Rattle.boot_turns.proofs.SomeCalls.{of_both}
use Rattle.boot_run.specs.declared.whole.RunEnd.{RunEnd}
use Rattle.boot_run.specs.declared.whole.RunEnd.TheVariants as ends
use Rattle.boot_run.specs.Closing.{report_by, closing_script}
use Rattle.boot_run.specs.LoadEnds.{Kept}
use Rattle.boot_run.specs.Pieces.{Bootable, FirstAt, GoRuns, end_of_fault}
use Rattle.boot_run.specs.RunCalls.{run_at, begin_script, fault_script, report_script, turns_script, ReportCalls, GoCalls, of_end, end_by, end_script, EndPerformsAt, EndPerforms, CloseCalls, SomeMade, LoadedCalls}
use Rattle.boot_run.specs.Shown.{has_faulted, ended_of}
use Rattle.boot_run.specs.TurnCalls.{run_around, ReadyAt, KeepsLoad}
use Rattle.boot_run.proofs.ClosingCalls.{faulted_script}
use Rattle.boot_run.proofs.GoScripts.{no_sooner, on_there, goes_before, past_tells}
use Rattle.boot_run.proofs.LoopOverTurns.{machines}
use Rattle.boot_run.proofs.ScriptsJoined.{at}
use Rattle.boot_run.proofs.ScriptsOfTurns.{goes_none}

-- how a run is to end that has
faulted_due : (st : Status) → has_faulted (ended_of st) ≡ true → ends.KernelFaulted ≡ end_by true st
faulted_due Running e = absurd (let h = e in cc)
faulted_due Halted e = absurd (let h = e in cc)
faulted_due (Faulted f) e = refl

other_due : (st : Status) → has_faulted (ended_of st) ≡ false → ends.Done ≡ end_by true st
other_due Running e = refl
other_due Halted e = refl
other_due (Faulted f) e = absurd (let h = e in cc)

no_other : (o : Option Next) → has_faulted o ≡ true → has_faulted o ≡ false → ⊥
no_other o e f = cc

-- whom the end of a fault blames
pub blames_so : (f : RunFault) → of_end (end_of_fault f) ≡ of_run f
blames_so StepLimit = refl
blames_so Disk = refl
blames_so Sink = refl

-- WHAT CLOSES A RUN
module _ {L O D : Type 0} (text : sink_of.Ghosts O) (told : sectors_of.Ghosts D) (r : Kept L) (o : O) (d : D) where
  pub closed_none : has_faulted r.ended ≡ true → CloseCalls text told r (o, d) (o, d) ends.KernelFaulted
  closed_none e = record {
    exact = λ budget y s late held k t c same lawful ready turns steps p tells. record {
      made = λ shelf. same_script [] (report_script r.view (run_at (outside_of r.machine.rows (told.size d)) y s r.view turns steps) p t c.status) (at text told shelf o d) (at text told shelf o d) None
          (sym (faulted_script r.view (run_at (outside_of r.machine.rows (told.size d)) y s r.view turns steps) p t c.status (ap has_faulted (sym ready.ended) ∙ e))) (done (at text told shelf o d));
      is = λ _. faulted_due c.status (ap has_faulted (sym ready.ended) ∙ e);
    };
    some = ([], tt, λ shelf. done (at text told shelf o d));
    none = λ _. refl;
  }

  module _ (o1 : O) (d1 : D) (fine : r.fault ≡ None) (other : has_faulted r.ended ≡ false) where
    pub closed_done : {T : Type 0} (v : T) → ReportCalls {T = T} text told r (o, d) (o1, d1) (Ok v) → CloseCalls text told r (o, d) (o1, d1) ends.Done
    closed_done v calls = record {
      exact = λ budget y s late held k t c same lawful ready turns steps p tells. record {
        made = calls.exact budget y s late held k t c same lawful ready turns steps p tells;
        is = λ _. other_due c.status (ap has_faulted (sym ready.ended) ∙ other);
      };
      some = calls.some fine;
      none = λ e. absurd (no_other r.ended e other);
    }

    pub closed_fails : {T : Type 0} (f : RunFault) → f ≢ StepLimit → (end : RunEnd) → end ≡ end_of_fault f → ReportCalls {T = T} text told r (o, d) (o1, d1) (Err f) → CloseCalls text told r (o, d) (o1, d1) end
    closed_fails f ne end is calls = rw is (by f ne calls)
      where
        by : {T : Type 0} (f : RunFault) → f ≢ StepLimit → ReportCalls {T = T} text told r (o, d) (o1, d1) (Err f) → CloseCalls text told r (o, d) (o1, d1) (end_of_fault f)
        by StepLimit ne calls = absurd (ne refl)
        by Disk ne calls = record {
          exact = λ budget y s late held k t c same lawful ready turns steps p tells. record { made = calls.exact budget y s late held k t c same lawful ready turns steps p tells; is = λ e. absurd (let h = e in cc) };
          some = calls.some fine;
          none = λ e. absurd (no_other r.ended e other);
        }
        by Sink ne calls = record {
          exact = λ budget y s late held k t c same lawful ready turns steps p tells. record { made = calls.exact budget y s late held k t c same lawful ready turns steps p tells; is = λ e. absurd (let h = e in cc) };
          some = calls.some fine;
          none = λ e. absurd (no_other r.ended e other);
        }

-- the whole report is that of a kernel that faulted, or another
closing_parts : (v : View) (r : Run) (p : Past) (t : ℕ) (off : Option ℕ) (st : Status) → ((f : KernelFault) → st ≡ Faulted f → off ≡ Some (power_of f)) → report_by v r p t ≡ fault_script v r p t off st ++ report_script v r p t st
closing_parts v r p t off Running rests = ap (λ (l : List Call). l ++ report_by v r p t) (sym (goes_none v r p t off Running refl))
closing_parts v r p t None Halted rests = refl
closing_parts v r p t (Some power) Halted rests = refl
closing_parts v r p t None (Faulted f) rests = absurd (let h : ◌≡◌ {A = Option ℕ} None (Some (power_of f)) = rests f refl in cc)
closing_parts v r p t (Some power) (Faulted f) rests = sym (append-nil (report_by v r p t))

-- what is behind the last turn
abbrev tail : Bool → List Call → List Call
tail b report = if b then report else []

rest_parts : (b : Bool) (begin steps fault report all : List Call) → (b ≡ false → fault ≡ []) → (b ≡ true → all ≡ fault ++ report) → (begin ++ steps ++ fault) ++ tail b report ≡ begin ++ (steps ++ (if b then all else []))
rest_parts false begin steps fault report all none is = ap (λ (l : List Call). (begin ++ steps ++ l) ++ []) (none refl) ∙ append-nil (begin ++ steps ++ []) ∙ append_assoc begin steps []
rest_parts true begin steps fault report all none is =
    append_assoc (begin ++ steps) fault report ∙ ap (λ (l : List Call). begin ++ steps ++ l) (sym (is refl)) ∙ append_assoc begin steps all

-- THE REST OF A RUN is its turns, and behind them the report of one that hasn't faulted
module _ (counts : TurnLaws) (x : device.Environment) (y : System) (s : State) (late held : ℕ) (m : RunMachines x y s late held) (v : View) (turns steps : ℕ) (p : Past) (past : IsPast (run_at x y s v turns steps) p) where
  abbrev end : ℕ
  end = end_within x s turns steps

  now_is : IsCvm y (lines_of_turn x s) (complete x s (end_within x s turns steps)) (cvm_at (run_at x y s v turns steps) p (end_within x s turns steps))
  now_is = past.turns (complete x s (end_within x s turns steps)) (omega arith)

  rests_so : is_end x s turns (end_within x s turns steps) ≡ true → (f : KernelFault) → (cvm_at (run_at x y s v turns steps) p (end_within x s turns steps)).status ≡ Faulted f → (run x s (end_within x s turns steps)).off ≡ Some (power_of f)
  rests_so e f is = by (complete x s (end_within x s turns steps)) (cvm_at (run_at x y s v turns steps) p (end_within x s turns steps)) now_is (m.ends turns steps (cvm_at (run_at x y s v turns steps) p (end_within x s turns steps)) now_is e).rests is
    where
      none : (st : Status) → st ≡ Running → st ≡ Faulted f → ⊥
      none st a b = let h : Running ≡ Faulted f = sym a ∙ b in cc

      by : (n : ℕ) (c : Cvm) → IsCvm y (lines_of_turn x s) n c → RestsAfter x y s n (end_within x s turns steps) c → c.status ≡ Faulted f → (run x s (end_within x s turns steps)).off ≡ Some (power_of f)
      by zero c h rests is = absurd (none c.status (ap (λ (q : Cvm). q.status) (m.same 0 c (first_cvm y) h (record { units = 0; is = refl }))) is)
      by (suc n) c h rests is = subst (λ (st : Status). Rests st (run x s (end_within x s turns steps))) is rests.0

  -- where it came to its end the whole report is the row of a fault, or another
  closing_is : is_end x s turns (end_within x s turns steps) ≡ true → closing_script (run_at x y s v turns steps) p
      ≡ fault_script v (run_at x y s v turns steps) p (end_within x s turns steps) (run x s (end_within x s turns steps)).off (cvm_at (run_at x y s v turns steps) p (end_within x s turns steps)).status
      ++ report_script v (run_at x y s v turns steps) p (end_within x s turns steps) (cvm_at (run_at x y s v turns steps) p (end_within x s turns steps)).status
  closing_is e = closing_parts v (run_at x y s v turns steps) p (end_within x s turns steps) (run x s (end_within x s turns steps)).off (cvm_at (run_at x y s v turns steps) p (end_within x s turns steps)).status (rests_so e)

  -- its turns, and what is behind them, which is a fault's row and then a report
  module _ (all rep : List Call) (parts : is_end x s turns (end_within x s turns steps) ≡ true →
      all ≡ fault_script v (run_at x y s v turns steps) p (end_within x s turns steps) (run x s (end_within x s turns steps)).off (cvm_at (run_at x y s v turns steps) p (end_within x s turns steps)).status ++ rep) (k t : ℕ) (le : t ≤ end_within x s turns steps) where
    rest_is : turns_script (run_at x y s v turns steps) p k t (end_within x s turns steps - t) ++ tail (is_end x s turns (end_within x s turns steps)) rep
        ≡ begin_script (run_at x y s v turns steps) k ++ (steps_script (run_at x y s v turns steps) p t (end_within x s turns steps - t) ++ (if is_end x s turns (end_within x s turns steps) then all else []))
    rest_is =
        let rn : Run = run_at x y s v turns steps in
        let there : t + (end_within x s turns steps - t) ≡ end_within x s turns steps = omega (arith, le) in
        ap (λ q. begin_script rn k ++ steps_script rn p t (end_within x s turns steps - t) ++ fault_script v rn p q (run x s q).off (cvm_at rn p q).status ++ tail (is_end x s turns (end_within x s turns steps)) rep) there
        ∙ rest_parts (is_end x s turns (end_within x s turns steps)) (begin_script rn k) (steps_script rn p t (end_within x s turns steps - t))
        (fault_script v rn p (end_within x s turns steps) (run x s (end_within x s turns steps)).off (cvm_at rn p (end_within x s turns steps)).status) rep all
        (λ e. ap (λ (off : Option ℕ). fault_script v rn p (end_within x s turns steps) off (cvm_at rn p (end_within x s turns steps)).status) (on_there counts x s turns steps e)) parts

    -- where it isn't broken off before it has ended, the report follows
    rest_made : (old mid new : Outside) (blamed : Option Who) → is_end x s turns (end_within x s turns steps) ≡ true →
        Performs (turns_script (run_at x y s v turns steps) p k t (end_within x s turns steps - t)) old mid None → Performs rep mid new blamed →
        Performs (begin_script (run_at x y s v turns steps) k ++ (steps_script (run_at x y s v turns steps) p t (end_within x s turns steps - t) ++ (if is_end x s turns (end_within x s turns steps) then all else []))) old new blamed
    rest_made old mid new blamed e made report =
        let a : List Call = turns_script (run_at x y s v turns steps) p k t (end_within x s turns steps - t) in
        same_script (a ++ tail (is_end x s turns (end_within x s turns steps)) rep) _ old new blamed rest_is
        (both a (tail (is_end x s turns (end_within x s turns steps)) rep) old mid new blamed made
        (same_script rep (tail (is_end x s turns (end_within x s turns steps)) rep) mid new blamed (ap (λ (b : Bool). tail b rep) (sym e)) report))

    rest_broke : (old new : Outside) (blamed : Option Who) → (blamed ≡ None → is_end x s turns (end_within x s turns steps) ≡ false) →
        Performs (turns_script (run_at x y s v turns steps) p k t (end_within x s turns steps - t)) old new blamed →
        Performs (begin_script (run_at x y s v turns steps) k ++ (steps_script (run_at x y s v turns steps) p t (end_within x s turns steps - t) ++ (if is_end x s turns (end_within x s turns steps) then all else []))) old new blamed
    rest_broke old new blamed none made =
        same_script (turns_script (run_at x y s v turns steps) p k t (end_within x s turns steps - t) ++ tail (is_end x s turns (end_within x s turns steps)) rep) _ old new blamed rest_is (by blamed none made)
      where
        by : (w : Option Who) → (w ≡ None → is_end x s turns (end_within x s turns steps) ≡ false) → Performs (turns_script (run_at x y s v turns steps) p k t (end_within x s turns steps - t)) old new w →
            Performs (turns_script (run_at x y s v turns steps) p k t (end_within x s turns steps - t) ++ tail (is_end x s turns (end_within x s turns steps)) rep) old new w
        by None none made =
            let a : List Call = turns_script (run_at x y s v turns steps) p k t (end_within x s turns steps - t) in
            same_script a (a ++ tail (is_end x s turns (end_within x s turns steps)) rep) old new None (sym (append-nil a) ∙ ap (λ (b : Bool). a ++ tail b rep) (sym (none refl))) made
        by (Some whom) none made = first (turns_script (run_at x y s v turns steps) p k t (end_within x s turns steps - t)) (tail (is_end x s turns (end_within x s turns steps)) rep) old new whom made

-- where it was out of steps its run has no end within them
late_none : {L : Type 0} (count : ℕ) (r new : Kept L) (turns budget left : ℕ) (told retold : Option (List (List ℕ))) (f : RunFault) → GoRuns count r turns (run_around r told budget) (run_around new retold left) (Err f) → of_run f ≡ None →
    (y : System) (s : State) (late held : ℕ) (old : List (List ℕ)) (k t wanted steps : ℕ) (c : Cvm) → Bootable r.boot r.machine.rows count y s late held old → FirstAt (outside_of r.machine.rows count) s k t → 1 ≤ wanted → k + turns ≡ wanted → budget + t ≡ steps →
    ReadyAt (outside_of r.machine.rows count) y s r.view k t c (run_around r told budget) → is_end (outside_of r.machine.rows count) s wanted (end_within (outside_of r.machine.rows count) s wanted steps) ≡ false
late_none count r new turns budget left told retold StepLimit goes e y s late held old k t wanted steps c p starts some more sum ready = (goes y s late held old k t wanted steps c p starts some more sum ready).none
late_none count r new turns budget left told retold Disk goes e y s late held old k t wanted steps c p starts some more sum ready = absurd (let h = e in cc)
late_none count r new turns budget left told retold Sink goes e y s late held old k t wanted steps c p starts some more sum ready = absurd (let h = e in cc)

-- A LOADED RUN, by which of the calls that close it are made, and how it is due to end
module _ (part : Status → List Call → List Call) (due : Bool → Status → RunEnd) (spent : (st : Status) → due false st ≡ ends.OutOfSteps)
    (parts : (v : View) (r : Run) (p : Past) (t : ℕ) (off : Option ℕ) (st : Status) (all report : List Call) → all ≡ fault_script v r p t off st ++ report → part st all ≡ fault_script v r p t off st ++ part st report) where
  -- THE LOOP FAILED
  pub rest_fails : {L O D T : Type 0} (text : sink_of.Ghosts O) (told : sectors_of.Ghosts D) (r new : Kept L) (o o1 : O) (d d1 : D) (turns budget left : ℕ) (law : (u : CUnit) → MachinesRun (IsTypedState u)) (counts : TurnLaws) (f : RunFault) →
      GoRuns (told.size d) r turns (run_around r (told.sectors d) budget) (run_around new (told.sectors d1) left) (Err f) → GoCalls {T = T} text told r turns budget (o, d) (o1, d1) (Err f) → LoadedCalls text told part due r turns budget (o, d) (o1, d1) (end_of_fault f)
  rest_fails text told r new o o1 d d1 turns budget left law counts f goes calls = record {
    exact = λ y s late held old k t wanted steps c p starts some more sum ready running past is.
        let x = outside_of r.machine.rows (told.size d) in
        let rn : Run = run_at x y s r.view wanted steps in
        let m = machines law r.boot r.machine.rows (told.size d) y s late held old p in
        let st : Status = (cvm_at rn past (end_within x s wanted steps)).status in
        let none : of_run f ≡ None → is_end x s wanted (end_within x s wanted steps) ≡ false = λ e. late_none (told.size d) r new turns budget left (told.sectors d) (told.sectors d1) f goes e y s late held old k t wanted steps c p starts some more sum ready in
        let low : t ≤ end_within x s wanted steps = no_sooner counts x s wanted steps t (omega (arith, sum)) (λ j lt. goes_before x s k t wanted starts (omega (arith, more)) j lt) in
        let rep : List Call = report_script r.view rn past (end_within x s wanted steps) st in
        record {
          made = λ shelf. subst (Performs (begin_script rn k ++ end_script part rn past t) (at text told shelf o d) (at text told shelf o1 d1)) (sym (blames_so f))
              (rest_broke counts x y s late held m r.view wanted steps past is (part st (closing_script rn past)) (part st rep)
              (λ e. parts r.view rn past (end_within x s wanted steps) (run x s (end_within x s wanted steps)).off st (closing_script rn past) rep (closing_is counts x y s late held m r.view wanted steps past is e))
              k t low (at text told shelf o d) (at text told shelf o1 d1) (of_run f) none
              (calls.exact y s late held old k t wanted steps c p starts some more sum ready running past is shelf));
          is = λ e. fault_due f (sym (blames_so f) ∙ e) (is_end x s wanted (end_within x s wanted steps)) (none (sym (blames_so f) ∙ e)) st;
        };
    some = (calls.some.0, calls.some.1, λ shelf. subst (Performs calls.some.0 (at text told shelf o d) (at text told shelf o1 d1)) (sym (blames_so f)) (calls.some.2 shelf));
  }
    where
      fault_due : (f : RunFault) → of_run f ≡ None → (b : Bool) → b ≡ false → (st : Status) → end_of_fault f ≡ due b st
      fault_due StepLimit e b is st = sym (spent st) ∙ ap (λ (q : Bool). due q st) (sym is)
      fault_due Disk e b is st = absurd (let h = e in cc)
      fault_due Sink e b is st = absurd (let h = e in cc)

  -- OR CAME TO ITS END, and what closes the run is made
  pub rest_closes : {L O D : Type 0} (text : sink_of.Ghosts O) (told : sectors_of.Ghosts D) (r mid : Kept L) (o o1 o2 : O) (d d1 d2 : D) (turns budget left : ℕ) (law : (u : CUnit) → MachinesRun (IsTypedState u)) (counts : TurnLaws) (e : RunEnd) → KeepsLoad r mid → told.size d1 ≡ told.size d →
      GoRuns (told.size d) r turns (run_around r (told.sectors d) budget) (run_around mid (told.sectors d1) left) (Ok tt) → GoCalls {T = Unit {0}} text told r turns budget (o, d) (o1, d1) (Ok tt) → EndPerforms text told part due mid (o1, d1) (o2, d2) e → SomeMade text told (o1, d1) (o2, d2) (of_end e) →
      LoadedCalls text told part due r turns budget (o, d) (o2, d2) e
  rest_closes text told r mid o o1 o2 d d1 d2 turns budget left law counts e kept size goes calls closes some_closes = record {
    exact = λ y s late held old k t wanted steps c p starts some more sum ready running past is.
        let x = outside_of r.machine.rows (told.size d) in
        let rn : Run = run_at x y s r.view wanted steps in
        let m = machines law r.boot r.machine.rows (told.size d) y s late held old p in
        let st : Status = (cvm_at rn past (end_within x s wanted steps)).status in
        let rep : List Call = report_script r.view rn past (end_within x s wanted steps) st in
        let g = goes y s late held old k t wanted steps c p starts some more sum ready in
        let end : end_within x s wanted steps ≡ g.at = counts.ends x s wanted steps g.at g.end g.within in
        let ended : is_end x s wanted (end_within x s wanted steps) ≡ true = ap (is_end x s wanted) end ∙ g.end.here in
        let low : t ≤ end_within x s wanted steps = no_sooner counts x s wanted steps t (omega (arith, sum)) (λ j lt. goes_before x s k t wanted starts (omega (arith, more)) j lt) in
        let now : cvm_at rn past (end_within x s wanted steps) ≡ g.past =
        m.same (complete x s (end_within x s wanted steps)) (cvm_at rn past (end_within x s wanted steps)) g.past (now_is counts x y s late held m r.view wanted steps past is)
        (subst (λ q. IsCvm y (lines_of_turn x s) q g.past) (sym (ap (complete x s) end ∙ g.ready.stood.all)) g.ready.stood.cvm) in
        let w = closes_at left y s late held g.count g.at g.past p.same p.starts g.ready wanted steps past (past_tells counts rn past g.at g.at is (omega (arith, end))) in
        record {
          made = λ shelf. rest_made counts x y s late held m r.view wanted steps past is (part st (closing_script rn past)) (part st rep)
              (λ e. parts r.view rn past (end_within x s wanted steps) (run x s (end_within x s wanted steps)).off st (closing_script rn past) rep (closing_is counts x y s late held m r.view wanted steps past is e))
              k t low (at text told shelf o d) (at text told shelf o1 d1) (at text told shelf o2 d2) (of_end e) ended
              (calls.exact y s late held old k t wanted steps c p starts some more sum ready running past is shelf)
              (same_script (part g.past.status (report_script r.view rn past g.at g.past.status)) (part st rep) (at text told shelf o1 d1) (at text told shelf o2 d2) (of_end e)
              (ap₂ (λ q (z : Status). part z (report_script r.view rn past q z)) (sym end) (ap (λ (q : Cvm). q.status) (sym now))) (w.made shelf));
          is = λ none. w.is none ∙ ap₂ (λ (b : Bool) (z : Status). due b z) (sym ended) (ap (λ (q : Cvm). q.status) (sym now));
        };
    some = (
      calls.some.0 ++ some_closes.0,
      of_both calls.some.0 some_closes.0 calls.some.1 some_closes.1,
      λ shelf. both calls.some.0 some_closes.0 (at text told shelf o d) (at text told shelf o1 d1) (at text told shelf o2 d2) (of_end e) (calls.some.2 shelf) (some_closes.2 shelf),
    );
  }
    where
      closes_at : EndPerformsAt text told part due mid r.boot r.machine.rows r.view (told.size d) (o1, d1) (o2, d2) e
      closes_at =
          subst (λ (q : ℕ). EndPerformsAt text told part due mid r.boot r.machine.rows r.view q (o1, d1) (o2, d2) e) size
          (subst (λ (v : View). EndPerformsAt text told part due mid r.boot r.machine.rows v (told.size d1) (o1, d1) (o2, d2) e) kept.view_is
          (subst (λ (rows : Rows). EndPerformsAt text told part due mid r.boot rows mid.view (told.size d1) (o1, d1) (o2, d2) e) kept.rows_are
          (subst (λ (b : Booted). EndPerformsAt text told part due mid b mid.machine.rows mid.view (told.size d1) (o1, d1) (o2, d2) e) kept.boot_is closes)))
