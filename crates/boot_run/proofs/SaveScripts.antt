-- The scripts of a run that is to be saved: what stops or closes it, the run up to there, and a call that loads it first.
use Rattle.std.proofs.Common.{◌≡◌, ℕ, ◌+◌, ◌≤◌, true, Option, Some, None, List, [], ◌++◌, Ok, Err, refl, sym, ap, ◌∙◌, subst, arith, append-nil}
use Rattle.std.specs.Prelude.{is_some}
use Rattle.cvm_outside.specs.Outside.{Files, output}
use Rattle.cvm_outside.specs.declared.sink.Sink as sink_of
use Rattle.cvm_outside.specs.declared.sectors.Sectors as sectors_of
use Rattle.cvm_outside.specs.Script.{Call, TheDisk, Performs, done}
use Rattle.cvm_outside.proofs.ScriptsFollow.{both, first}
use Rattle.cvm_outside.proofs.RowsPut.{same_script}
use Rattle.mips_table.specs.Machine.{State}
use Rattle.schedule_file.specs.Rows.{Rows}
use Rattle.mips_machine.specs.Steps.{outside_of}
use Rattle.cvm_model.specs.Cvm.{System, Status, Running, Halted, Faulted, first_cvm}
use Rattle.layer_contract.specs.declared.boot.Boot.{Boot as Booted}
use Rattle.boot_turns.specs.declared.answers.View.{View}
use Rattle.boot_turns.specs.declared.answers.View.TheVariants.{Boot}
use Rattle.boot_turns.specs.Runs.{Run, Past}
use Rattle.boot_run.specs.declared.load.LoadFault.{LoadFault}
use Rattle.boot_run.specs.declared.whole.RunEnd.{RunEnd}
use Rattle.boot_run.specs.declared.whole.RunEnd.TheVariants.{Stopped}
use Rattle.boot_run.specs.LoadEnds.{Kept, IsFresh}
use Rattle.boot_run.specs.Loading.{system_of}
use Rattle.boot_run.specs.Pieces.{Bootable}
use Rattle.boot_run.specs.RunCalls.{run_at, fault_script, report_script, CloseCalls, of_load, LoadCalls, of_end, end_by, RunPerformsAt, begins}
use Rattle.boot_run.specs.SaveCalls.{unless_on, stop_script, stop_by, StopCalls, ToStopCalls, SaveScript}
use Rattle.boot_run.specs.TurnCalls.{run_around, ReadyAt, StandsReady}
use Rattle.boot_run.proofs.TurnToTurn.{running_of}
use Rattle.boot_run.proofs.ReadingCalls.{of_run_too}
use Rattle.boot_run.proofs.ScriptsJoined.{at}
use Rattle.boot_run.proofs.ScriptsOfTurns.{goes_none}
use Rattle.boot_run.proofs.LoadsAndRuns.{by_disk}
use Rattle.boot_run.specs.Shown.{ended_of}

-- A RUN THAT HAS ENDED is closed
over_is : (st : Status) (closing : List Call) → is_some (ended_of st) ≡ true → unless_on st closing ≡ closing
over_is Running closing e = absurd (let h = e in cc)
over_is Halted closing e = refl
over_is (Faulted f) closing e = refl

over_end : (st : Status) → is_some (ended_of st) ≡ true → end_by true st ≡ stop_by true st
over_end Running e = absurd (let h = e in cc)
over_end Halted e = refl
over_end (Faulted f) e = refl

on_is : (st : Status) (closing : List Call) → st ≡ Running → unless_on st closing ≡ []
on_is st closing e = ap (λ (q : Status). unless_on q closing) e

module _ {L O D : Type 0} (text : sink_of.Ghosts O) (told : sectors_of.Ghosts D) (r : Kept L) (o o1 : O) (d d1 : D) where
  pub stop_closed : (end : RunEnd) → is_some r.ended ≡ true → CloseCalls text told r (o, d) (o1, d1) end → StopCalls text told r (o, d) (o1, d1) end
  stop_closed end over calls = record {
    exact = λ budget y s late held k t c same lawful ready turns steps p tells.
        let rep : List Call = report_script r.view (run_at (outside_of r.machine.rows (told.size d)) y s r.view turns steps) p t c.status in
        let w = calls.exact budget y s late held k t c same lawful ready turns steps p tells in
        let on : is_some (ended_of c.status) ≡ true = ap is_some (sym ready.ended) ∙ over in
        record {
          made = λ shelf. same_script rep (unless_on c.status rep) (at text told shelf o d) (at text told shelf o1 d1) (of_end end) (sym (over_is c.status rep on)) (w.made shelf);
          is = λ none. w.is none ∙ over_end c.status on;
        };
    some = (calls.some.0, of_run_too calls.some.0 calls.some.1, calls.some.2);
  }

pub stop_on : {L O D : Type 0} (text : sink_of.Ghosts O) (told : sectors_of.Ghosts D) (r : Kept L) (o : O) (d : D) → r.ended ≡ None → StopCalls text told r (o, d) (o, d) Stopped
stop_on text told r o d on = record {
  exact = λ budget y s late held k t c same lawful ready turns steps p tells.
      let running : c.status ≡ Running = running_of c.status (sym ready.ended ∙ on) in
      record {
        made = λ shelf. same_script [] (unless_on c.status (report_script r.view (run_at (outside_of r.machine.rows (told.size d)) y s r.view turns steps) p t c.status)) (at text told shelf o d) (at text told shelf o d) None
            (sym (on_is c.status (report_script r.view (run_at (outside_of r.machine.rows (told.size d)) y s r.view turns steps) p t c.status) running)) (done (at text told shelf o d));
        is = λ none. ap (stop_by true) (sym running);
      };
  some = ([], tt, λ shelf. done (at text told shelf o d));
}

-- what is left is the fault's row, or what stops the run
pub stop_parts : (v : View) (r : Run) (p : Past) (t : ℕ) (off : Option ℕ) (st : Status) (all report : List Call) → all ≡ fault_script v r p t off st ++ report → unless_on st all ≡ fault_script v r p t off st ++ unless_on st report
stop_parts v r p t off Running all report is = ap (λ (l : List Call). l ++ []) (sym (goes_none v r p t off Running refl))
stop_parts v r p t off Halted all report is = is
stop_parts v r p t off (Faulted f) all report is = is

-- WHERE NO RUN IS LOADED
pub save_refused : {O D T : Type 0} (text : sink_of.Ghosts O) (told : sectors_of.Ghosts D) (y : System) (rows : Rows) (start : List (List ℕ) → State) (turns steps : ℕ) (script : List Call) (o : O) (d d1 : D) (f : LoadFault) →
    LoadCalls {T = T} told d d1 script (Err f) → SaveScript {L = Unit {0}} text told y rows start turns steps script (o, d) (o, d1) (Err f)
save_refused {O} {D} {T} text told y rows start turns steps script o d d1 f calls = record {
  exact = λ begun sectors p is past. (
    λ shelf. subst (Performs (script ++ stop_script (run_at (outside_of rows (told.size d)) y (start sectors) Boot turns steps) p 0) (at text told shelf o d) (at text told shelf o d1)) (sym (by_disk f begun))
        (first script (stop_script (run_at (outside_of rows (told.size d)) y (start sectors) Boot turns steps) p 0) (at text told shelf o d) (at text told shelf o d1) TheDisk (made begun shelf)),
    λ _. tt,
  );
  some = λ begun. (
    [],
    tt,
    λ shelf. same_script script (script ++ []) (at text told shelf o d) (at text told shelf o d1) (of_load f) (sym (append-nil script))
        (subst (Performs script (at text told shelf o d) (at text told shelf o d1)) (sym (by_disk f begun)) (made begun shelf)),
  );
  none = λ e. ap (λ (q : D). (o, q)) (calls.none e);
}
  where
    made : begins f ≡ true → (shelf : Files) → Performs script (at text told shelf o d) (at text told shelf o d1) (Some TheDisk)
    made begun shelf = subst (Performs script (at text told shelf o d) (at text told shelf o d1)) (by_disk f begun) (calls.made begun shelf (output text o))

-- WHERE ONE IS
module _ {L O D : Type 0} (text : sink_of.Ghosts O) (told : sectors_of.Ghosts D) (layer : L) (b : Booted) (rows : Rows) (start : List (List ℕ) → State) (held need : ℕ) (turns steps : ℕ) (script : List Call) (o o1 : O) (d d1 d2 : D) (r new : Kept L) (e : RunEnd)
    (fresh : IsFresh layer b Boot rows need (told.size d) r) (size : told.size d1 ≡ told.size d) (some : 1 ≤ turns)
    (premises : (old : List (List ℕ)) → told.sectors d ≡ Some old → (late : ℕ) × Bootable b rows (told.size d) (system_of b rows) (start old) late held old)
    (ready : StandsReady (system_of b rows) start (told.sectors d) (told.sectors d1) r) (loaded : LoadCalls {T = Kept L} told d d1 script (Ok r)) (calls : ToStopCalls text told r turns steps (o, d1) (o1, d2) e) where
  stop_at : RunPerformsAt text told unless_on stop_by r b rows Boot (told.size d) turns steps (o, d1) (o1, d2) e
  stop_at =
      subst (λ (n : ℕ). RunPerformsAt text told unless_on stop_by r b rows Boot n turns steps (o, d1) (o1, d2) e) size
      (subst (λ (w : View). RunPerformsAt text told unless_on stop_by r b rows w (told.size d1) turns steps (o, d1) (o1, d2) e) fresh.view_is
      (subst (λ (q : Rows). RunPerformsAt text told unless_on stop_by r b q r.view (told.size d1) turns steps (o, d1) (o1, d2) e) fresh.rows_are
      (subst (λ (c : Booted). RunPerformsAt text told unless_on stop_by r c r.machine.rows r.view (told.size d1) turns steps (o, d1) (o1, d2) e) fresh.boot_is calls.exact)))

  pub save_made : SaveScript text told (system_of b rows) rows start turns steps script (o, d) (o1, d2) (Ok (new, e))
  save_made = record {
    exact = λ _ sectors p is past.
        let y = system_of b rows in
        let rn : Run = run_at (outside_of rows (told.size d)) y (start sectors) Boot turns steps in
        let w = stop_at y (start sectors) (premises sectors is).0 held sectors 0 0 turns steps (first_cvm y) (premises sectors is).1 (record { before = λ j h. absurd (omega (arith, h)); on = λ j h. absurd (omega (arith, h)) }) some (omega arith) (omega arith)
        (subst (λ (q : View). ReadyAt (outside_of rows (told.size d)) y (start sectors) q 0 0 (first_cvm y) (run_around r (told.sectors d1) steps)) fresh.view_is (ready (outside_of rows (told.size d)) sectors steps is)) refl p past in (
          λ shelf. both script (stop_script rn p 0) (at text told shelf o d) (at text told shelf o d1) (at text told shelf o1 d2) (of_end e) (loaded.made refl shelf (output text o)) (w.made shelf),
          w.is,
        );
    some = λ _. (calls.some.0, calls.some.1, λ shelf. both script calls.some.0 (at text told shelf o d) (at text told shelf o d1) (at text told shelf o1 d2) (of_end e) (loaded.made refl shelf (output text o)) (calls.some.2 shelf));
    none = λ f. absurd (let h = f in cc);
  }
