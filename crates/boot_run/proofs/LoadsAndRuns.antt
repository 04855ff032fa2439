-- The scripts of a load, and of a call that loads a run and makes it.
use Rattle.std.proofs.Common.{◌≡◌, ℕ, ◌+◌, ◌≤◌, true, Some, List, [], ◌++◌, Ok, Err, refl, sym, ap, subst, arith, append-nil, append_assoc}
use Rattle.cvm_outside.specs.Outside.{Files, output}
use Rattle.cvm_outside.specs.declared.sink.Sink as sink_of
use Rattle.cvm_outside.specs.declared.sectors.Sectors as sectors_of
use Rattle.cvm_outside.specs.declared.sectors.DiskFault.{DiskFault}
use Rattle.cvm_outside.specs.Script.{Call, TheDisk, Performs, Asks}
use Rattle.cvm_outside.proofs.ScriptsFollow.{both, first}
use Rattle.cvm_outside.proofs.RowsPut.{same_script}
use Rattle.mips_table.specs.Machine.{State}
use Rattle.schedule_file.specs.Rows.{Rows}
use Rattle.mips_machine.specs.Steps.{outside_of}
use Rattle.page_model.specs.Paging.{Pages}
use Rattle.cvm_model.specs.Cvm.{System, first_cvm}
use Rattle.layer_contract.specs.declared.boot.Boot.{Boot as Booted}
use Rattle.boot_turns.specs.declared.answers.View.{View}
use Rattle.boot_turns.specs.Runs.{Run}
use Rattle.boot_run.specs.declared.load.LoadFault.{LoadFault}
use Rattle.boot_run.specs.declared.load.LoadFault.TheVariants as load
use Rattle.boot_run.specs.declared.whole.RunEnd.{RunEnd}
use Rattle.boot_run.specs.LoadEnds.{Kept, IsFresh, LoadFails}
use Rattle.boot_run.specs.Loaded.{Load}
use Rattle.boot_run.specs.LoadScript.{load_script}
use Rattle.boot_run.specs.Loading.{system_of}
use Rattle.boot_run.specs.Pieces.{Bootable}
use Rattle.boot_run.specs.RunCalls.{run_at, of_load, LoadCalls, of_end, RestCalls, WholeScript, end_by, all_calls, RunPerformsAt, begins, LoadsRun}
use Rattle.boot_run.specs.RunScript.{rest_script, run_script}
use Rattle.boot_run.specs.Closing.{opening_script}
use Rattle.boot_run.specs.TurnCalls.{run_around, ReadyAt, StandsReady}
use Rattle.boot_run.proofs.ScriptsJoined.{at}

-- A LOAD that writes its pages
module _ {D : Type 0} (told : sectors_of.Ghosts D) (d d1 : D) (pages wanted : Pages) (most need : ℕ) (pages_are : pages ≡ wanted) (most_is : most ≡ need) where
  pub load_done : {R : Type 0} (w : R) → Asks {T = Unit {0}} told d d1 (load_script pages most) (Ok tt) → LoadCalls {T = R} told d d1 (load_script wanted need) (Ok w)
  load_done w asks = record {
    made = λ _. subst (λ (q : Pages). Asks {T = Unit {0}} told d d1 (load_script q need) (Ok tt)) pages_are (subst (λ n. Asks {T = Unit {0}} told d d1 (load_script pages n) (Ok tt)) most_is asks);
    none = λ e. absurd (let h = e in cc);
  }

  pub load_broke : {R : Type 0} (e : DiskFault) → Asks {T = Unit {0}} told d d1 (load_script pages most) (Err e) → LoadCalls {T = R} told d d1 (load_script wanted need) (Err load.Disk)
  load_broke e asks = record {
    made = λ _. subst (λ (q : Pages). Asks {T = Unit {0}} told d d1 (load_script q need) (Err e)) pages_are (subst (λ n. Asks {T = Unit {0}} told d d1 (load_script pages n) (Err e)) most_is asks);
    none = λ f. absurd (let h = f in cc);
  }

-- a load that is broken off is so by the disk
pub by_disk : (f : LoadFault) → begins f ≡ true → of_load f ≡ Some TheDisk
by_disk load.Disk e = refl
by_disk (load.SmallDisk need have) e = absurd (let h = e in cc)
by_disk load.Memory e = absurd (let h = e in cc)
by_disk (load.NoSuchUser user users) e = absurd (let h = e in cc)

-- a call that loads a run and makes it says of one that isn't loaded what the load does
pub unloaded : {O D T R : Type 0} (told : sectors_of.Ghosts D) (b : Booted) (view : View) (loading : Load) (o : O) (d d1 : D) (f : LoadFault) → LoadFails b view loading.need (told.size d) f → LoadCalls {T = T} told d d1 loading.script (Err f) →
    LoadsRun {T = R} told b view loading (o, d) (o, d1) (Err f)
unloaded told b view loading o d d1 f w calls = record { refused = w; loaded = tt; calls = record { made = calls.made; none = calls.none }; unprinted = refl }

-- WHERE NO RUN IS LOADED
pub whole_refused : {O D T : Type 0} (text : sink_of.Ghosts O) (told : sectors_of.Ghosts D) (y : System) (rows : Rows) (start : List (List ℕ) → State) (view : View) (turns steps : ℕ) (script : List Call) (o : O) (d d1 : D) (f : LoadFault) →
    LoadCalls {T = T} told d d1 script (Err f) → WholeScript text told y rows start view turns steps script (o, d) (o, d1) (Err f)
whole_refused {O} {D} {T} text told y rows start view turns steps script o d d1 f calls = record {
  exact = λ begun sectors p is past. (
    λ shelf. (let w = made begun shelf in
        subst (Performs (run_script (run_at (outside_of rows (told.size d)) y (start sectors) view turns steps) script p) (at text told shelf o d) (at text told shelf o d1)) (sym (by_disk f begun))
        (first (script ++ opening_script view y) (rest_script (run_at (outside_of rows (told.size d)) y (start sectors) view turns steps) p 0) (at text told shelf o d) (at text told shelf o d1) TheDisk
        (first script (opening_script view y) (at text told shelf o d) (at text told shelf o d1) TheDisk w))),
    λ _. tt,
  );
  some = λ begun. (
    [],
    tt,
    λ shelf. same_script script (script ++ []) (at text told shelf o d) (at text told shelf o d1) (of_load f) (sym (append-nil script))
        (subst (Performs script (at text told shelf o d) (at text told shelf o d1)) (sym (by_disk f begun)) (made begun shelf)),
  );
  none = λ e. ap (λ (q : D). (o, q)) (calls.none e);
}
  where
    made : begins f ≡ true → (shelf : Files) → Performs script (at text told shelf o d) (at text told shelf o d1) (Some TheDisk)
    made begun shelf = subst (Performs script (at text told shelf o d) (at text told shelf o d1)) (by_disk f begun) (calls.made begun shelf (output text o))

-- WHERE ONE IS, and makes its turns
module _ {L O D : Type 0} (text : sink_of.Ghosts O) (told : sectors_of.Ghosts D) (layer : L) (b : Booted) (rows : Rows) (start : List (List ℕ) → State) (held need : ℕ) (view : View) (turns steps : ℕ) (script : List Call) (o o1 : O) (d d1 d2 : D) (r : Kept L) (e : RunEnd)
    (fresh : IsFresh layer b view rows need (told.size d) r) (size : told.size d1 ≡ told.size d) (some : 1 ≤ turns)
    (premises : (old : List (List ℕ)) → told.sectors d ≡ Some old → (late : ℕ) × Bootable b rows (told.size d) (system_of b rows) (start old) late held old)
    (ready : StandsReady (system_of b rows) start (told.sectors d) (told.sectors d1) r) (loaded : LoadCalls {T = Kept L} told d d1 script (Ok r)) (calls : RestCalls text told r turns steps (o, d1) (o1, d2) e) where
  rest_at : RunPerformsAt text told all_calls end_by r b rows view (told.size d) turns steps (o, d1) (o1, d2) e
  rest_at =
      subst (λ (n : ℕ). RunPerformsAt text told all_calls end_by r b rows view n turns steps (o, d1) (o1, d2) e) size
      (subst (λ (w : View). RunPerformsAt text told all_calls end_by r b rows w (told.size d1) turns steps (o, d1) (o1, d2) e) fresh.view_is
      (subst (λ (q : Rows). RunPerformsAt text told all_calls end_by r b q r.view (told.size d1) turns steps (o, d1) (o1, d2) e) fresh.rows_are
      (subst (λ (c : Booted). RunPerformsAt text told all_calls end_by r c r.machine.rows r.view (told.size d1) turns steps (o, d1) (o1, d2) e) fresh.boot_is calls.exact)))

  pub whole_made : WholeScript text told (system_of b rows) rows start view turns steps script (o, d) (o1, d2) (Ok e)
  whole_made = record {
    exact = λ _ sectors p is past.
        let y = system_of b rows in
        let rn : Run = run_at (outside_of rows (told.size d)) y (start sectors) view turns steps in
        let w = rest_at y (start sectors) (premises sectors is).0 held sectors 0 0 turns steps (first_cvm y) (premises sectors is).1 (record { before = λ j h. absurd (omega (arith, h)); on = λ j h. absurd (omega (arith, h)) }) some (omega arith) (omega arith)
        (subst (λ (q : View). ReadyAt (outside_of rows (told.size d)) y (start sectors) q 0 0 (first_cvm y) (run_around r (told.sectors d1) steps)) fresh.view_is (ready (outside_of rows (told.size d)) sectors steps is)) refl p past in (
          λ shelf. same_script (script ++ (opening_script view y ++ rest_script rn p 0)) (run_script rn script p) (at text told shelf o d) (at text told shelf o1 d2) (of_end e) (sym (append_assoc script (opening_script view y) (rest_script rn p 0)))
              (both script (opening_script view y ++ rest_script rn p 0) (at text told shelf o d) (at text told shelf o d1) (at text told shelf o1 d2) (of_end e) (loaded.made refl shelf (output text o)) (w.made shelf)),
          w.is,
        );
    some = λ _. (calls.some.0, calls.some.1, λ shelf. both script calls.some.0 (at text told shelf o d) (at text told shelf o d1) (at text told shelf o1 d2) (of_end e) (loaded.made refl shelf (output text o)) (calls.some.2 shelf));
    none = λ f. absurd (let h = f in cc);
  }
