-- The theorem of save: what a save without a failed call leaves is what its boot leaves, but for the file and the row `saved`.
use Rattle.std.specs.Prelude.{Option, Some, None, codes, if◌then◌else◌}
use Rattle.std.specs.Io.KnownBytes.{append_known}
use Rattle.std.proofs.Common.{◌≡◌, ◌⊎◌, inl, inr, ℕ, ◌+◌, ◌-◌, Bool, true, false, List, [], ◌∷◌, ◌++◌, refl, sym, ap, ◌∙◌, subst, arith, append-nil, append_assoc}
use Rattle.cvm_model.specs.Cvm.{Status as CvmStatus, Running, Halted, Faulted}
use Rattle.cvm_model.specs.Text.{rows_text, closing_text, report_text}
use Rattle.kernel_linker.specs.Accept.{ImageSystem}
use Rattle.schedule_file.specs.Rows.{Rows}
use Rattle.run_scripts.specs.Command.{Save, IsSave, save, save_session}
use Rattle.run_scripts.specs.Plan.{saves}
use Rattle.run_scripts.specs.Boot.{booted, sectors_needed}
use Rattle.cvm_outside.specs.Told.{retold}
use Rattle.cvm_outside.specs.Outside.{Outside}
use Rattle.cvm_outside.specs.Script.{Call, Printed, Stored, Who, Performs, sectors_after}
use Rattle.boot_turns.specs.Runs.{Run, Past, IsPast, state_at, steps_made, has_ended, cvm_at}
use Rattle.boot_turns.specs.StepScript.{steps_script}
use Rattle.boot_run.specs.Closing.{opening_script, closing_script}
use Rattle.run_scripts.specs.SessionRuns.{run_of, pages_loaded}
use Rattle.boot_run.specs.RunScript.{run_script, saved_row, saved_bytes, leaving_script, save_script}
use Rattle.run_scripts.specs.Ends.{done, no_file, no_memory, RunAsks, SomeSaveAsks, session_load}
use Rattle.run_scripts.specs.AskedRuns.{Asked, text_at, ended_text, whole_text}
use Rattle.run_scripts.specs.Faults.{IsLeft}
use Rattle.run_scripts.proofs.PromisesByRuns.{IsSaved, IsUnsaved, SavesHold}
use Rattle.run_scripts.proofs.BrokenScripts.{both_done}
use Rattle.run_scripts.proofs.ScriptCalls.{Plain, plain, plain_both, plain_write, plain_load, plain_stays}
use Rattle.run_scripts.proofs.StatusesCaused.{mid_disk}
use Rattle.run_scripts.proofs.SavesJoin.{saved_front}
use Rattle.run_scripts.proofs.ResumeScripts.{got_keeps}
use Rattle.run_scripts.proofs.KeysOfEachRun.{known, ends_are_over, loads_store_the_start, scripts_store_the_sectors, sectors_behind_stay}
use Rattle.run_scripts.proofs.ScriptsMadeOf.{of_run, of_steps}
use Rattle.run_scripts.proofs.RowsAlongRuns.{Known}
use Rattle.run_scripts.specs.Keys.{ScriptLaws}
use Rattle.run_scripts.proofs.PerformedScripts.{says_text, leaves_sectors, file_then_row}
use Rattle.run_scripts.proofs.ReportsTell.{run_tells}
use Rattle.run_scripts.proofs.NothingElseRefused.{none_blamed, status_due, plan_asks, no_file_failed}
use Rattle.run_scripts.proofs.SavedMachines.{FileLaws, file_fits}
use Rattle.run_scripts.proofs.SavesComplete.{told_asks}
use Rattle.run_scripts.proofs.CallsOfCommands.{others_stay}
use Rattle.run_scripts.proofs.StoredRuns.{steps_leave}
use Rattle.boot_run.proofs.LoadStores.{stored-append}
use Rattle.run_scripts.proofs.ScriptsStore.{quiet_stores}
use Rattle.run_scripts.proofs.ScriptsTell.{Tells, tells_both, quiet_load, steps_tell, opening_tells}

-- WHETHER A RUN IS LEFT
is_left : (r : Run) (p : Past) → IsLeft r p ⊎ (IsLeft r p → ⊥)
is_left r p = by (has_ended r) refl (cvm_at r p (steps_made r)).status refl
  where
    by : (b : Bool) → has_ended r ≡ b → (st : CvmStatus) → (cvm_at r p (steps_made r)).status ≡ st → IsLeft r p ⊎ (IsLeft r p → ⊥)
    by true e Running s = inl (e, s)
    by true e Halted s = inr (λ l. let g = l.1 in absurd (cc))
    by true e (Faulted f) s = inr (λ l. let g = l.1 in absurd (cc))
    by false e st s = inr (λ l. let g = l.0 in absurd (cc))

-- where it isn't, a save does what its boot does
ends_alike : (name : List ℕ) (r : Run) (p : Past) → (IsLeft r p → ⊥) →
    (if has_ended r then leaving_script name r p (cvm_at r p (steps_made r)).status else []) ≡ (if has_ended r then closing_script r p else [])
ends_alike name r p never = by (has_ended r) refl (cvm_at r p (steps_made r)).status refl
  where
    by : (b : Bool) → has_ended r ≡ b → (st : CvmStatus) → (cvm_at r p (steps_made r)).status ≡ st →
        (if b then leaving_script name r p st else []) ≡ (if b then closing_script r p else [])
    by true e Running s = absurd (never (e, s))
    by true e Halted s = refl
    by true e (Faulted f) s = refl
    by false e st s = refl

unsaved_script : (c : Save) (s : ImageSystem) (rows : Rows) (size : ℕ) (before : List (List ℕ)) (load : List Call) (p : Past) →
    (IsLeft (run_of (save_session c) s rows size before) p → ⊥) →
    save_script c.file (run_of (save_session c) s rows size before) load p ≡ run_script (run_of (save_session c) s rows size before) load p
unsaved_script c s rows size before load p never =
    let r : Run = run_of (save_session c) s rows size before in
    let n : ℕ = steps_made r in
    let none : n ≡ n - 0 = omega arith in
    let end : List Call = if has_ended r then closing_script r p else [] in
    ap (λ (l : List Call). (load ++ steps_script r p 0 n) ++ l) (ends_alike c.file r p never)
    ∙ append_assoc load (steps_script r p 0 n) end
    ∙ ap (λ (i : ℕ). load ++ (steps_script r p 0 i ++ end)) none
    ∙ ap (λ (l : List Call). l ++ (steps_script r p 0 (n - 0) ++ end)) (sym (append-nil load))

module _ (law : ScriptLaws) (files : FileLaws) (words : List (List ℕ)) (c : Save) (s : ImageSystem) (rows : Rows) (before : List (List ℕ)) (old : Outside)
    (a : Asked words (saves (save_session c) s rows c.file) (save_session c) s rows before old) where
  abbrev r : Run
  r = run_of (save_session c) s rows old.disk.size before

  abbrev load : List Call
  load = session_load (save_session c) s rows

  its : Known r
  its = known law.runs words (saves (save_session c) s rows c.file) (save_session c) s rows before old a

  module _ (p : Past) (is : IsPast r p) where
    -- WHAT COMES BEFORE the end
    abbrev front : List Call
    front = load ++ steps_script r p 0 (steps_made r)

    front_tells : Tells front [] (text_at r p (steps_made r))
    front_tells =
        let all : 0 + steps_made r ≡ steps_made r = omega arith in
        let steps : Tells (steps_script r p 0 (steps_made r)) (text_at r p 0) (text_at r p (steps_made r)) =
        subst (λ (i : ℕ). Tells (steps_script r p 0 (steps_made r)) (text_at r p 0) (text_at r p i)) all (steps_tell r its p is 0 (steps_made r) (omega arith)) in
        subst (λ (l : List Call). Tells (l ++ steps_script r p 0 (steps_made r)) [] (text_at r p (steps_made r))) (append-nil load)
        (tells_both (load ++ opening_script r.view r.system) (steps_script r p 0 (steps_made r)) [] (text_at r p 0) (text_at r p (steps_made r))
        (tells_both load (opening_script r.view r.system) [] [] (text_at r p 0)
        (quiet_load (pages_loaded (save_session c).start (booted s rows)) (sectors_needed (save_session c) s rows) []) (opening_tells r its p is)) steps)

    front_leaves : sectors_after front before ≡ (state_at r (steps_made r)).device.sectors
    front_leaves =
        let all : 0 + steps_made r ≡ steps_made r = omega arith in
        stored-append load (steps_script r p 0 (steps_made r)) before
        ∙ ap (sectors_after (steps_script r p 0 (steps_made r))) (loads_store_the_start law.runs words _ (save_session c) s rows before old a)
        ∙ steps_leave law.runs.count r p 0 (steps_made r) (omega arith) ∙ ap (λ (i : ℕ). (state_at r i).device.sectors) all

    front_plain : Plain front
    front_plain = plain_both load (steps_script r p 0 (steps_made r)) (plain_load (save_session c) s rows) (of_steps Plain plain plain_write r p 0 (steps_made r))

    -- THE FILE and the row
    abbrev put : List Call
    put = Stored c.file (saved_bytes r p) ∷ Printed (Some saved_row) ∷ []

    saved_tells : Tells (front ++ put) [] (text_at r p (steps_made r) ++ saved_row)
    saved_tells =
        tells_both front put [] (text_at r p (steps_made r)) (text_at r p (steps_made r) ++ saved_row) front_tells
        (record { text = saved_row; told = ap (λ (l : List ℕ). Some l) (append-nil saved_row); is = refl })

    saved_leaves : sectors_after (front ++ put) before ≡ (state_at r (steps_made r)).device.sectors
    saved_leaves = stored-append front put before ∙ quiet_stores put tt (sectors_after front before) ∙ front_leaves

    saved_file : (mid new : Outside) → Performs (front ++ put) mid new None → new.shelf.file c.file ≡ retold (mid.shelf.file c.file) (saved_bytes r p)
    saved_file mid new q =
        let h = both_done front put mid new q in
        file_then_row c.file (saved_bytes r p) saved_row h.0 new h.2
        ∙ ap (λ (o : Option (List ℕ)). retold o (saved_bytes r p)) (plain_stays front mid h.0 None front_plain h.1 c.file)

    stopped : IsLeft r p → whole_text r p ≡ text_at r p (steps_made r) ++ (codes "stopped\n" ++ report_text r.system.boot.meaning.names (cvm_at r p (steps_made r)).core)
    stopped l =
        ap (λ (b : Bool). if b then ended_text r.view r p (steps_made r) else text_at r p (steps_made r)) l.0
        ∙ ap (λ (st : CvmStatus). rows_text (cvm_at r p (steps_made r)).rows ++ closing_text r.system (cvm_at r p (steps_made r)) st) l.1

    -- BY WHETHER IT IS LEFT
    module _ (is_save : IsSave words c) (mid new : Outside) (disk : mid.disk ≡ old.disk) (sink : mid.sink ≡ old.sink) (files_stay : (n : List ℕ) → mid.shelf.file n ≡ old.shelf.file n) where
      was_saved : IsLeft r p → Performs (save_script c.file r load p) mid new None → IsSaved c s rows r p old new × (new.disk.sectors ≡ Some (state_at r (steps_made r)).device.sectors)
      was_saved l q =
          let e : save_script c.file r load p ≡ front ++ put = saved_front c.file r load p l.0 Running l.1 in
          let z : Performs (front ++ put) mid new None = subst (λ (x : List Call). Performs x mid new None) e q in
          let text = says_text law.tell (front ++ put) old mid new [] (text_at r p (steps_made r) ++ saved_row) saved_tells sink z in
          let start = law.runs.start words (saves (save_session c) s rows c.file) (save_session c) s rows before old a in (
            record {
              left = l;
              rest = report_text r.system.boot.meaning.names (cvm_at r p (steps_made r)).core;
              boot = stopped l;
              text = text.printed ∙ ap (append_known old.sink.text) (sym text.is);
              file = saved_file mid new z ∙ ap (λ (o : Option (List ℕ)). retold o (saved_bytes r p)) (files_stay c.file);
              fits = file_fits files s rows old.disk.size before start.late (sectors_needed (save_session c) s rows) start.starts r refl refl refl its p is l is_save.some_turns is_save.steps_fit;
            },
            leaves_sectors law.store (front ++ put) old mid new before (state_at r (steps_made r)).device.sectors a.sectors saved_leaves disk z,
          )

      was_unsaved : (IsLeft r p → ⊥) → Performs (save_script c.file r load p) mid new None → IsUnsaved r p old new × (new.disk.sectors ≡ Some (state_at r (steps_made r)).device.sectors)
      was_unsaved never q =
          let z : Performs (run_script r load p) mid new None =
          subst (λ (x : List Call). Performs x mid new None) (unsaved_script c s rows old.disk.size before load p never) q in
          let told = run_tells r its p is load (quiet_load (pages_loaded (save_session c).start (booted s rows)) (sectors_needed (save_session c) s rows) []) in
          let text = says_text law.tell (run_script r load p) old mid new [] (whole_text r p) told sink z in (
            record {
              ended = never;
              text = text.printed ∙ ap (append_known old.sink.text) (sym text.is);
              files = λ n. plain_stays (run_script r load p) mid new None (of_run Plain plain plain_write r load p (plain_load (save_session c) s rows)) z n ∙ files_stay n;
            },
            leaves_sectors law.store (run_script r load p) old mid new before (state_at r (steps_made r)).device.sectors a.sectors
                (scripts_store_the_sectors law.runs words _ (save_session c) s rows before old a p is) disk z,
          )

      which : Performs (save_script c.file r load p) mid new None →
          (IsSaved c s rows r p old new ⊎ IsUnsaved r p old new) × (new.disk.sectors ≡ Some (state_at r (steps_made r)).device.sectors)
      which q = by (is_left r p)
        where
          by : IsLeft r p ⊎ (IsLeft r p → ⊥) → (IsSaved c s rows r p old new ⊎ IsUnsaved r p old new) × (new.disk.sectors ≡ Some (state_at r (steps_made r)).device.sectors)
          by (inl l) = let h = was_saved l q in (inl h.0, h.1)
          by (inr never) = let h = was_unsaved never q in (inr h.0, h.1)

pub saves_hold : ScriptLaws → FileLaws → SavesHold
saves_hold law files words c s rows before old new status is a f (done _ h) m =
    let r : Run = run_of (save_session c) s rows old.disk.size before in
    let asks = plan_asks law.blame words old new status h (saves (save_session c) s rows c.file) a.files a.is_plan in
    let k = mid_disk law.blame words old new status h in
    let t = told_asks words _ (save_session c) s rows before old h.mid (λ size ss. RunAsks (run_of (save_session c) s rows size ss) (λ r. save_script c.file r (session_load (save_session c) s rows)))
    (SomeSaveAsks c.file (session_load (save_session c) s rows)) h.script h.due a k.0 asks in
    let n = none_blamed law.blame words old new status h f in
    let p : Performs (save_script c.file r (session_load (save_session c) s rows) t.past) h.mid new None =
    subst (λ (x : List Call). Performs x h.mid new None) t.script_is (subst (λ (b : Option Who). Performs h.script h.mid new b) n h.performs) in
    let u = got_keeps _ _ _ _ _ old h.mid (h.gets.0 (save c) is) h.files in
    let w = which law files words c s rows before old a t.past t.is_past is h.mid new k.0 k.1 u.files p in
    record {
      past = t.past;
      is_past = t.is_past;
      machine = record { are = w.1; beyond = sectors_behind_stay law.runs words _ (save_session c) s rows before old a (steps_made r) (omega arith) };
      status_is = status_due law.blame words old new status h n ∙ t.status_is;
      over = ends_are_over law.runs words _ (save_session c) s rows before old a;
      which = w.0;
      others = λ name other. others_stay words (save c) old new status is (done status h) name (λ e. other (sym (same_name c.file name e)));
    }
  where
    same_name : (x y : List ℕ) → Some x ≡ Some y → x ≡ y
    same_name x y e = cc
saves_hold law files words c s rows before old new status is a f (no_file d k g) m = absurd (no_file_failed law.blame words d old new k f.shelf g)
saves_hold law files words c s rows before old new status is a f (no_memory d k w) m = absurd (m refl)
