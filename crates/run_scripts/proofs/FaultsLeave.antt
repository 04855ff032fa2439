-- What a command that asks for a run leaves where its steps were spent or a call failed.
use Rattle.std.specs.Prelude.{Option, Some, None, if◌then◌else◌}
use Rattle.std.proofs.Common.{◌≡◌, ◌⊎◌, inl, inr, ℕ, ◌≤◌, Bool, true, false, List, [], ◌++◌, length, refl, sym, ap, ◌∙◌, subst, arith, append-nil}
use Rattle.std.proofs.lemmas.List.{take_all}
use Rattle.std.specs.Io.KnownBytes.{append_known}
use Rattle.cvm_outside.specs.Told.{IsCutOff, retold}
use Rattle.cvm_outside.specs.Numbering.{called, counted_times}
use Rattle.cvm_outside.specs.Outside.{Outside, Output, Drive, counts}
use Rattle.cvm_outside.specs.Script.{Call, Who, TheSink, TheDisk, TheShelf, Performs, disk_calls, sectors_after}
use Rattle.cvm_outside.specs.ScriptLaws.{ScriptsBlame, ScriptsCount}
use Rattle.cvm_outside.proofs.PartsMakeTheWhole.{append_known-nil}
use Rattle.kernel_linker.specs.Accept.{ImageSystem}
use Rattle.schedule_file.specs.Rows.{Rows}
use Rattle.layer_contract.specs.Starts.{Beyond}
use Rattle.boot_turns.specs.Torn.{Torn}
use Rattle.cvm_model.specs.Cvm.{Status as CvmStatus, Running, Halted, Faulted}
use Rattle.run_scripts.specs.declared.exit_status.Status.{Status}
use Rattle.run_scripts.specs.declared.exit_status.Status.TheVariants.{Done, KernelFault, StepLimit, Disk, Shelf, Sink, Memory}
use Rattle.run_scripts.specs.declared.session.Session.{Session}
use Rattle.run_scripts.specs.Command.{Command, IsSave, Save, save, save_session}
use Rattle.run_scripts.specs.Plan.{Plan, boots, saves}
use Rattle.boot_turns.specs.Runs.{Run, Past, IsPast, state_at, steps_made, has_ended, cvm_at}
use Rattle.run_scripts.specs.Boot.{booted, sectors_needed}
use Rattle.run_scripts.specs.SessionRuns.{run_of, pages_loaded}
use Rattle.boot_run.specs.RunScript.{run_script, saved_row, saved_bytes, save_script}
use Rattle.boot_run.specs.RunCalls.{end_by}
use Rattle.run_scripts.specs.RunStatus.{run_status, status_of_end}
use Rattle.run_scripts.specs.Ends.{WasDone, done, no_file, no_memory, IsNotGot, RunAsks, SomeRunAsks, SomeSaveAsks, session_load, answered}
use Rattle.run_scripts.specs.Served.{files_of}
use Rattle.run_scripts.specs.AskedRuns.{Asked, ended_text, text_at, whole_text}
use Rattle.run_scripts.specs.Faults.{PrintedWithin, Stand, CalledBy, AfterSink, AfterBy, After, FaultsLeave, IsLeft, IsReported, UnsavedBy, SaveFaultsLeave}
use Rattle.run_scripts.proofs.SectorsBehind.{load_calls_disk, stand_behind, sink_behind, disk_behind}
use Rattle.run_scripts.proofs.BrokenScripts.{AllOf}
use Rattle.run_scripts.proofs.ScriptCalls.{plain_load}
use Rattle.run_scripts.proofs.StatusesCaused.{mid_disk}
use Rattle.run_scripts.proofs.ResumeScripts.{got_keeps}
use Rattle.run_scripts.specs.Keys.{ScriptLaws}
use Rattle.run_scripts.proofs.KeysOfEachRun.{known, loads_store_the_start, sectors_behind_stay}
use Rattle.run_scripts.proofs.OneCommand.{one_command}
use Rattle.run_scripts.proofs.RowsAlongRuns.{Known}
use Rattle.run_scripts.proofs.NothingElseRefused.{plan_asks}
use Rattle.run_scripts.proofs.ReportsTell.{run_tells}
use Rattle.run_scripts.proofs.RunFaults.{Stands, more, broken_within, run_unsaid, run_undone}
use Rattle.run_scripts.proofs.SaveFaults.{save_undone, save_unsaid, save_unput, save_spent}
use Rattle.run_scripts.proofs.SavesComplete.{told_asks}
use Rattle.run_scripts.proofs.StoredRuns.{run_leaves}
use Rattle.run_scripts.proofs.ScriptsTell.{Tells, quiet_load}

-- the statuses of a boot, and those of a save
abbrev pub Three : Status → Type 0
Three st = (st ≡ StepLimit) ⊎ ((st ≡ Disk) ⊎ (st ≡ Sink))

abbrev pub Four : Status → Type 0
Four st = (st ≡ StepLimit) ⊎ ((st ≡ Disk) ⊎ ((st ≡ Shelf) ⊎ (st ≡ Sink)))

pub of_three : (st : Status) → Three st → Four st
of_three st (inl e) = inl e
of_three st (inr (inl e)) = inr (inl e)
of_three st (inr (inr e)) = inr (inr (inr e))

pub not_shelf : Three Shelf → ⊥
not_shelf (inl e) = cc
not_shelf (inr (inl e)) = cc
not_shelf (inr (inr e)) = cc

pub not_memory : Four Memory → ⊥
not_memory (inl e) = cc
not_memory (inr (inl e)) = cc
not_memory (inr (inr (inl e))) = cc
not_memory (inr (inr (inr e))) = cc

not_done : Four Done → ⊥
not_done (inl e) = cc
not_done (inr (inl e)) = cc
not_done (inr (inr (inl e))) = cc
not_done (inr (inr (inr e))) = cc

not_faulted : Four KernelFault → ⊥
not_faulted (inl e) = cc
not_faulted (inr (inl e)) = cc
not_faulted (inr (inr (inl e))) = cc
not_faulted (inr (inr (inr e))) = cc

-- where no call failed the steps were spent
pub spent : (b : Bool) (st : CvmStatus) (status : Status) → status ≡ status_of_end (end_by b st) → Four status → (b ≡ false) × (status ≡ StepLimit)
spent true Running status e w = absurd (not_done (subst Four e w))
spent true Halted status e w = absurd (not_done (subst Four e w))
spent true (Faulted f) status e w = absurd (not_faulted (subst Four e w))
spent false st status e w = (refl, e)

-- the calls that were made of the disk, by the script that was performed
called_by : ScriptsBlame → ScriptsCount → (old mid : Outside) → mid.disk ≡ old.disk → (a : List Call) (at : Outside) → Performs a mid at None → CalledBy a old at
called_by blame count old mid disk a at q =
    let c = count a mid at None q in
    record {
      faults = (blame a mid at None q TheDisk).same (λ e. cc) ∙ ap (λ (d : Drive). d.faults) disk;
      calls = c.calls ∙ ap (λ (n : ℕ). called n (counts mid.disk)) c.which ∙ ap (λ (d : Drive). called (disk_calls a) (counts d)) disk;
      all_calls = c.all_calls ∙ ap (λ (n : ℕ). counted_times n mid.disk.all_calls) c.which ∙ ap (λ (d : Drive). counted_times (disk_calls a) d.all_calls) disk;
    }

-- OF A RUN that words ask for, from where its files were got
module _ (law : ScriptLaws) (words : List (List ℕ)) (plan : Plan) (session : Session) (s : ImageSystem) (rows : Rows) (before : List (List ℕ)) (old mid : Outside)
    (a : Asked words plan session s rows before old) (disk : mid.disk ≡ old.disk) (sink : mid.sink ≡ old.sink) where
  abbrev r : Run
  r = run_of session s rows old.disk.size before

  abbrev held : ℕ
  held = sectors_needed session s rows

  k : Known r
  k = known law.runs words plan session s rows before old a

  stood : Stands old mid [] before
  stood = record {
    text_is = ap (λ (o : Output). o.text) sink ∙ sym (append_known-nil old.sink.text);
    are = ap (λ (d : Drive). d.sectors) disk ∙ a.sectors;
  }

  mute : Tells (session_load session s rows) [] []
  mute = quiet_load (pages_loaded session.start (booted s rows)) (sectors_needed session s rows) []

  calls_disk : AllOf TheDisk (session_load session s rows)
  calls_disk = load_calls_disk (pages_loaded session.start (booted s rows)) (sectors_needed session s rows)

  makes : sectors_after (session_load session s rows) before ≡ r.first.device.sectors
  makes = loads_store_the_start law.runs words plan session s rows before old a

  stays : (t : ℕ) → t ≤ steps_made r → Beyond held before (state_at r t).device.sectors
  stays = sectors_behind_stay law.runs words plan session s rows before old a

  torn_stays : (t : ℕ) (now : List (List ℕ)) → (state_at r t).off ≡ None → Torn r.around (state_at r t) now → Beyond held before now
  torn_stays t now on torn =
      let w = law.runs.start words plan session s rows before old a in
      let m = law.runs.machines s.unit _ _ _ w.late _ w.starts in
      λ q few. m.torn t now on torn q few ∙ w.beyond q few

  -- A BOOT
  module _ (p : Past) (is : IsPast r p) where
    tells : Tells (run_script r (session_load session s rows) p) [] (whole_text r p)
    tells = run_tells r k p is (session_load session s rows) mute

    begun : (new : Outside) (whom : Who) → Performs (run_script r (session_load session s rows) p) mid new (Some whom) → PrintedWithin old new [] (whole_text r p)
    begun new whom q =
        broken_within law.tell law.store old (run_script r (session_load session s rows) p) mid new whom [] [] [] (whole_text r p) [] (whole_text r p) stood.text_is q tells refl (sym (append-nil (whole_text r p)))

    abbrev Left : Status → Outside → Type 0
    Left status new = After r held before new (λ o. AfterBy (has_ended r ≡ true) status r (session_load session s rows) o old new × PrintedWithin old new [] (whole_text r o))

    boot_left : (new : Outside) (status due : Status) (b : Option Who) → due ≡ run_status r p → status ≡ answered due b → Three status → Performs (run_script r (session_load session s rows) p) mid new b → Left status new
    boot_left new status due None d e w q =
        let h = spent (has_ended r) (cvm_at r p (steps_made r)).status status (e ∙ d) (of_three status w) in
        let all = more law.tell law.store old (run_script r (session_load session s rows) p) mid new [] (whole_text r p) before (state_at r (steps_made r)).device.sectors stood q tells
        (run_leaves law.runs.count r (session_load session s rows) p before makes) in
        let text : whole_text r p ≡ text_at r p (steps_made r) = ap (λ (b : Bool). if b then ended_text r.view r p (steps_made r) else text_at r p (steps_made r)) h.0 in
        subst (λ (st : Status). Left st new) (sym h.1)
        (record {
          past = p;
          is_past = is;
          by = (
            (h.0, all.text_is ∙ ap (append_known old.sink.text) text, all.are),
            record { count = length (whole_text r p); printed = all.text_is ∙ ap (append_known old.sink.text) (sym (take_all (length (whole_text r p)) (whole_text r p) (omega arith))); holds = refl },
          );
          behind = stand_behind law.runs.count r held before stays (steps_made r) new (omega arith) all.are;
        })
    boot_left new status due (Some TheSink) d e w q =
        let h = run_unsaid r k p is law.tell law.store old (session_load session s rows) before calls_disk mute makes mid new stood q in
        subst (λ (st : Status). Left st new) (sym e)
        (record { past = p; is_past = is; by = (h, begun new TheSink q); behind = sink_behind law.runs.count r held before stays (has_ended r ≡ true) p old new h })
    boot_left new status due (Some TheDisk) d e w q =
        let h = run_undone r k p is law.tell law.store old (session_load session s rows) before calls_disk mute makes mid new (called_by law.blame law.calls old mid disk) disk stood q in
        subst (λ (st : Status). Left st new) (sym e)
        (record {
          past = p;
          is_past = is;
          by = (h, begun new TheDisk q);
          behind = disk_behind law.runs.count r held before stays (pages_loaded session.start (booted s rows)) torn_stays (has_ended r ≡ true) p old new a.sectors h;
        })
    boot_left new status due (Some TheShelf) d e w q = absurd (not_shelf (subst Three e w))

pub faults_leave : ScriptLaws → FaultsLeave
faults_leave law words session s rows before old new status a w (done _ h) =
    let two = mid_disk law.blame words old new status h in
    let t = told_asks words (boots session s rows) session s rows before old h.mid (λ size ss. RunAsks (run_of session s rows size ss) (λ r. run_script r (session_load session s rows))) (SomeRunAsks (session_load session s rows))
    h.script h.due a two.0 (plan_asks law.blame words old new status h (boots session s rows) a.files a.is_plan) in
    boot_left law words (boots session s rows) session s rows before old h.mid a two.0 two.1 t.past t.is_past new status h.due h.blamed t.status_is h.status_is w
    (subst (λ (c : List Call). Performs c h.mid new h.blamed) t.script_is h.performs)
faults_leave law words session s rows before old new status a w (no_file c i f) = absurd (not_shelf w)
faults_leave law words session s rows before old new status a w (no_memory c i m) = absurd (not_memory (of_three Memory w))

-- A SAVE
module _ (law : ScriptLaws) (words : List (List ℕ)) (c : Save) (s : ImageSystem) (rows : Rows) (before : List (List ℕ)) (old new : Outside) (status : Status)
    (is : IsSave words c) (a : Asked words (saves (save_session c) s rows c.file) (save_session c) s rows before old) (w : Four status) (h : WasDone words old new status) where
  abbrev session : Session
  session = save_session c

  abbrev run : Run
  run = run_of (save_session c) s rows old.disk.size before

  two : (h.mid.disk ≡ old.disk) × (h.mid.sink ≡ old.sink)
  two = mid_disk law.blame words old new status h

  files : (n : List ℕ) → h.mid.shelf.file n ≡ old.shelf.file n
  files = (got_keeps _ _ _ _ _ old h.mid (h.gets.0 (save c) is) h.files).files

  t : RunAsks (run_of (save_session c) s rows old.disk.size before) (λ r. save_script c.file r (session_load (save_session c) s rows)) h.script h.due
  t = told_asks words (saves (save_session c) s rows c.file) (save_session c) s rows before old h.mid (λ size ss. RunAsks (run_of (save_session c) s rows size ss) (λ r. save_script c.file r (session_load (save_session c) s rows)))
      (SomeSaveAsks c.file (session_load (save_session c) s rows)) h.script h.due a two.0 (plan_asks law.blame words old new status h (saves (save_session c) s rows c.file) a.files a.is_plan)

  abbrev plan : Plan
  plan = saves (save_session c) s rows c.file

  abbrev load : List Call
  load = session_load (save_session c) s rows

  known_run : Known run
  known_run = k law words plan session s rows before old h.mid a two.0 two.1

  start : Stands old h.mid [] before
  start = stood law words plan session s rows before old h.mid a two.0 two.1

  disk : AllOf TheDisk load
  disk = calls_disk law words plan session s rows before old h.mid a two.0 two.1

  silent : Tells load [] []
  silent = mute law words plan session s rows before old h.mid a two.0 two.1

  made : sectors_after load before ≡ run.first.device.sectors
  made = makes law words plan session s rows before old h.mid a two.0 two.1

  behind : (t : ℕ) → t ≤ steps_made run → Beyond (sectors_needed session s rows) before (state_at run t).device.sectors
  behind = stays law words plan session s rows before old h.mid a two.0 two.1

  abbrev SaveLeft : Status → Type 0
  SaveLeft st = After run (sectors_needed session s rows) before new (λ p. UnsavedBy st c run load p old new)

  abbrev Unsaid : Type 0
  Unsaid = (AfterSink (IsReported run t.past) run t.past old new × ((n : List ℕ) → new.shelf.file n ≡ h.mid.shelf.file n)) ⊎ (IsLeft run t.past
      × PrintedWithin old new (text_at run t.past (steps_made run)) (text_at run t.past (steps_made run) ++ saved_row) × Stand run (steps_made run) new
      × (new.shelf.file c.file ≡ retold (h.mid.shelf.file c.file) (saved_bytes run t.past)))

  unsaid : Unsaid → SaveLeft Sink
  unsaid (inl g) = record {
    past = t.past;
    is_past = t.is_past;
    by = inl (g.0, g.1 c.file ∙ files c.file);
    behind = sink_behind law.runs.count run (sectors_needed session s rows) before behind (IsReported run t.past) t.past old new g.0;
  }
  unsaid (inr g) = record {
    past = t.past;
    is_past = t.is_past;
    by = inr (g.0, g.1, g.2, g.3 ∙ ap (λ (f : Option (List ℕ)). retold f (saved_bytes run t.past)) (files c.file));
    behind = stand_behind law.runs.count run (sectors_needed session s rows) before behind (steps_made run) new (omega arith) g.2;
  }

  save_left : (b : Option Who) → status ≡ answered h.due b → Performs (save_script c.file run load t.past) h.mid new b → SaveLeft status
  save_left None e q =
      let n = spent (has_ended run) (cvm_at run t.past (steps_made run)).status status (e ∙ t.status_is) w in
      let g = save_spent run known_run t.past t.is_past law.tell law.store old load before disk silent made refl (plain_load session s rows) c.file h.mid start new n.0 q in
      subst SaveLeft (sym n.1)
      (record {
        past = t.past;
        is_past = t.is_past;
        by = ((n.0, g.0.text_is, g.0.are), g.1 c.file ∙ files c.file);
        behind = stand_behind law.runs.count run (sectors_needed session s rows) before behind (steps_made run) new (omega arith) g.0.are;
      })
  save_left (Some TheSink) e q =
      subst SaveLeft (sym e) (unsaid (save_unsaid run known_run t.past t.is_past law.tell law.store old load before disk silent made refl (plain_load session s rows) c.file h.mid start new q))
  save_left (Some TheDisk) e q =
      let g = save_undone run known_run t.past t.is_past law.tell law.store old load before disk silent made refl (plain_load session s rows) c.file h.mid start new (called_by law.blame law.calls old h.mid two.0) two.0 q in
      subst SaveLeft (sym e)
      (record {
        past = t.past;
        is_past = t.is_past;
        by = (g.0, g.1 c.file ∙ files c.file);
        behind = disk_behind law.runs.count run (sectors_needed session s rows) before behind (pages_loaded session.start (booted s rows))
            (torn_stays law words plan session s rows before old h.mid a two.0 two.1) (IsReported run t.past) t.past old new a.sectors g.0;
      })
  save_left (Some TheShelf) e q =
      let g = save_unput run known_run t.past t.is_past law.tell law.store old load before disk silent made refl (plain_load session s rows) c.file h.mid start new q in
      subst SaveLeft (sym e)
      (record {
        past = t.past;
        is_past = t.is_past;
        by = (g.0, g.1, g.2, subst (λ (f : Option (List ℕ)). IsCutOff f (saved_bytes run t.past) (new.shelf.file c.file)) (files c.file) g.3);
        behind = stand_behind law.runs.count run (sectors_needed session s rows) before behind (steps_made run) new (omega arith) g.2;
      })

pub save_faults_leave : ScriptLaws → SaveFaultsLeave
save_faults_leave law words c s rows before old new status is a w (done _ h) =
    inr (save_left law words c s rows before old new status is a w h h.blamed h.status_is
    (subst (λ (x : List Call). Performs x h.mid new h.blamed) (t law words c s rows before old new status is a w h).script_is h.performs))
save_faults_leave law words c s rows before old new status is a w (no_file d i f) =
    inl (refl, subst (λ (e : Command). IsNotGot (files_of e) old new) (one_command words d (save c) i is) f)
save_faults_leave law words c s rows before old new status is a w (no_memory d i m) = absurd (not_memory w)
