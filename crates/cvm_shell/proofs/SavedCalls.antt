-- What is done of the plan of a save, by the calls of the call that runs its system and puts its file.
use Rattle.std.proofs.Common.{◌≡◌, inl, inr, ℕ, ◌-◌, ◌≤◌, Bool, true, false, List, [], ◌++◌, append-nil, refl, sym, ap, ◌∙◌, subst, Some, None, Ok, Err}
use Rattle.std.specs.Prelude.{Option, Result, if◌then◌else◌}
use Rattle.cvm_outside.specs.Script.{Call}
use Rattle.cvm_outside.specs.declared.shelf.Shelf as shelf_of
use Rattle.cvm_outside.specs.declared.sink.Sink as sink_of
use Rattle.cvm_outside.specs.declared.sectors.Sectors as sectors_of
use Rattle.cvm_model.specs.Cvm.{Status as CvmStatus, Running, Halted, Faulted}
use Rattle.layer_contract.specs.Follows.{loaded}
use Rattle.boot_turns.specs.LoopScripts.{AreOfRun}
use Rattle.boot_turns.specs.Runs.{Run, steps_made, has_ended, cvm_at}
use Rattle.boot_run.specs.declared.load.LoadFault.{LoadFault}
use Rattle.boot_run.specs.declared.whole.RunEnd.{RunEnd}
use Rattle.boot_run.specs.declared.whole.RunEnd.TheVariants as ends
use Rattle.boot_run.specs.Loading.{system_of as loaded_system}
use Rattle.boot_run.specs.LoadedPages.{user_pages}
use Rattle.boot_run.specs.LoadEnds.{pages_needed}
use Rattle.boot_run.specs.LoadScript.{load_script}
use Rattle.boot_run.specs.RunCalls.{loads, of_end, of_answer, end_by}
use Rattle.boot_run.specs.SaveCalls.{stop_by, due_stop}
use Rattle.boot_run.specs.RunScript.{save_script, put_script}
use Rattle.machine_save.specs.SaveCalls.{SomeLeft, SavedScript}
use Rattle.kernel_linker.specs.Accept.{image_system}
use Rattle.run_scripts.specs.declared.exit_status.Status.{Status}
use Rattle.run_scripts.specs.declared.exit_status.Status.TheVariants.{Done}
use Rattle.cvm_shell.specs.declared.boot.Ready.{Ready}
use Rattle.run_scripts.specs.Boot.{sectors_needed}
use Rattle.run_scripts.specs.Command.{Save, save_session}
use Rattle.run_scripts.specs.Plan.{saves}
use Rattle.run_scripts.specs.SessionRuns.{run_of}
use Rattle.run_scripts.specs.RunStatus.{run_status, status_of_end}
use Rattle.run_scripts.specs.Ends.{over_told, over_untold, SomeSaveAsks, as_boot, is_saved, session_load, answered, as_outside}
use Rattle.cvm_shell.specs.Does.{DoesPlan, SavedCalls, SessionPasts}
use Rattle.cvm_shell.proofs.StartAnswers.{same_need}
use Rattle.cvm_shell.proofs.SystemCalls.{status_by, told_status, some_status}

-- the calls, by the sectors that a session needs
pub ready_calls : {S O D : Type 0} (shelf : shelf_of.Ghosts S) (text : sink_of.Ghosts O) (told : sectors_of.Ghosts D) (r : Ready) (c : Save) (answer : Result RunEnd LoadFault) (old new : S × O × D) →
    SavedScript shelf text told (loaded_system r.boot r.schedule) r.schedule (loaded (loaded_system r.boot r.schedule)) c.boot.turns c.boot.steps
    (load_script (user_pages (loaded_system r.boot r.schedule)) (pages_needed r.boot)) c.file old new answer → SavedCalls shelf text told r c answer old new
ready_calls shelf text told r c answer old new w =
    subst (λ (n : ℕ). SavedScript shelf text told (loaded_system r.boot r.schedule) r.schedule (loaded (loaded_system r.boot r.schedule)) c.boot.turns c.boot.steps
    (load_script (user_pages (loaded_system r.boot r.schedule)) n) c.file old new answer) (same_need r.boot r.schedule) w

-- THE STATUS of the end that is due
same_stop : (ended : Bool) (st : CvmStatus) → status_of_end (stop_by ended st) ≡ status_of_end (end_by ended st)
same_stop false Running = refl
same_stop false Halted = refl
same_stop false (Faulted f) = refl
same_stop true Running = refl
same_stop true Halted = refl
same_stop true (Faulted f) = refl

-- over sectors that aren't told
record SomeSave (name : List ℕ) (begin more left : List Call) (answer : Result RunEnd LoadFault) : Type 0 where
  pub due : Status
  pub asks : SomeSaveAsks name begin (begin ++ more ++ left) due
  pub is : status_by answer ≡ answered due (of_answer answer)

one_file : (name : List ℕ) (begin more left : List Call) → AreOfRun more → (bytes : List ℕ) → left ≡ put_script name bytes → SomeSaveAsks name begin (begin ++ more ++ left) Done
one_file name begin more left are bytes e = subst (λ (l : List Call). SomeSaveAsks name begin (begin ++ more ++ l) Done) (sym e) (is_saved more bytes are)

no_more : (begin more left : List Call) → left ≡ [] → begin ++ more ++ left ≡ begin ++ more
no_more begin more left e = ap (λ (l : List Call). (begin ++ more) ++ l) e ∙ append-nil (begin ++ more)

-- no file is put, or one
none_left : (name : List ℕ) (begin more left : List Call) (answer : Result RunEnd LoadFault) → loads answer ≡ true → AreOfRun more → left ≡ [] → SomeSave name begin more left answer
none_left name begin more left answer begun are e =
    let st = some_status answer begun in
    record { due = st.due; asks = as_boot (begin ++ more ++ left) st.due (more, are, no_more begin more left e, st.one); is = st.is }

one_left : (name : List ℕ) (begin more left : List Call) (end : RunEnd) → AreOfRun more → (bytes : List ℕ) × (left ≡ put_script name bytes) → status_of_end end ≡ answered Done (of_end end)
    → SomeSave name begin more left (Ok end)
one_left name begin more left end are (bytes, e) is = record { due = Done; asks = one_file name begin more left are bytes e; is = is }

some_save : (name : List ℕ) (begin more left : List Call) (answer : Result RunEnd LoadFault) → loads answer ≡ true → AreOfRun more → SomeLeft name answer left → SomeSave name begin more left answer
some_save name begin more left (Ok ends.Stopped) begun are file = one_left name begin more left ends.Stopped are file refl
some_save name begin more left (Ok ends.ShelfFault) begun are file = one_left name begin more left ends.ShelfFault are file refl
some_save name begin more left (Ok ends.SinkFault) begun are (inl e) = none_left name begin more left (Ok ends.SinkFault) begun are e
some_save name begin more left (Ok ends.SinkFault) begun are (inr file) = one_left name begin more left ends.SinkFault are file refl
some_save name begin more left (Ok ends.Done) begun are e = none_left name begin more left (Ok ends.Done) begun are e
some_save name begin more left (Ok ends.KernelFaulted) begun are e = none_left name begin more left (Ok ends.KernelFaulted) begun are e
some_save name begin more left (Ok ends.OutOfSteps) begun are e = none_left name begin more left (Ok ends.OutOfSteps) begun are e
some_save name begin more left (Ok ends.DiskFault) begun are e = none_left name begin more left (Ok ends.DiskFault) begun are e
some_save name begin more left (Err f) begun are e = none_left name begin more left (Err f) begun are e

-- A RUN WAS BEGUN that is to be saved
module _ {S O D : Type 0} (shelf : shelf_of.Ghosts S) (text : sink_of.Ghosts O) (told : sectors_of.Ghosts D) (r : Ready) (c : Save) (s s1 : S) (o o1 : O) (d d1 : D) where
  pub saved_does : (answer : Result RunEnd LoadFault) → loads answer ≡ true → SavedCalls shelf text told r c answer (s, o, d) (s1, o1, d1) → SessionPasts r (save_session c) (told.size d) (told.sectors d)
      → sectors_needed (save_session c) (image_system r.boot) r.schedule ≤ told.size d → DoesPlan (saves (save_session c) (image_system r.boot) r.schedule c.file) (as_outside shelf text told s o d) (as_outside shelf text told s1 o1 d1) (status_by answer)
  saved_does answer begun calls pasts room = by (told.sectors d) refl
    where
      by : (sectors : Option (List (List ℕ))) → told.sectors d ≡ sectors → DoesPlan (saves (save_session c) (image_system r.boot) r.schedule c.file) (as_outside shelf text told s o d) (as_outside shelf text told s1 o1 d1) (status_by answer)
      by (Some sectors) e =
          let run : Run = run_of (save_session c) (image_system r.boot) r.schedule (told.size d) sectors in
          let begin : List Call = session_load (save_session c) (image_system r.boot) r.schedule in
          let past = pasts sectors e tt room in
          let made = calls.exact begun sectors past.0 e past.1 in
          record {
            script = save_script c.file run begin past.0;
            due = run_status run past.0;
            asks = over_told sectors _ _ tt room e (record { past = past.0; is_past = past.1; script_is = refl; status_is = refl });
            blamed = of_answer answer;
            performs = made.0;
            joins = tt;
            status_is = told_status answer (due_stop run past.0) (run_status run past.0) begun made.1 (same_stop (has_ended run) (cvm_at run past.0 (steps_made run)).status);
          }
      by None e =
          let begin : List Call = session_load (save_session c) (image_system r.boot) r.schedule in
          let made = calls.some begun in
          let st = some_save c.file begin made.0 made.2 answer begun made.1 made.3 in
          record {
            script = begin ++ made.0 ++ made.2;
            due = st.due;
            asks = over_untold _ _ tt room e st.asks;
            blamed = of_answer answer;
            performs = made.4;
            joins = tt;
            status_is = st.is;
          }
