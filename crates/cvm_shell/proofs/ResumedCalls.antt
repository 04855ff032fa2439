-- What is done of the plan of a resume, by the calls of the call that takes its machine up and goes on with it.
use Rattle.std.proofs.Common.{◌≡◌, ◌≢◌, ◌⊎◌, inl, inr, ℕ, ◌+◌, ◌-◌, ◌<◌, ◌≤◌, List, ◌++◌, refl, sym, ap, ◌∙◌, ap₂, subst, Some, None, Ok, Err, arith}
use Rattle.std.specs.Prelude.{Option, Result, slice_index}
use Rattle.std.specs.List.{flat_map}
use Rattle.cvm_words.specs.Bytes.{word}
use Rattle.cvm_outside.specs.Outside.{Outside, Files, output, drive}
use Rattle.cvm_outside.specs.Script.{Call, Performs}
use Rattle.cvm_outside.specs.declared.sink.Sink as sink_of
use Rattle.cvm_outside.specs.declared.sectors.Sectors as sectors_of
use Rattle.mips_machine.specs.Steps.{outside_of}
use Rattle.saved_file.specs.Resumable.{CanBeResumed}
use Rattle.saved_file.specs.Answer.{answer as machine_of}
use Rattle.saved_file.specs.declared.fault.SaveFault.{SaveFault}
use Rattle.saved_file.specs.declared.fault.SaveFault.TheVariants as saving
use Rattle.schedule_file.specs.Rows.{Rows}
use Rattle.layer_contract.specs.Boots.{boot_of}
use Rattle.boot_turns.specs.Runs.{Run, turns_at, state_at, steps_made, has_ended}
use Rattle.boot_turns.specs.declared.answers.View.TheVariants as view
use Rattle.boot_run.specs.declared.whole.RunEnd.{RunEnd}
use Rattle.boot_run.specs.AnyScripts.{power_end, untold_rest}
use Rattle.boot_run.specs.Closing.{says}
use Rattle.boot_run.specs.Loading.{system_of as loaded_system}
use Rattle.boot_run.specs.LoadEnds.{pages_needed}
use Rattle.boot_run.specs.RunCalls.{run_at, of_end, due_end}
use Rattle.boot_run.specs.RunScript.{rest_script}
use Rattle.boot_run.specs.SavedFiles.{wanted_of}
use Rattle.machine_save.specs.ResumeCalls.{ResumeScript}
use Rattle.machine_save.specs.ResumeRun.{ResumeAnswers}
use Rattle.machine_save.specs.declared.resuming.ResumeFault.TheVariants as fault
use Rattle.kernel_linker.specs.Accept.{ImageSystem, image_system}
use Rattle.run_scripts.specs.declared.exit_status.Status.{Status}
use Rattle.run_scripts.specs.declared.exit_status.Status.TheVariants.{Refused, Disk, Memory}
use Rattle.cvm_shell.specs.declared.boot.Ready.{Ready}
use Rattle.run_scripts.specs.declared.session.Session.{Session}
use Rattle.cvm_shell.specs.declared.resuming.Resumable.{Resumable}
use Rattle.cvm_shell.specs.declared.boot.Stop.{Stop}
use Rattle.cvm_shell.specs.declared.boot.Stop.TheVariants as Stops
use Rattle.cvm_shell.specs.declared.refusal.Refusal.TheVariants as by
use Rattle.run_scripts.specs.Boot.{sectors_needed}
use Rattle.run_scripts.specs.Command.{Save, save_session}
use Rattle.run_scripts.specs.Plan.{Plan, bad_words, refuses, resumes, taken_plan}
use Rattle.run_scripts.specs.Refusal.{bad_save, small_disk, too_long, refusal_text}
use Rattle.run_scripts.specs.RunStatus.{power_status, run_status, status_of_end}
use Rattle.run_scripts.specs.SessionRuns.{run_of}
use Rattle.cvm_shell.specs.Stages.{resumable_for, save_stop, resume_stop}
use Rattle.run_scripts.specs.Ends.{small, over_told, over_untold, SavedRun, Joins, answered}
use Rattle.cvm_shell.specs.Does.{Acts, SaysAs, SaysStop, DoesPlan, DoesOrWants}
use Rattle.machine_save.specs.declared.resuming.ResumeFault.{ResumeFault}
use Rattle.cvm_shell.proofs.StartAnswers.{same_need}
use Rattle.cvm_shell.proofs.GotCalls.{beside}
use Rattle.cvm_shell.proofs.StageEnds.{acted, refusal_plan}
use Rattle.cvm_shell.proofs.SystemCalls.{by_end, some_status, named}

-- what the bytes are answered by tells the plan
pub answered_so : (r : Resumable) (c : Save) (P : Plan → Type 0) (a : Result (List ℕ) SaveFault) → machine_of (wanted_of (boot_of r.ready.boot) r.ready.schedule.inputs c.boot.turns) r.bytes.items ≡ a
    → P (taken_plan (save_session c) (image_system r.ready.boot) r.ready.schedule a) → P (resumable_for c r)
answered_so r c P a e h =
    subst (λ (x : Result (List ℕ) SaveFault). P (taken_plan (save_session c) (image_system r.ready.boot) r.ready.schedule x)) (sym e) h

-- the plan is of a command, and refuses no file that is too long
pub taken_words : (session : Session) (s : ImageSystem) (rows : Rows) (a : Result (List ℕ) SaveFault) → taken_plan session s rows a ≢ bad_words
taken_words session s rows (Ok words) e = cc
taken_words session s rows (Err f) e = cc

pub taken_short : (session : Session) (s : ImageSystem) (rows : Rows) (a : Result (List ℕ) SaveFault) → taken_plan session s rows a ≢ refuses too_long
taken_short session s rows (Ok words) e = cc
taken_short session s rows (Err f) e = cc

not_told : (left : List (List ℕ)) → None ≡ Some left → ⊥
not_told left e = cc

-- A MACHINE WAS TAKEN UP, and its run went on
module _ {O D : Type 0} (text : sink_of.Ghosts O) (told : sectors_of.Ghosts D) (r : Ready) (c : Save) (bytes words : List ℕ) (out reout : O) (disk redisk : D) (shelf : Files) (e : RunEnd)
    (spells : bytes ≡ flat_map word words) (can : CanBeResumed (wanted_of (boot_of r.boot) r.schedule.inputs c.boot.turns) words) (room : pages_needed r.boot ≤ told.size disk)
    (script : ResumeScript text told r.boot r.schedule c.boot.turns c.boot.steps bytes (out, disk) (reout, redisk) (Ok e)) where
  abbrev s : ImageSystem
  s = image_system r.boot

  abbrev before : Outside
  before = record { shelf = shelf; sink = output text out; disk = drive told disk }

  abbrev after : Outside
  after = record { shelf = shelf; sink = output text reout; disk = drive told redisk }

  enough : sectors_needed (save_session c) s r.schedule ≤ told.size disk
  enough = subst (λ (n : ℕ). n ≤ told.size disk) (same_need r.boot r.schedule) room

  -- what is left of each run that was saved so
  rest_of : (due : Status) → status_of_end e ≡ answered due (of_end e) → Joins (resumes (save_session c) s r.schedule words) before after (of_end e) due
  rest_of due stands = λ left run past made fits is a.
      let q : Run = run_of (save_session c) s r.schedule (told.size disk) a.sectors in
      let P : Run → Type 0 = λ x. SavedRun (save_session c) s r.schedule words (told.size disk) left x past made → Performs (rest_script x past made) before after (of_end e)
      × (answered due (of_end e) ≡ answered (run_status x past) (of_end e)) in
      subst P (sym a.run_is) (λ b.
      let turns : slice_index words 5 ≡ turns_at q made = ap (λ (ws : List ℕ). slice_index ws 5) b.saved.words_are in
      let h = script.rest a.sectors left words past made room a.disk is spells b.saved
      (subst (λ (n : ℕ). 1 ≤ n) turns can.a_turn) (subst (λ (n : ℕ). n ≤ c.boot.turns) turns can.turns) in
      (h.made shelf, sym stands ∙ by_end e (due_end q past) (run_status q past) h.is refl)) a

  pub went_on_does : machine_of (wanted_of (boot_of r.boot) r.schedule.inputs c.boot.turns) bytes ≡ Ok words → DoesPlan (resumes (save_session c) s r.schedule words) before after (status_of_end e)
  went_on_does is = of (told.sectors disk) refl
    where
      of : (sectors : Option (List (List ℕ))) → told.sectors disk ≡ sectors → DoesPlan (resumes (save_session c) s r.schedule words) before after (status_of_end e)
      of (Some left) t =
          let f = script.untold words left is t in
          let run : Run = run_at (outside_of r.schedule (told.size disk)) (loaded_system r.boot r.schedule) f.machine view.Boot (c.boot.turns - f.finished) (c.boot.steps - f.machine.time) in
          let off : Option ℕ = (state_at run (steps_made run)).off in
          let stands : status_of_end e ≡ answered (power_status (has_ended run) off) (of_end e) =
          by_end e (power_end run) (power_status (has_ended run) off) f.ends.ends.is refl in
          record {
            script = untold_rest run 0 ++ f.ends.report;
            due = power_status (has_ended run) off;
            asks = over_told left _ _ tt enough t (record {
              run = run;
              goes_on = record { machine = f.machine; done = f.finished; user = f.user; ready = f.named.ready; named = f.named.words_are; over = f.named.sectors_are; is = refl };
              report = f.ends.report;
              is_report = f.ends.is_report;
              script_is = refl;
              status_is = refl;
            });
            blamed = of_end e;
            performs = f.ends.ends.made shelf;
            joins = rest_of (power_status (has_ended run) off) stands;
            status_is = stands;
          }
      of None t =
          let st = some_status (Ok e) refl in
          record {
            script = script.some.0;
            due = st.due;
            asks = over_untold _ _ tt enough t (script.some.0, script.some.1, refl, st.one);
            blamed = of_end e;
            performs = script.some.2 shelf;
            joins = λ left run past made fits is a. absurd (not_told left (sym t ∙ is));
            status_is = st.is;
          }

-- of the bytes of a file
pub taken_does : {O D : Type 0} (text : sink_of.Ghosts O) (told : sectors_of.Ghosts D) (r : Resumable) (c : Save) (out reout : O) (disk redisk : D) (shelf : Files) (e : RunEnd) →
    ResumeAnswers r.ready.boot r.ready.schedule c.boot.turns (told.size disk) r.bytes.items (Ok e) →
    ResumeScript text told r.ready.boot r.ready.schedule c.boot.turns c.boot.steps r.bytes.items (out, disk) (reout, redisk) (Ok e) →
    DoesPlan (resumable_for c r) (record { shelf = shelf; sink = output text out; disk = drive told disk }) (record { shelf = shelf; sink = output text reout; disk = drive told redisk }) (status_of_end e)
taken_does text told r c out reout disk redisk shelf e (words, (a, spells, can, room)) script =
    answered_so r c (λ (p : Plan). DoesPlan p (record { shelf = shelf; sink = output text out; disk = drive told disk }) (record { shelf = shelf; sink = output text reout; disk = drive told redisk }) (status_of_end e))
    (Ok words) a (went_on_does text told r.ready c r.bytes.items words out reout disk redisk shelf e spells can room script a)

-- a sink and a disk that stay both
module _ {O D : Type 0} (out reout : O) (disk redisk : D) where
  pub stay_both : ◌≡◌ {A = O × D} (reout, redisk) (out, disk) → (redisk ≡ disk) × (reout ≡ out)
  stay_both e = (ap (λ (q : O × D). q.1) e, ap (λ (q : O × D). q.0) e)

-- a fault of a file is want of memory, or it is refused
save_stops : (f : SaveFault) → (f ≡ saving.Memory) ⊎ ((f ≢ saving.Memory) × (save_stop f ≡ Stops.Refused (by.BadSave f)))
save_stops saving.Magic = inr (λ e. cc, refl)
save_stops (saving.Truncated at) = inr (λ e. cc, refl)
save_stops (saving.Trailing at) = inr (λ e. cc, refl)
save_stops (saving.Field place value) = inr (λ e. cc, refl)
save_stops (saving.ForgedWord place stored made) = inr (λ e. cc, refl)
save_stops (saving.SizeTooLarge user pages) = inr (λ e. cc, refl)
save_stops (saving.TurnsDone done wanted) = inr (λ e. cc, refl)
save_stops (saving.SaveTooLarge bytes) = inr (λ e. cc, refl)
save_stops saving.Memory = inl refl

-- IT WAS REFUSED: by a fault of the file, or want of memory
file_does : (r : Resumable) (c : Save) (old new : Outside) (f : SaveFault) (status : Status) → ResumeAnswers r.ready.boot r.ready.schedule c.boot.turns old.disk.size r.bytes.items (Err (fault.Save f))
    → f ≢ saving.Memory → Acts (says (refusal_text (bad_save f))) Refused old new status → DoesPlan (resumable_for c r) old new status
file_does r c old new f status (inl e) other acts = absurd (other e)
file_does r c old new f status (inr a) other acts = answered_so r c (λ (p : Plan). DoesPlan p old new status) (Err f) a (refusal_plan (by.BadSave f) old new status acts)

-- or for a disk that is too small
small_resume : (r : Resumable) (c : Save) (old new : Outside) (need have : ℕ) (status : Status) → ResumeAnswers r.ready.boot r.ready.schedule c.boot.turns old.disk.size r.bytes.items (Err (fault.SmallDisk need have))
    → Acts (says (refusal_text (small_disk need have))) Disk old new status → DoesPlan (resumable_for c r) old new status
small_resume r c old new need have status (words, a, n, h, less) acts =
    let session : Session = save_session c in
    let s : ImageSystem = image_system r.ready.boot in
    let needed : need ≡ sectors_needed session s r.ready.schedule = n ∙ same_need r.ready.boot r.ready.schedule in
    let few : old.disk.size < sectors_needed session s r.ready.schedule = subst (λ (k : ℕ). old.disk.size < k) needed (subst (λ (k : ℕ). k < need) h less) in
    answered_so r c (λ (p : Plan). DoesPlan p old new status) (Ok words) a
    (acted (resumes session s r.ready.schedule words) _ Disk old new status (small tt few) (λ blamed left run past made fits is b. absurd (omega (arith, few, fits)))
    (named session s r.ready.schedule need have old new status needed h acts))

-- and it was said why
module _ {O D : Type 0} (text : sink_of.Ghosts O) (told : sectors_of.Ghosts D) (r : Resumable) (c : Save) (o o1 o2 : O) (d d1 : D) (shelf : Files) (status : Status) (same : d1 ≡ d) (unprinted : o1 ≡ o) where
  abbrev at : O → D → Outside
  at x y = beside (output text x) (drive told y) shelf

  still : at o1 d1 ≡ at o d
  still = ap₂ at unprinted same

  said_from : (script : List Call) (due : Status) → Acts script due (at o1 d1) (at o2 d1) status → Acts script due (at o d) (at o2 d1) status
  said_from script due acts = subst (λ (x : Outside). Acts script due x (at o2 d1) status) still acts

  of_file : (f : SaveFault) → ResumeAnswers r.ready.boot r.ready.schedule c.boot.turns (told.size d) r.bytes.items (Err (fault.Save f)) → SaysStop text (save_stop f) o1 o2 status
      → (f ≡ saving.Memory) ⊎ ((f ≢ saving.Memory) × (save_stop f ≡ Stops.Refused (by.BadSave f))) → DoesOrWants (resumable_for c r) (at o d) (at o2 d1) status
  of_file f answers said (inl e) =
      let want : (o2 ≡ o1) × (status ≡ Memory) = subst (λ (x : SaveFault). SaysStop text (save_stop x) o1 o2 status) e said in
      inr (want.1, ap (λ (x : O). at x d1) want.0 ∙ still)
  of_file f answers said (inr (other, e)) =
      let row : SaysAs text Refused (refusal_text (bad_save f)) o1 o2 status = subst (λ (x : Stop). SaysStop text x o1 o2 status) e said in
      inl (file_does r c (at o d) (at o2 d1) f status answers other (said_from _ Refused (row shelf (drive told d1))))

  pub untaken_does : (f : ResumeFault) → ResumeAnswers r.ready.boot r.ready.schedule c.boot.turns (told.size d) r.bytes.items (Err f) → SaysStop text (resume_stop f) o1 o2 status
      → DoesOrWants (resumable_for c r) (at o d) (at o2 d1) status
  untaken_does (fault.SmallDisk need have) answers said = inl (small_resume r c (at o d) (at o2 d1) need have status answers (said_from _ Disk (said shelf (drive told d1))))
  untaken_does (fault.Save f) answers said = of_file f answers said (save_stops f)
