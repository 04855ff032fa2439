-- What is done of the plan of a run, by the calls of the call that loads its system and runs it.
use Rattle.std.proofs.Common.{◌≡◌, ◌≢◌, ◌⊎◌, inl, inr, ℕ, ◌<◌, ◌≤◌, ◌++◌, true, false, List, length, refl, sym, ap, ◌∙◌, subst, Some, None, Ok, Err}
use Rattle.std.specs.Prelude.{Option, Result, OnErr}
use Rattle.cvm_outside.specs.Outside.{Outside, Files, Drive, output, drive}
use Rattle.cvm_outside.specs.Script.{Call, Who}
use Rattle.cvm_outside.specs.declared.sink.Sink as sink_of
use Rattle.cvm_outside.specs.declared.sectors.Sectors as sectors_of
use Rattle.schedule_file.specs.Rows.{Rows}
use Rattle.cvm_model.specs.Cvm.{System}
use Rattle.boot_turns.specs.Runs.{Run}
use Rattle.boot_turns.specs.declared.answers.View.TheVariants as view
use Rattle.boot_run.specs.declared.load.LoadFault.{LoadFault}
use Rattle.boot_run.specs.declared.load.LoadFault.TheVariants as load
use Rattle.boot_run.specs.declared.whole.RunEnd.{RunEnd}
use Rattle.boot_run.specs.declared.whole.RunEnd.TheVariants as ends
use Rattle.boot_run.specs.Closing.{says}
use Rattle.boot_run.specs.LoadEnds.{HasDiskRoom, LoadFails}
use Rattle.boot_run.specs.LoadScript.{load_script}
use Rattle.boot_run.specs.Pasts.{HavePasts}
use Rattle.boot_run.specs.RunCalls.{WholeScript, loads, of_end, of_answer, EndIsDue, due_end}
use Rattle.boot_run.specs.RunEnds.{SeesUser}
use Rattle.boot_run.specs.RunScript.{run_script}
use Rattle.kernel_linker.specs.Accept.{ImageSystem, image_system}
use Rattle.run_scripts.specs.declared.exit_status.Status.{Status}
use Rattle.run_scripts.specs.declared.exit_status.Status.TheVariants.{Done, Refused, KernelFault, StepLimit, Disk}
use Rattle.cvm_shell.specs.declared.boot.Ready.{Ready}
use Rattle.run_scripts.specs.declared.session.Session.{Session}
use Rattle.run_scripts.specs.declared.session.StartPoint.{StartPoint}
use Rattle.run_scripts.specs.Boot.{booted, held_of, sectors_needed, start_of}
use Rattle.run_scripts.specs.Refusal.{small_disk, no_such_user, refusal_text}
use Rattle.run_scripts.specs.Plan.{Plan, boots, saves}
use Rattle.run_scripts.specs.SessionRuns.{pages_loaded, run_of}
use Rattle.run_scripts.specs.RunStatus.{run_status, status_of_end}
use Rattle.run_scripts.specs.Ends.{PlanAsks, Joins, no_user, small, over_told, over_untold, session_load, answered}
use Rattle.cvm_shell.specs.Does.{Acts, SaysFault, SaysEnd, DoesPlan, DoesOrWants, SessionCalls, SessionPasts}
use Rattle.cvm_shell.specs.Stages.{session_needs, CallAnswers}
use Rattle.cvm_shell.proofs.GotCalls.{beside}
use Rattle.cvm_shell.proofs.StageEnds.{acted}
use Rattle.cvm_shell.proofs.StartAnswers.{from, same_sight, same_count}

-- FOR ITS SESSION'S START: the calls, and the abstract run
module _ {need : ℕ} (r : Ready) (session : Session) (start : StartPoint) (same : need ≡ held_of start (booted (image_system r.boot) r.schedule)) (is : session.start ≡ start) where
  abbrev y : System
  y = booted (image_system r.boot) r.schedule

  pub calls_from : {O D : Type 0} (text : sink_of.Ghosts O) (told : sectors_of.Ghosts D) (answer : Result RunEnd LoadFault) (old new : O × D)
      → WholeScript text told y r.schedule (start_of start y) session.view session.turns session.steps (load_script (pages_loaded start y) need) old new answer → SessionCalls text told r session answer old new
  calls_from text told answer old new w =
      subst (λ (a : StartPoint). SessionCalls text told r (from a session) answer old new) (sym is)
      (subst (λ (n : ℕ). WholeScript text told y r.schedule (start_of start y) session.view session.turns session.steps (load_script (pages_loaded start y) n) old new answer) same w)

  pub pasts_from : (size : ℕ) (told : Option (List (List ℕ))) → HavePasts r.boot r.schedule size need (start_of start y) told → SessionPasts r session size told
  pasts_from size told have =
      subst (λ (a : StartPoint). SessionPasts r (from a session) size told) (sym is)
      (λ sectors e sees room. have sectors session.view session.turns session.steps e (subst (λ (n : ℕ). n ≤ size) (sym same) room) sees)

-- THE STATUS of an end is the one that is due, or that of the object that failed
pub by_end : (e due : RunEnd) (status : Status) → (of_end e ≡ None → e ≡ due) → status_of_end due ≡ status → status_of_end e ≡ answered status (of_end e)
by_end ends.Done due status is same = ap status_of_end (is refl) ∙ same
by_end ends.Stopped due status is same = ap status_of_end (is refl) ∙ same
by_end ends.KernelFaulted due status is same = ap status_of_end (is refl) ∙ same
by_end ends.OutOfSteps due status is same = ap status_of_end (is refl) ∙ same
by_end ends.DiskFault due status is same = refl
by_end ends.SinkFault due status is same = refl
by_end ends.ShelfFault due status is same = refl

-- and so is that of an answer, of a run that was begun
abbrev pub status_by : Result RunEnd LoadFault → Status
status_by (Ok end) = status_of_end end
status_by (Err fault) = Disk

pub told_status : (answer : Result RunEnd LoadFault) (due : RunEnd) (status : Status) → loads answer ≡ true → (of_answer answer ≡ None → EndIsDue answer due) → status_of_end due ≡ status
    → status_by answer ≡ answered status (of_answer answer)
told_status (Ok end) due status begun is same = by_end end due status is same
told_status (Err load.Disk) due status begun is same = refl
told_status (Err load.Memory) due status begun is same = absurd (cc)
told_status (Err (load.SmallDisk need have)) due status begun is same = absurd (cc)
told_status (Err (load.NoSuchUser user users)) due status begun is same = absurd (cc)

-- over sectors that aren't told, what an answer tells of it
pub record SomeStatus (answer : Result RunEnd LoadFault) : Type 0 where
  pub due : Status
  pub one : due ≡ Done ⊎ (due ≡ KernelFault ⊎ due ≡ StepLimit)
  pub is : status_by answer ≡ answered due (of_answer answer)

pub some_status : (answer : Result RunEnd LoadFault) → loads answer ≡ true → SomeStatus answer
some_status (Ok ends.Done) begun = record { due = Done; one = inl refl; is = refl }
some_status (Ok ends.Stopped) begun = record { due = Done; one = inl refl; is = refl }
some_status (Ok ends.KernelFaulted) begun = record { due = KernelFault; one = inr (inl refl); is = refl }
some_status (Ok ends.OutOfSteps) begun = record { due = StepLimit; one = inr (inr refl); is = refl }
some_status (Ok ends.DiskFault) begun = record { due = Done; one = inl refl; is = refl }
some_status (Ok ends.SinkFault) begun = record { due = Done; one = inl refl; is = refl }
some_status (Ok ends.ShelfFault) begun = record { due = Done; one = inl refl; is = refl }
some_status (Err load.Disk) begun = record { due = Done; one = inl refl; is = refl }
some_status (Err load.Memory) begun = absurd (cc)
some_status (Err (load.SmallDisk need have)) begun = absurd (cc)
some_status (Err (load.NoSuchUser user users)) begun = absurd (cc)

-- A RUN WAS BEGUN
module _ {O D : Type 0} (text : sink_of.Ghosts O) (told : sectors_of.Ghosts D) (r : Ready) (session : Session) (out reout : O) (disk redisk : D) (shelf : Files) where
  abbrev s : ImageSystem
  s = image_system r.boot

  abbrev before : Outside
  before = record { shelf = shelf; sink = output text out; disk = drive told disk }

  abbrev after : Outside
  after = record { shelf = shelf; sink = output text reout; disk = drive told redisk }

  pub begun_does : (answer : Result RunEnd LoadFault) → loads answer ≡ true → SessionCalls text told r session answer (out, disk) (reout, redisk) → SessionPasts r session (told.size disk) (told.sectors disk)
      → SeesUser session.view (length s.users) → sectors_needed session s r.schedule ≤ told.size disk → DoesPlan (boots session s r.schedule) before after (status_by answer)
  begun_does answer begun calls pasts sees room = by (told.sectors disk) refl
    where
      by : (sectors : Option (List (List ℕ))) → told.sectors disk ≡ sectors → DoesPlan (boots session s r.schedule) before after (status_by answer)
      by (Some sectors) e =
          let run : Run = run_of session s r.schedule (told.size disk) sectors in
          let past = pasts sectors e sees room in
          let made = calls.exact begun sectors past.0 e past.1 in
          record {
            script = run_script run (session_load session s r.schedule) past.0;
            due = run_status run past.0;
            asks = over_told sectors _ _ sees room e (record { past = past.0; is_past = past.1; script_is = refl; status_is = refl });
            blamed = of_answer answer;
            performs = made.0 shelf;
            joins = tt;
            status_is = told_status answer (due_end run past.0) (run_status run past.0) begun made.1 refl;
          }
      by None e =
          let made = calls.some begun in
          let st = some_status answer begun in
          record {
            script = session_load session s r.schedule ++ made.0;
            due = st.due;
            asks = over_untold _ _ sees room e (made.0, made.1, refl, st.one);
            blamed = of_answer answer;
            performs = made.2 shelf;
            joins = tt;
            status_is = st.is;
          }

-- A RUN WAS REFUSED: of a disk that is too small
pub named : (session : Session) (s : ImageSystem) (rows : Rows) (need have : ℕ) (old new : Outside) (status : Status) → need ≡ sectors_needed session s rows → have ≡ old.disk.size
    → Acts (says (refusal_text (small_disk need have))) Disk old new status → Acts (says (refusal_text (small_disk (sectors_needed session s rows) old.disk.size))) Disk old new status
named session s rows need have old new status needed size acts =
    let A : ℕ → ℕ → Type 0 = λ n h. Acts (says (refusal_text (small_disk n h))) Disk old new status in
    subst (λ (n : ℕ). A n old.disk.size) needed (subst (A need) size acts)

-- THE PLAN of a session's run: a boot, or a save to the file of this name
abbrev pub run_plan : Session → ImageSystem → Rows → (put : Option (List ℕ)) → Plan
run_plan session s rows None = boots session s rows
run_plan session s rows (Some name) = saves session s rows name

module _ (session : Session) (s : ImageSystem) (rows : Rows) (put : Option (List ℕ)) (old new : Outside) (status : Status) where
  joins_any : (put : Option (List ℕ)) (blamed : Option Who) (due : Status) → Joins (run_plan session s rows put) old new blamed due
  joins_any None blamed due = tt
  joins_any (Some name) blamed due = tt

  asks_more : (put : Option (List ℕ)) → SeesUser session.view (length s.users) → old.disk.size < sectors_needed session s rows
      → PlanAsks (run_plan session s rows put) old (says (refusal_text (small_disk (sectors_needed session s rows) old.disk.size))) Disk
  asks_more None sees less = small sees less
  asks_more (Some name) sees less = small sees less

  asks_other : (put : Option (List ℕ)) (u : ℕ) → session.view ≡ view.Trace u → (SeesUser session.view (length s.users) → ⊥)
      → PlanAsks (run_plan session s rows put) old (says (refusal_text (no_such_user u (length s.users)))) Refused
  asks_other None u traced none = no_user u traced none
  asks_other (Some name) u traced none = no_user u traced none

  small_does : (need have : ℕ) → SeesUser session.view (length s.users) → need ≡ sectors_needed session s rows → have ≡ old.disk.size → have < sectors_needed session s rows
      → Acts (says (refusal_text (small_disk need have))) Disk old new status → DoesPlan (run_plan session s rows put) old new status
  small_does need have sees needed size less acts =
      acted (run_plan session s rows put) _ Disk old new status (asks_more put sees (subst (λ (h : ℕ). h < sectors_needed session s rows) size less)) (λ blamed. joins_any put blamed Disk) (named session s rows need have old new status needed size acts)

  -- of a user that there is none
  user_does : (u users : ℕ) → users ≡ length s.users → session.view ≡ view.Trace u → (SeesUser session.view users → ⊥)
      → Acts (says (refusal_text (no_such_user u users))) Refused old new status → DoesPlan (run_plan session s rows put) old new status
  user_does u users count traced none acts =
      let P : ℕ → Type 0 = λ n. (SeesUser session.view n → ⊥) × Acts (says (refusal_text (no_such_user u n))) Refused old new status in
      let given : P (length s.users) = subst P count (none, acts) in
      acted (run_plan session s rows put) _ Refused old new status (asks_other put u traced given.0) (λ blamed. joins_any put blamed Refused) given.1

abbrev as_err : (A : Type 0) → LoadFault → Result A LoadFault
as_err A f = Err f

pub one_err : {A : Type 0} (f g : LoadFault) → as_err A f ≡ as_err A g → f ≡ g
one_err f g e = cc

-- nothing was called where nothing is loaded, as it is seen
pub unmoved : {X : Type 0} {old new : X} (answer : Result RunEnd LoadFault) → (loads answer ≡ false → new ≡ old) → (see : X → Outside) → answer ≢ Err load.Disk → OnErr answer (see new ≡ see old)
unmoved (Ok x) none see other = tt
unmoved (Err load.Disk) none see other = absurd (other refl)
unmoved (Err load.Memory) none see other = ap see (none refl)
unmoved (Err (load.SmallDisk need have)) none see other = ap see (none refl)
unmoved (Err (load.NoSuchUser user users)) none see other = ap see (none refl)

-- WHAT WAS SAID of a run, beside these files and this disk
module _ {O : Type 0} (text : sink_of.Ghosts O) (r : Ready) (session : Session) (put : Option (List ℕ)) (shelf : Files) (disk : Drive) (o o' : O) (old : Outside) (status : Status) where
  abbrev p : Plan
  p = run_plan session (image_system r.boot) r.schedule put

  abbrev at : O → Outside
  at x = beside (output text x) disk shelf

  -- it was begun, and the status alone tells how it ended
  as_begun : (due : Status) → DoesPlan p old (at o) due → (o' ≡ o) × (status ≡ due) → DoesPlan p old (at o') status
  as_begun due d (same, is) = subst (λ (x : O). DoesPlan p old (at x) status) (sym same) (subst (DoesPlan p old (at o)) (sym is) d)

  -- a row was printed where nothing was called before
  from_old : (script : List Call) (due : Status) → at o ≡ old → Acts script due (at o) (at o') status → Acts script due old (at o') status
  from_old script due e acts = subst (λ (x : Outside). Acts script due x (at o') status) e acts

  pub fault_said : (f : LoadFault) → LoadFails r.boot session.view (session_needs r session) old.disk.size f
      → (f ≡ load.Disk → HasDiskRoom r.boot session.view (session_needs r session) old.disk.size → DoesPlan p old (at o) Disk) → (f ≢ load.Disk → at o ≡ old) → SaysFault text f o o' status → DoesOrWants p old (at o') status
  fault_said load.Disk fails begun still said = inl (as_begun Disk (begun refl fails) said)
  fault_said load.Memory fails begun still (same, is) = inr (is, ap at same ∙ still (λ e. cc))
  fault_said (load.SmallDisk need have) fails begun still said =
      inl (small_does session (image_system r.boot) r.schedule put old (at o') status need have (same_sight r.boot session.view fails.0) fails.1 fails.2 fails.3
      (from_old (says (refusal_text (small_disk need have))) Disk (still (λ e. cc)) (said shelf disk)))
  fault_said (load.NoSuchUser u users) fails begun still said =
      inl (user_does session (image_system r.boot) r.schedule put old (at o') status u users (fails.1 ∙ same_count r.boot) fails.0 fails.2
      (from_old (says (refusal_text (no_such_user u users))) Refused (still (λ e. cc)) (said shelf disk)))

  pub end_said : (answer : Result RunEnd LoadFault) → CallAnswers r session old.disk.size answer → (loads answer ≡ true → HasDiskRoom r.boot session.view (session_needs r session) old.disk.size → DoesPlan p old (at o) (status_by answer))
      → (answer ≢ Err load.Disk → OnErr answer (at o ≡ old)) → SaysEnd text answer o o' status → DoesOrWants p old (at o') status
  end_said (Ok end) a begun still said = inl (as_begun (status_of_end end) (begun refl a.loaded) said)
  end_said (Err f) a begun still said =
      fault_said f a.refused (λ e. begun (ap (λ (g : LoadFault). loads {T = RunEnd} (Err g)) e)) (λ other. still (λ e. other (one_err f load.Disk e))) said
