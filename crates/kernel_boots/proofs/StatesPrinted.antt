-- Traces, saves and resumes print the text of the state where their run stands.
use Rattle.std.proofs.Common.{◌≡◌, inl, inr, ℕ, zero, suc, ◌≤◌, List, ◌++◌, length, Bool, true, false, Option, Some, None, refl, sym, ap, ◌∙◌, subst, arith}
use Rattle.std.specs.Prelude.{◌≢◌, ◌⊎◌, if◌then◌else◌, option_map, is_some, not}
use Rattle.std.specs.Io.KnownBytes.{append_known}
use Rattle.schedule_file.specs.Rows.{Rows}
use Rattle.mips_table.specs.Device.{Environment}
use Rattle.mips_table.specs.Machine.{State, run}
use Rattle.mips_table.specs.Turns.{complete, end_within, lines_of_turn, is_end, IsTurnEnd, TurnLaws, SumLaws}
use Rattle.mips_table.specs.Flat.{Flat}
use Rattle.cvm_model.specs.Kernel.{JournalEntry}
use Rattle.cvm_model.specs.KernelMeaning.{UnitsReplay}
use Rattle.cvm_model.specs.Primitives.{user_of}
use Rattle.cvm_model.specs.Cvm.{System, Cvm, Status as CvmStatus, Running, Halted, Faulted, first_cvm, cvm, IsCvm}
use Rattle.cvm_model.specs.Invariant.{HasEight, RunsAreLawful}
use Rattle.cvm_model.specs.Journal.{journal, replay, Isolated}
use Rattle.cvm_model.specs.Text.{start_row, open_journal_rows, trace_text}
use Rattle.layer_contract.specs.Layer.{Rests}
use Rattle.boot_turns.specs.declared.answers.View.{View}
use Rattle.boot_turns.specs.declared.answers.View.TheVariants as view
use Rattle.boot_run.specs.declared.whole.RunEnd.{RunEnd}
use Rattle.boot_run.specs.declared.whole.RunEnd.TheVariants.{OutOfSteps}
use Rattle.boot_run.specs.RunCalls.{end_by}
use Rattle.run_scripts.specs.RunStatus.{status_of_end}
use Rattle.run_scripts.specs.RanFrom.{ending, TextAt, RanFrom}
use Rattle.boot_turns.specs.TurnEnds.{first_user_machine, Stood, Printed, TurnIsOver, RestsAfter}
use Rattle.boot_run.specs.RunEnds.{SeesUser}
use Rattle.boot_run.specs.RunScript.{saved_row}
use Rattle.boot_run.specs.SavedRuns.{SavedAt}
use Rattle.kernel_linker.specs.Accept.{ImageSystem}
use Rattle.run_scripts.specs.declared.exit_status.Status.{Status}
use Rattle.run_scripts.specs.declared.exit_status.Status.TheVariants as statuses
use Rattle.run_scripts.specs.declared.session.Session.{Session}
use Rattle.run_scripts.specs.Command.{Save, save_session}
use Rattle.cvm_outside.specs.Outside.{Outside}
use Rattle.run_scripts.specs.Boot.{booted, environment_of, start_state, sectors_needed, AreFilesOf, Headline}
use Rattle.run_scripts.specs.Isolation.{IsolatedTrace, session_lines}
use Rattle.run_scripts.specs.Saves.{Stopped, IsSavedIn, SaveHolds, as_boot, is_saved}
use Rattle.run_scripts.specs.Resumes.{IsBootBehind}
use Rattle.run_scripts.specs.CommandEnds.{EndsRest}
use Rattle.run_scripts.specs.Promises.{MachinesRest}
use Rattle.run_scripts.specs.SessionRuns.{run_of}
use Rattle.run_scripts.specs.AskedRuns.{EndIsOver}
use Rattle.kernel_boots.specs.Boots.{SessionStands, BootStands}
use Rattle.kernel_boots.specs.Stands.{entries_under_way, TraceTextOf, TraceStandsAt, TracesStand, SavedStands, SaveStands, SavesStand, ResumesStand, StatesRest}
use Rattle.kernel_boots.proofs.EightLines.{eight_of, turns_have_eight}
use Rattle.kernel_boots.proofs.StatesShown.{RunsAreOne, ones, stands, asked_eight}

-- THE STATUS of a run with no failed call
abbrev Allowed : Status → Type 0
Allowed statuses.Done = Unit {0}
Allowed statuses.KernelFault = Unit {0}
Allowed statuses.StepLimit = Unit {0}
Allowed other = ⊥

allowed : (b : Bool) (s : CvmStatus) → Allowed (status_of_end (end_by b s))
allowed true Running = tt
allowed true Halted = tt
allowed true (Faulted f) = tt
allowed false s = tt

-- where the steps ran out the text is what was shown so far
spent_text : (x : Environment) (y : System) (s : State) (v : View) (t : ℕ) (e : RunEnd) (text : List ℕ) → status_of_end e ≡ statuses.StepLimit → TextAt x y s v t e text → Printed x y s v t text
spent_text x y s v t OutOfSteps text e h = h
spent_text x y s v t other text e h = absurd (cc)

-- a status other than that has the whole text
whole_text : (u : ℕ) (first : Flat) (entries more : List JournalEntry) (status : Status) (c : Cvm) (text : List ℕ) → status ≢ statuses.StepLimit → text ≡ trace_text u first entries (user_of c.core.users u) c.status
    → TraceTextOf u first entries more status c text
whole_text u first entries more statuses.StepLimit c text isnt e = absurd (isnt refl)
whole_text u first entries more statuses.Done c text isnt e = e
whole_text u first entries more statuses.KernelFault c text isnt e = e
whole_text u first entries more other c text isnt e = e

some_same : {A : Type 0} (a b : A) → Some a ≡ Some b → a ≡ b
some_same a b e = cc

-- A TRACE
module _ (laws : RunsAreLawful) (replays : UnitsReplay) (isolated : Isolated) (session : Session) (u : ℕ) (s : ImageSystem) (rows : Rows) (before : List (List ℕ)) (status : Status) (old new : Outside)
    (user : (1 ≤ u) × (u ≤ length s.users)) (h : Headline session s rows before old new status) where
  abbrev x : Environment
  x = environment_of rows old

  abbrev y : System
  y = booted s rows

  abbrev m : State
  m = start_state session s rows before

  abbrev t : ℕ
  t = end_within x m session.turns session.steps

  abbrev Stands : List ℕ → Type 0
  Stands text = TraceStandsAt x y m session.turns session.steps u status text

  made : (c : Cvm) (units : ℕ) → cvm y (lines_of_turn x m) units (complete x m t) ≡ Some c → (text : List ℕ)
      → TraceTextOf u (first_user_machine y u) (journal y (lines_of_turn x m) units u (complete x m t)) (entries_under_way x y m units u t) status c text → Stands text
  made c units is text text_is =
      let same : h.ran.past ≡ c = ones laws s rows (lines_of_turn x m) (complete x m t) h.ran.past c h.ran.cvm (record { units = units; is = is }) in
      record {
        state = c;
        units = units;
        run = is;
        status_is = h.status_is ∙ ap status_of_end (h.ran.status ∙ ap (ending x m session.turns session.steps) same);
        replayed = isolated y (lines_of_turn x m) units (complete x m t) u c (replays s.unit s.params) user.0 user.1 is;
        text_is = text_is;
        few = h.ran.few;
        over = λ e. subst (λ (d : Cvm). (complete x m t ≡ session.turns) ⊎ (d.status ≢ Running)) same (h.ran.over e);
      }

  spent : session.view ≡ view.Trace u → status ≡ statuses.StepLimit → Stands h.text
  spent traced e =
      let so : Printed x y m session.view t h.text = spent_text x y m session.view t h.ending h.text (sym h.status_is ∙ e) h.ran.text_is in
      let (j, shown, text) = subst (λ (v : View). Printed x y m v t h.text) traced so in
      made shown.past shown.units shown.cvm h.text
      (subst (λ (z : Status). TraceTextOf u (first_user_machine y u) (journal y (lines_of_turn x m) shown.units u (complete x m t)) (entries_under_way x y m shown.units u t) z shown.past h.text) (sym e)
      (text ∙ ap (λ (k : List JournalEntry). start_row u (first_user_machine y u) ++ open_journal_rows k) shown.is))

  whole : status ≢ statuses.StepLimit → (a : IsolatedTrace session u s rows before old new status) → Stands a.text
  whole isnt a =
      let is : cvm y (lines_of_turn x m) a.units (complete x m t) ≡ Some a.last = subst (λ k. cvm y (lines_of_turn x m) a.units k ≡ Some a.last) a.turns_are a.run in
      let entries : a.entries ≡ journal y (lines_of_turn x m) a.units u (complete x m t) = a.entries_are ∙ ap (journal y (lines_of_turn x m) a.units u) a.turns_are in
      let last : replay (first_user_machine y u) (journal y (lines_of_turn x m) a.units u (complete x m t)) ≡ Some (user_of a.last.core.users u) = isolated y (lines_of_turn x m) a.units (complete x m t) u a.last (replays s.unit s.params) user.0 user.1 is in
      let told : option_map (λ last. trace_text u (first_user_machine y u) (journal y (lines_of_turn x m) a.units u (complete x m t)) last a.last.status) (replay (first_user_machine y u) (journal y (lines_of_turn x m) a.units u (complete x m t))) ≡ Some a.text =
      subst (λ j. option_map (λ last. trace_text u (first_user_machine y u) j last a.last.status) (replay (first_user_machine y u) j) ≡ Some a.text) entries a.text_is in
      let text : trace_text u (first_user_machine y u) (journal y (lines_of_turn x m) a.units u (complete x m t)) (user_of a.last.core.users u) a.last.status ≡ a.text =
      some_same _ _ (sym (ap (option_map (λ last. trace_text u (first_user_machine y u) (journal y (lines_of_turn x m) a.units u (complete x m t)) last a.last.status)) last) ∙ told) in
      made a.last a.units is a.text (whole_text u (first_user_machine y u) (journal y (lines_of_turn x m) a.units u (complete x m t)) (entries_under_way x y m a.units u t) status a.last a.text isnt (sym text))

  abbrev Shows : Type 0
  Shows = (text : List ℕ) × (new.sink.text ≡ append_known old.sink.text text) × Stands text

  shows : session.view ≡ view.Trace u → ((status ≡ statuses.Done) ⊎ (status ≡ statuses.KernelFault) → IsolatedTrace session u s rows before old new status) → Shows
  shows traced isolates = by status refl (subst Allowed (sym (h.status_is ∙ ap status_of_end h.ran.status)) (allowed (is_end x m session.turns t) h.ran.past.status))
    where
      other : (z : Status) → status ≡ z → (z ≡ statuses.StepLimit → ⊥) → status ≢ statuses.StepLimit
      other z e isnt limit = isnt (sym e ∙ limit)

      by : (z : Status) → status ≡ z → Allowed z → Shows
      by statuses.Done e ok = let a = isolates (inl e) in (a.text, a.printed, whole (other statuses.Done e (λ i. absurd (cc))) a)
      by statuses.KernelFault e ok = let a = isolates (inr e) in (a.text, a.printed, whole (other statuses.KernelFault e (λ i. absurd (cc))) a)
      by statuses.StepLimit e ok = (h.text, h.printed, spent traced e)
      by z e ok = absurd ok

pub traces_stand : RunsAreLawful → UnitsReplay → Isolated → TracesStand
traces_stand laws replays isolated words status old new headlines isolates session u s rows before honest some traced =
    let h : Headline session s rows before old new status = headlines session s rows before honest some in
    let user : (1 ≤ u) × (u ≤ length s.users) = subst (λ (v : View). SeesUser v (length s.users)) traced honest.user in
    let (text, printed, stands) = shows laws replays isolated session u s rows before status old new user h traced (λ ended. isolates session u s rows before honest traced ended) in
    record {
      text = text;
      printed = printed;
      stands = stands;
      eight = turns_have_eight (environment_of rows old) (start_state session s rows before) (asked_eight words old.shelf.file session s rows honest.asked old);
      goes_on = h.goes_on;
    }

-- A SAVE
files_eight : (file : List ℕ → Option (List ℕ)) (c : Save) (s : ImageSystem) (rows : Rows) (before : List (List ℕ)) (old : Outside) → AreFilesOf file c.boot s rows → HasEight (session_lines (save_session c) s rows old before)
files_eight file c s rows before old files = turns_have_eight (environment_of rows old) (start_state (save_session c) s rows before) (eight_of files.schedule rows files.valid)

-- a machine that is on rests in a running state
on_runs : (x : Environment) (s : State) (t : ℕ) (z : CvmStatus) → (run x s t).off ≡ None → Rests z (run x s t) → z ≡ Running
on_runs x s t Running on h = refl
on_runs x s t Halted on h = absurd (cc)
on_runs x s t (Faulted f) on h = absurd (cc)

stood_runs : (x : Environment) (y : System) (s : State) (k t : ℕ) (c : Cvm) → (run x s t).off ≡ None → Stood x y s k t c → c.status ≡ Running
stood_runs x y s zero t c on h = let is = h.cvm.is in let same : first_cvm y ≡ c = cc in sym (ap (λ (c : Cvm). c.status) same)
stood_runs x y s (suc k) t c on h = on_runs x s t c.status on h.rests.0

-- a headline of a boot stands
boot_stands : RunsAreLawful → (session : Session) (s : ImageSystem) (rows : Rows) (before : List (List ℕ)) (status : Status) (old new : Outside) → session.view ≡ view.Boot
    → Headline session s rows before old new status → BootStands session s rows before status old new
boot_stands laws session s rows before status old new seen h =
    let x = environment_of rows old in
    let y = booted s rows in
    let first = start_state session s rows before in
    let held = sectors_needed session s rows in
    let ran = subst (λ v. RanFrom x y first held before h.after v session.turns session.steps h.ending h.text) seen h.ran in
    record {
      text = h.text;
      printed = h.printed;
      stands = subst (λ (z : Status). SessionStands session s rows before old z h.text) (sym h.status_is) (stands x y (ones laws s rows) first held before h.after session.turns session.steps h.ending h.text ran);
      goes_on = h.goes_on;
    }

-- where so many turns are complete for the first time and the machine is on, it rests as the abstract run's state there says, by the end of the boot
stood_there : (x : Environment) (y : System) (s : State) → RunsAreOne y → TurnLaws → SumLaws → (turns steps at : ℕ) (past last : Cvm) → 1 ≤ turns → IsTurnEnd x s turns at → at ≤ steps → (run x s at).off ≡ None
    → IsCvm y (lines_of_turn x s) turns past → IsCvm y (lines_of_turn x s) (complete x s (end_within x s turns steps)) last
    → (is_end x s turns (end_within x s turns steps) ≡ true → TurnIsOver x y s turns (end_within x s turns steps) last) → Stood x y s turns at past
stood_there x y s one count sums zero steps at past last some end within on is last_is over = absurd (omega (arith, some))
stood_there x y s one count sums (suc few) steps at past last some end within on is last_is over =
    let there : end_within x s (suc few) steps ≡ at = count.ends x s (suc few) steps at end within in
    let all = sums.rests x s few at end (ap (λ (o : Option ℕ). not (is_some o)) on) in
    let over_there : TurnIsOver x y s (suc few) at last =
    subst (λ (n : ℕ). TurnIsOver x y s (suc few) n last) there (over (subst (λ (n : ℕ). is_end x s (suc few) n ≡ true) (sym there) end.here)) in
    let same : last ≡ past = one (lines_of_turn x s) (suc few) last past (subst (λ (k : ℕ). IsCvm y (lines_of_turn x s) k last) (ap (complete x s) there ∙ all.0) last_is) is in
    let rests : RestsAfter x y s (suc few) at past =
    subst (λ (d : Cvm). RestsAfter x y s (suc few) at d) same (subst (λ (k : ℕ). RestsAfter x y s k at last) all.0 over_there.rests) in
    record { cvm = is; turn = sym all.1 ∙ all.0; all = all.0; rests = rests }

saved_stands : RunsAreLawful → TurnLaws → SumLaws → (c : Save) (s : ImageSystem) (rows : Rows) (before : List (List ℕ)) (old new : Outside) → 1 ≤ c.boot.turns
    → EndIsOver (run_of (save_session c) s rows old.disk.size before) → Stopped (save_session c) s rows before old new (IsSavedIn c.file old new) → SavedStands c s rows before old new
saved_stands laws count sums c s rows before old new some rests h =
    let w : SavedAt (environment_of rows old) (booted s rows) (start_state (save_session c) s rows before) c.boot.turns c.boot.steps h.words h.after h.shown = h.saved_at in
    let stood : Stood (environment_of rows old) (booted s rows) (start_state (save_session c) s rows before) c.boot.turns w.at w.past =
    stood_there (environment_of rows old) (booted s rows) (start_state (save_session c) s rows before) (ones laws s rows) count sums c.boot.turns c.boot.steps w.at w.past h.ran.past some w.end w.within w.on w.cvm h.ran.cvm (rests h.ran.past h.ran.cvm) in
    record {
      state = w.past;
      is = w.cvm;
      running = stood_runs (environment_of rows old) (booted s rows) (start_state (save_session c) s rows before) c.boot.turns w.at w.past w.on stood;
      at = w.at;
      within = w.within;
      first = w.end;
      stood = stood;
      on = w.on;
      printed = h.left.1 ∙ ap (λ text. append_known old.sink.text (text ++ saved_row)) w.shown_is;
    }

save_stands : RunsAreLawful → TurnLaws → SumLaws → (c : Save) (s : ImageSystem) (rows : Rows) (before : List (List ℕ)) (status : Status) (old new : Outside) → 1 ≤ c.boot.turns → AreFilesOf old.shelf.file c.boot s rows
    → EndIsOver (run_of (save_session c) s rows old.disk.size before) → SaveHolds c s rows before old new status → SaveStands c s rows before status old new
save_stands laws count sums c s rows before status old new some files rests (as_boot h halted others) =
    record { shows = inl (boot_stands laws (save_session c) s rows before status old new refl h); eight = files_eight old.shelf.file c s rows before old files }
save_stands laws count sums c s rows before status old new some files rests (is_saved done others stopped) =
    record { shows = inr (done, saved_stands laws count sums c s rows before old new some rests stopped); eight = files_eight old.shelf.file c s rows before old files }

pub saves_stand : RunsAreLawful → TurnLaws → SumLaws → SavesStand
saves_stand laws count sums words status old new saves rest c s rows before honest some =
    save_stands laws count sums c s rows before status old new honest.asked.some_turns honest.files (rest.of_saves c s rows before honest some) (saves c s rows before honest some)

-- A RESUME
pub resumes_stand : RunsAreLawful → ResumesStand
resumes_stand laws words status old new resumes c s rows machine left before shown honest some w =
    let j : IsBootBehind c s rows before shown old old new status = (resumes c s rows machine left honest some).joins before shown w in
    record {
      text = j.text;
      printed = j.printed;
      stands = subst (λ (z : Status). SessionStands (save_session c) s rows before old z (shown ++ j.text)) (sym j.status_is)
          (stands (environment_of rows old) (booted s rows) (ones laws s rows) (start_state (save_session c) s rows before) (sectors_needed (save_session c) s rows) before j.after c.boot.turns c.boot.steps j.ending
          (shown ++ j.text) j.ran);
      eight = files_eight old.shelf.file c s rows before old honest.files;
      goes_on = j.goes_on;
    }

-- AT REST: the machine stands for the state that each of these has
pub states_rest : MachinesRest → StatesRest
states_rest law words status old new ends =
    let rest : EndsRest words status old new = law words old new status ends in
    record {
      of_boots = λ session s rows before honest some text w. rest.of_boots session s rows before honest some w.state w.is;
      of_traces = λ session u s rows before honest some a.
          rest.of_boots session s rows before honest some a.stands.state (record { units = a.stands.units; is = a.stands.run });
      of_saves = λ c s rows before honest some text w. rest.of_saves c s rows before honest some w.state w.is;
      of_resumes = λ c s rows machine left before shown honest some w a.
          rest.of_resumes c s rows machine left before shown honest some w a.stands.state a.stands.is;
    }
