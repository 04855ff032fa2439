-- The promises of a run, from the laws: its premises ask for the run, and no call failed.
use Rattle.std.specs.Prelude.{Option, Some, IfSome, if◌then◌else◌}
use Rattle.std.specs.Option.{option_map}
use Rattle.std.proofs.Common.{◌≡◌, ◌≢◌, ◌⊎◌, inl, inr, ℕ, Bool, true, false, List, refl, sym, ap, ◌∙◌, subst, arith}
use Rattle.cvm_outside.specs.Outside.{Outside}
use Rattle.cvm_outside.specs.ScriptLaws.{ScriptsBlame}
use Rattle.schedule_file.specs.Rows.{Rows}
use Rattle.mips_table.specs.Flat.{Flat}
use Rattle.cvm_model.specs.Cvm.{Cvm, Status as CvmStatus, Running, Halted, Faulted}
use Rattle.cvm_model.specs.Kernel.{JournalEntry}
use Rattle.cvm_model.specs.Journal.{replay, Isolated as ReplaysUsers}
use Rattle.cvm_model.specs.Primitives.{user_of}
use Rattle.cvm_model.specs.Text.{trace_text}
use Rattle.run_scripts.specs.RanFrom.{ending, TextAt, RanFrom}
use Rattle.boot_turns.specs.Runs.{Run, Past, IsPast, IsShown, state_at, turns_at, steps_made, has_ended, cvm_at}
use Rattle.boot_turns.specs.Trace.{Shown}
use Rattle.boot_turns.specs.TurnEnds.{first_user_machine, Printed, Whole}
use Rattle.boot_turns.specs.declared.answers.View.{View}
use Rattle.boot_turns.specs.declared.answers.View.TheVariants.{Boot, Trace}
use Rattle.boot_run.specs.SavedRuns.{IsDisk}
use Rattle.boot_run.specs.RunCalls.{end_by}
use Rattle.kernel_linker.specs.Accept.{ImageSystem}
use Rattle.run_scripts.specs.declared.exit_status.Status.{Status}
use Rattle.run_scripts.specs.declared.exit_status.Status.TheVariants.{Done, KernelFault, StepLimit, Memory}
use Rattle.run_scripts.specs.declared.session.Session.{Session}
use Rattle.run_scripts.specs.Boot.{sectors_needed, IsHonest, Headline as Told, SessionGoesOn, AskFor, by_boot, by_trace, by_sample, files_needed}
use Rattle.run_scripts.specs.Isolation.{replayed_text, IsolatedTrace}
use Rattle.run_scripts.specs.Ends.{Ends, WasDone, PlanFinds, done, no_file, no_memory}
use Rattle.run_scripts.specs.Plan.{Plan, boots, PlanComesTo, AllTold}
use Rattle.run_scripts.specs.RunStatus.{run_status, status_of_end}
use Rattle.run_scripts.specs.SessionRuns.{run_of}
use Rattle.run_scripts.specs.AskedRuns.{Asked, booted_so, EndIsOver, text_by, ended_text, whole_text}
use Rattle.run_scripts.proofs.PromisesByRuns.{Headline, Isolated, Sectors}
use Rattle.run_scripts.specs.Served.{NoneFailed, ShelfServes, AreSurelyGiven}
use Rattle.run_scripts.specs.Promises.{HeadlinesHold, RunsAreComplete, TracesAreIsolated}
use Rattle.run_scripts.proofs.PlansAreAsked.{asked_plan}
use Rattle.run_scripts.proofs.NothingElseRefused.{no_file_failed}
use Rattle.cvm_model.specs.KernelMeaning.{UnitsReplay}
use Rattle.run_scripts.proofs.RunsComplete.{it_goes_on, runs_complete}
use Rattle.run_scripts.proofs.TracesIsolate.{traces_isolate}
use Rattle.run_scripts.specs.Keys.{ScriptLaws}
use Rattle.run_scripts.proofs.EachHeadline.{headlines}
use Rattle.cvm_outside.specs.Causes.{Rose}
use Rattle.run_scripts.specs.Command.{Command, IsCommand, boot, trace, sample}
use Rattle.run_scripts.proofs.OneCommand.{one_command}

-- THE PREMISES
pub told_disk : (told : Option (List (List ℕ))) (size : ℕ) (before : List (List ℕ)) → IfSome told (IsDisk size) → told ≡ Some before → IsDisk size before
told_disk told size before h e = subst (λ (o : Option (List (List ℕ))). IfSome o (IsDisk size)) e h

-- the command was done
pub was_done : ScriptsBlame → (words : List (List ℕ)) (old new : Outside) (status : Status) → Ends words old new status → NoneFailed words old new → status ≢ Memory → WasDone words old new status
was_done blame words old new status (done _ h) f m = h
was_done blame words old new status (no_file c i g) f m = absurd (no_file_failed blame words c old new i f.shelf g)
was_done blame words old new status (no_memory c i w) f m = absurd (m refl)

-- and it finds what its plan does
pub plan_finds : (words : List (List ℕ)) (old new : Outside) (status : Status) → WasDone words old new status → (p : Plan) → AllTold words old.shelf.file → PlanComesTo words old.shelf.file p → PlanFinds p words old
plan_finds words old new status h p told comes = subst (λ (q : Plan). PlanFinds q words old) (sym (h.is_plan.only told p comes)) h.finds

pub asked_of : (words : List (List ℕ)) (session : Session) (s : ImageSystem) (rows : Rows) (before : List (List ℕ)) (old new : Outside) (status : Status) → WasDone words old new status → IsHonest words session s rows before old new
    → Asked words (boots session s rows) session s rows before old
asked_of words session s rows before old new status d h =
    let p = asked_plan words old.shelf.file session s rows h.asked in
    let t = plan_finds words old new status d (boots session s rows) p.1 p.0 in
    record {
      files = p.1;
      bytes = t.files;
      is_plan = p.0;
      runs = booted_so;
      user = h.user;
      sectors = h.sectors;
      disk = told_disk old.disk.sectors old.disk.size before t.disk h.sectors;
      enough = h.enough;
    }

-- one that is done, or whose kernel faulted, came to its end
pub came_to_end : (b : Bool) (st : CvmStatus) → (status_of_end (end_by b st) ≡ Done) ⊎ (status_of_end (end_by b st) ≡ KernelFault) → b ≡ true
came_to_end true st h = refl
came_to_end false st (inl d) = absurd (let e : StepLimit ≡ Done = d in cc)
came_to_end false st (inr d) = absurd (let e : StepLimit ≡ KernelFault = d in cc)

-- THE TEXT of a run
module _ (r : Run) (p : Past) (is : IsPast r p) where
  abbrev n : ℕ
  n = steps_made r

  shown : (u : ℕ) → r.view ≡ Trace u → Shown r.around r.first r.system u n (p.shown n)
  shown u v = subst (λ (w : View). IsShown w r n (p.shown n)) v (is.user n (omega arith))

  so_far : (v : View) → r.view ≡ v → Printed r.around r.system r.first v n (text_by v r p n)
  so_far Boot e = (cvm_at r p n, is.turns (turns_at r n) (omega arith), refl)
  so_far (Trace u) e = (p.shown n, shown u e, refl)

  all : (v : View) → r.view ≡ v → Whole r.around r.system r.first v n (ended_text v r p n)
  all Boot e = (cvm_at r p n, is.turns (turns_at r n) (omega arith), refl)
  all (Trace u) e = (cvm_at r p n, p.shown n, is.turns (turns_at r n) (omega arith), shown u e, refl)

  text_so : (b : Bool) (st : CvmStatus) → TextAt r.around r.system r.first r.view n (end_by b st) (if b then ended_text r.view r p n else text_by r.view r p n)
  text_so true Running = all r.view refl
  text_so true Halted = all r.view refl
  text_so true (Faulted f) = all r.view refl
  text_so false st = so_far r.view refl

  -- WITH NO FAILED CALL the run is what the abstract run says
  pub ran : (held : ℕ) (before : List (List ℕ)) → Sectors r held before n (Some (state_at r n).device.sectors) → EndIsOver r
      → RanFrom r.around r.system r.first held before (state_at r n).device.sectors r.view r.turns r.steps (ending r.around r.first r.turns r.steps (cvm_at r p n)) (whole_text r p)
  ran held before s over = record {
    past = cvm_at r p n;
    cvm = is.turns (turns_at r n) (omega arith);
    sectors = refl;
    beyond = s.beyond;
    status = refl;
    few = λ e. (over (cvm_at r p n) (is.turns (turns_at r n) (omega arith)) e).few;
    over = λ e. (over (cvm_at r p n) (is.turns (turns_at r n) (omega arith)) e).over;
    text_is = text_so (has_ended r) (cvm_at r p n).status;
  }

-- THE HEADLINE
unfoldable pub headline_told : (session : Session) (s : ImageSystem) (rows : Rows) (before : List (List ℕ)) (old new : Outside) (status : Status) →
    Headline (run_of session s rows old.disk.size before) (sectors_needed session s rows) before old new status → SessionGoesOn session old s rows before
    → Told session s rows before old new status
headline_told session s rows before old new status h goes =
    let r : Run = run_of session s rows old.disk.size before in
    record {
      after = (state_at r (steps_made r)).device.sectors;
      text = whole_text r h.past;
      ending = ending r.around r.first r.turns r.steps (cvm_at r h.past (steps_made r));
      sectors = h.machine.are;
      printed = h.text;
      status_is = h.status_is;
      ran = ran r h.past h.is_past (sectors_needed session s rows) before (record { are = refl; beyond = h.machine.beyond }) h.over;
      goes_on = goes;
    }

-- NO CALL of its command fails
serves : (words : List (List ℕ)) (old new : Outside) (session : Session) (s : ImageSystem) (rows : Rows) (a : AskFor words old.shelf.file session s rows) →
    AreSurelyGiven old.shelf.gives (files_needed a) ⊎ (Rose old.shelf.faults new.shelf.faults → ⊥) → (c : Command) → IsCommand words c → ShelfServes c old new
serves words old new session s rows a (inr none) c also = inr none
serves words old new session s rows (by_boot b is same files) (inl given) c also =
    subst (λ (x : Command). ShelfServes x old new) (one_command words (boot b) c is also) (inl (given, refl))
serves words old new session s rows (by_trace t is same files) (inl given) c also =
    subst (λ (x : Command). ShelfServes x old new) (one_command words (trace t) c is also) (inl (given, refl))
serves words old new session s rows (by_sample x is same parts) (inl given) c also =
    subst (λ (y : Command). ShelfServes y old new) (one_command words (sample x) c is also) (inl (given, refl))

pub no_call_failed : (words : List (List ℕ)) (session : Session) (s : ImageSystem) (rows : Rows) (before : List (List ℕ)) (old new : Outside) → IsHonest words session s rows before old new → NoneFailed words old new
no_call_failed words session s rows before old new h =
    record { shelf = serves words old new session s rows h.asked h.served.shelf; sink = h.served.sink; disk = h.served.disk }

pub headlines_hold : ScriptLaws → HeadlinesHold
headlines_hold law words old new status ends session s rows before honest memory =
    let f = no_call_failed words session s rows before old new honest in
    let a = asked_of words session s rows before old new status (was_done law.blame words old new status ends f memory) honest in
    headline_told session s rows before old new status (headlines law words session s rows before old new status a f ends memory)
    (it_goes_on law.runs words _ session s rows before old a)

-- ENOUGH STEPS
pub runs_are_complete : ScriptLaws → RunsAreComplete
runs_are_complete law words old new status ends session s rows before honest memory has =
    let f = no_call_failed words session s rows before old new honest in
    let a = asked_of words session s rows before old new status (was_done law.blame words old new status ends f memory) honest in
    runs_complete (headlines law) (it_goes_on law.runs) law.runs.count words session s rows before old new status a f ends memory
    (record { last = has.last; defined = has.defined; enough = has.enough })

-- ISOLATION
not_for_memory : (status : Status) → (status ≡ Done) ⊎ (status ≡ KernelFault) → status ≢ Memory
not_for_memory status (inl d) = λ e. let z : Done ≡ Memory = sym d ∙ e in cc
not_for_memory status (inr d) = λ e. let z : KernelFault ≡ Memory = sym d ∙ e in cc

by_status : (status due : Status) → status ≡ due → (status ≡ Done) ⊎ (status ≡ KernelFault) → (due ≡ Done) ⊎ (due ≡ KernelFault)
by_status status due e (inl d) = inl (sym e ∙ d)
by_status status due e (inr d) = inr (sym e ∙ d)

-- the text of the journal is what its replay comes to
replays : (u : ℕ) (first last : Flat) (j : List JournalEntry) (st : CvmStatus) → replay first j ≡ Some last → replayed_text u first j st ≡ Some (trace_text u first j last st)
replays u first last j st e = ap (option_map (λ (f : Flat). trace_text u first j f st)) e

isolated_trace : (session : Session) (u : ℕ) (s : ImageSystem) (rows : Rows) (before : List (List ℕ)) (old new : Outside) (status : Status) →
    (h : Headline (run_of session s rows old.disk.size before) (sectors_needed session s rows) before old new status) → session.view ≡ Trace u
    → has_ended (run_of session s rows old.disk.size before) ≡ true → Isolated (run_of session s rows old.disk.size before) h.past u
    → IsolatedTrace session u s rows before old new status
isolated_trace session u s rows before old new status h v e i =
    let r : Run = run_of session s rows old.disk.size before in
    let n : ℕ = steps_made r in
    let p : Past = h.past in
    let same : p.cvm i.turns ≡ cvm_at r p n = ap p.cvm i.turns_are in
    let whole : whole_text r p ≡ trace_text u (first_user_machine r.system u) (p.shown n) (user_of (cvm_at r p n).core.users u) (cvm_at r p n).status =
    ap (λ (b : Bool). if b then ended_text r.view r p n else text_by r.view r p n) e ∙ ap (λ (w : View). ended_text w r p n) v in
    record {
      units = i.units;
      turns = i.turns;
      last = p.cvm i.turns;
      entries = p.shown n;
      text = whole_text r p;
      turns_are = i.turns_are;
      run = i.within;
      status_is = h.status_is ∙ ap (λ (b : Bool). status_of_end (end_by b (cvm_at r p n).status)) e ∙ ap (λ (c : Cvm). status_of_end (end_by true c.status)) (sym same);
      entries_are = i.journal_is;
      text_is = replays u (first_user_machine r.system u) (user_of (p.cvm i.turns).core.users u) (p.shown n) (p.cvm i.turns).status i.replayed
          ∙ ap (λ (c : Cvm). Some (trace_text u (first_user_machine r.system u) (p.shown n) (user_of c.core.users u) c.status)) same ∙ ap (λ (l : List ℕ). Some l) (sym whole);
      printed = h.text;
    }

pub traces_are_isolated : ScriptLaws → ReplaysUsers → UnitsReplay → TracesAreIsolated
traces_are_isolated law isolated units words old new status ends session u s rows before honest v over =
    let r : Run = run_of session s rows old.disk.size before in
    let f = no_call_failed words session s rows before old new honest in
    let m = not_for_memory status over in
    let a = asked_of words session s rows before old new status (was_done law.blame words old new status ends f m) honest in
    let h = headlines law words session s rows before old new status a f ends m in
    let e : has_ended r ≡ true = came_to_end (has_ended r) (cvm_at r h.past (steps_made r)).status (by_status status (run_status r h.past) h.status_is over) in
    isolated_trace session u s rows before old new status h v e (traces_isolate law.runs isolated units words session s rows before old u h.past a v h.is_past e)
