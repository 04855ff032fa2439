-- THE SCRIPTS OF THE CALLS of a loaded run: turns, the report, and a run to its end; over a disk that tells its sectors exactly, and else some calls.
use Rattle.std.specs.Prelude.{◌≡◌, ℕ, zero, suc, ◌+◌, ◌-◌, ◌≤◌, ⊤, if◌then◌else◌, Bool, true, false}
use Rattle.std.specs.Prelude.{Option, Some, None, List, [], ◌++◌, Result, Ok, Err, IfOk, IfErr, OnErr}
use Rattle.mips_table.specs.Device.{Environment}
use Rattle.mips_table.specs.Machine.{State}
use Rattle.schedule_file.specs.Rows.{Rows}
use Rattle.mips_machine.specs.Steps.{outside_of}
use Rattle.c0_tree.specs.Tree.{CUnit}
use Rattle.c0_tree.specs.View.{unit_view}
use Rattle.c0_meaning.specs.TypedState.{IsTypedState}
use Rattle.cvm_outside.specs.Outside.{Outside, Files, Output, output, drive}
use Rattle.cvm_outside.specs.declared.sink.Sink as sink_of
use Rattle.cvm_outside.specs.declared.sectors.Sectors as sectors_of
use Rattle.cvm_outside.specs.Script.{Call, Who, TheSink, TheShelf, TheDisk, Performs, Makes, blame}
use Rattle.cvm_model.specs.Cvm.{System, Status, Running, Faulted, Cvm, IsCvm}
use Rattle.layer_contract.specs.declared.boot.Boot.{Boot as Booted}
use Rattle.layer_contract.specs.Boots.{boot_of}
use Rattle.boot_turns.specs.Premises.{StartsFrom}
use Rattle.boot_turns.specs.declared.answers.View.{View}
use Rattle.boot_turns.specs.declared.answers.RunFault.{RunFault}
use Rattle.boot_turns.specs.Runs.{Run, Past, IsPast, IsShown, state_at, turns_at, lines_met, steps_made, has_ended, cvm_at}
use Rattle.boot_turns.specs.StepScript.{step_script, steps_script}
use Rattle.boot_turns.specs.RowScripts.{of_run}
use Rattle.boot_turns.specs.LoopScripts.{AreOfRun, SomeMake, MakesAs}
use Rattle.boot_run.specs.declared.load.LoadFault.{LoadFault}
use Rattle.boot_run.specs.declared.load.LoadFault.TheVariants as load
use Rattle.boot_run.specs.declared.whole.RunEnd.{RunEnd}
use Rattle.boot_run.specs.declared.whole.RunEnd.TheVariants as ends
use Rattle.boot_run.specs.Closing.{opening_script, closing_script, report_by}
use Rattle.boot_run.specs.RunScript.{run_script, AreReads}
use Rattle.boot_run.specs.Shown.{has_faulted}
use Rattle.boot_run.specs.LoadEnds.{Kept, HasDiskRoom, LoadFails}
use Rattle.boot_run.specs.Loaded.{Load}
use Rattle.boot_run.specs.Pieces.{Bootable, FirstAt}
use Rattle.boot_run.specs.TurnCalls.{run_around, ReadyAt}

-- the run of a system from a start, viewed so, for so many turns and steps
abbrev pub run_at : Environment → System → State → View → (turns steps : ℕ) → Run
run_at x y s v turns steps = record { around = x; system = y; first = s; view = v; turns = turns; steps = steps }

-- this is what the abstract machine says of it from step a to step b
pub record TellsFrom (r : Run) (p : Past) (a b : ℕ) : Type 0 where
  pub turns : (j : ℕ) → a ≤ j → j ≤ b → IsCvm r.system (lines_met r) (turns_at r j) (cvm_at r p j)
  pub user : (j : ℕ) → a ≤ j → j ≤ b → IsShown r.view r j (p.shown j)

-- before its first turn, number 0, the first row of a trace is printed
abbrev pub begin_script : Run → (k : ℕ) → List Call
begin_script r zero = opening_script r.view r.system
begin_script r (suc k) = []

-- behind step number t, where the machine is off, the whole report of a kernel that faulted; and of no other one
abbrev pub fault_script : View → Run → Past → (t : ℕ) → (off : Option ℕ) → Status → List Call
fault_script v r p t None status = []
fault_script v r p t (Some power) (Faulted f) = report_by v r p t
fault_script v r p t (Some power) other = []

-- and the report of any other
abbrev pub report_script : View → Run → Past → (t : ℕ) → Status → List Call
report_script v r p t (Faulted f) = []
report_script v r p t other = report_by v r p t

-- TURNS, from turn number k and step number t on, in n steps
abbrev pub turns_script : Run → Past → (k t n : ℕ) → List Call
turns_script r p k t n = begin_script r k ++ steps_script r p t n ++ fault_script r.view r p (t + n) (state_at r (t + n)).off (cvm_at r p (t + n)).status

-- TURNS ARE MADE in n steps: the calls before the last of them are all done, and then those from there on are made; so no step is made behind a call that
-- failed
abbrev pub InTurns : Run → Past → (k t n : ℕ) → (old new : Outside) → Option Who → Type 0
InTurns r p k t zero old new blamed = Performs (turns_script r p k t 0) old new blamed
InTurns r p k t (suc n) old new blamed = (mid : Outside) × Performs (begin_script r k ++ steps_script r p t n) old mid None
    × Performs (step_script r p (t + n) ++ fault_script r.view r p (t + suc n) (state_at r (t + suc n)).off (cvm_at r p (t + suc n)).status) mid new blamed

-- THE CALLS OF TURNS that a loaded run makes in n steps: from any moment between turns of any boot of this kernel that stands there and goes on
abbrev pub TurnsPerform : {O D L T : Type 0} → sink_of.Ghosts O → sectors_of.Ghosts D → Kept L → (budget : ℕ) → (old new : O × D) → (n : ℕ) →
    Result T RunFault → Type 0
TurnsPerform text told run budget (out, disk) new n result =
    (u : CUnit) (y : System) (s : State) (late held : ℕ) (k t : ℕ) (c : Cvm) → y.boot ≡ boot_of run.boot →
    StartsFrom (IsTypedState u) (outside_of run.machine.rows (told.size disk)) y s late held →
    ReadyAt (outside_of run.machine.rows (told.size disk)) y s run.view k t c (run_around run (told.sectors disk) budget) →
    c.status ≡ Running → (turns steps : ℕ) (p : Past) →
    TellsFrom (run_at (outside_of run.machine.rows (told.size disk)) y s run.view turns steps) p t (t + n) →
    MakesAs text told (out, disk) new (InTurns (run_at (outside_of run.machine.rows (told.size disk)) y s run.view turns steps) p k t n) result

-- so it is; and where it kept no fault some calls of a run are made over any disk
pub record TurnsCall {O D L T : Type 0} (text : sink_of.Ghosts O) (told : sectors_of.Ghosts D) (run : Kept L) (budget : ℕ) (old new : O × D) (n : ℕ)
    (result : Result T RunFault) : Type 0 where
  pub exact : TurnsPerform text told run budget old new n result
  pub some : run.fault ≡ None → SomeMake text told old new result

-- THE CALLS OF A REPORT, between turns of any boot of this kernel that stands there
abbrev pub ReportPerforms : {O D L T : Type 0} → sink_of.Ghosts O → sectors_of.Ghosts D → Kept L → (old new : O × D) → Result T RunFault → Type 0
ReportPerforms text told run (out, disk) new result =
    (budget : ℕ) (y : System) (s : State) (late held : ℕ) (k t : ℕ) (c : Cvm) → y.boot ≡ boot_of run.boot →
    StartsFrom (IsTypedState (unit_view run.boot.unit)) (outside_of run.machine.rows (told.size disk)) y s late held →
    ReadyAt (outside_of run.machine.rows (told.size disk)) y s run.view (suc k) t c (run_around run (told.sectors disk) budget) →
    (turns steps : ℕ) (p : Past) → TellsFrom (run_at (outside_of run.machine.rows (told.size disk)) y s run.view turns steps) p t t →
    Makes text told (out, disk) new
    (report_script run.view (run_at (outside_of run.machine.rows (told.size disk)) y s run.view turns steps) p t c.status) of_run result

-- some calls that only read, and print
abbrev pub SomeRead : {O D T : Type 0} → sink_of.Ghosts O → sectors_of.Ghosts D → (old new : O × D) → Result T RunFault → Type 0
SomeRead text told old new result = (script : List Call) × AreReads script × Makes text told old new script of_run result

-- so it is; and where it kept no fault some such calls are made over any disk: none where the kernel faulted
pub record ReportCalls {O D L T : Type 0} (text : sink_of.Ghosts O) (told : sectors_of.Ghosts D) (run : Kept L) (old new : O × D)
    (result : Result T RunFault) : Type 0 where
  pub exact : ReportPerforms text told run old new result
  pub some : run.fault ≡ None → SomeRead text told old new result
  pub none : has_faulted run.ended ≡ true → new ≡ old

-- whom an answer of a load blames
abbrev pub of_load : LoadFault → Option Who
of_load load.Disk = Some TheDisk
of_load other = None

-- a load is begun, or refused before it
abbrev pub begins : LoadFault → Bool
begins load.Disk = true
begins other = false

abbrev pub loads : {T : Type 0} → Result T LoadFault → Bool
loads (Ok r) = true
loads (Err fault) = begins fault

-- THE CALLS OF A LOAD, over a disk: those of its script; where it is refused before, none
pub record LoadCalls {D T : Type 0} (told : sectors_of.Ghosts D) (disk redisk : D) (script : List Call) (result : Result T LoadFault) : Type 0 where
  pub made : loads result ≡ true → (shelf : Files) (sink : Output) → Performs script (record { shelf = shelf; sink = sink; disk = drive told disk })
      (record { shelf = shelf; sink = sink; disk = drive told redisk }) (blame of_load result)
  pub none : loads result ≡ false → redisk ≡ disk

-- WHAT EVERY CALL SAYS THAT LOADS A RUN AND MAKES IT, beside its script, over a sink and a disk: why no run is loaded, where none is, and that the disk has
-- room, where one is; where none is the calls are the load's alone, and nothing is printed
pub record LoadsRun {O D T : Type 0} (told : sectors_of.Ghosts D) (b : Booted) (view : View) (loading : Load) (old new : O × D)
    (result : Result T LoadFault) : Type 0 where
  pub refused : IfErr result (LoadFails b view loading.need (told.size old.1))
  pub loaded : IfOk result (λ _. HasDiskRoom b view loading.need (told.size old.1))
  pub calls : OnErr result (LoadCalls told old.1 new.1 loading.script result)
  pub unprinted : OnErr result (new.0 ≡ old.0)

-- whom an end blames, and how a run ends where no call fails: by whether it came to its end, and by what the abstract machine says
abbrev pub of_end : RunEnd → Option Who
of_end ends.DiskFault = Some TheDisk
of_end ends.SinkFault = Some TheSink
of_end ends.ShelfFault = Some TheShelf
of_end other = None

abbrev pub end_by : (ended : Bool) → Status → RunEnd
end_by false status = ends.OutOfSteps
end_by true (Faulted f) = ends.KernelFaulted
end_by true other = ends.Done

abbrev pub due_by : (Bool → Status → RunEnd) → Run → Past → RunEnd
due_by due r p = due (has_ended r) (cvm_at r p (steps_made r)).status

abbrev pub due_end : Run → Past → RunEnd
due_end r p = due_by end_by r p

-- calls of a sink and a disk, by whom they blame
abbrev pub CallsAreMade : {O D : Type 0} → sink_of.Ghosts O → sectors_of.Ghosts D → (old new : O × D) → List Call → Option Who → Type 0
CallsAreMade text told (out, disk) (reout, redisk) script blamed = (shelf : Files) →
    Performs script (record { shelf = shelf; sink = output text out; disk = drive told disk })
    (record { shelf = shelf; sink = output text reout; disk = drive told redisk }) blamed

-- A SCRIPT OF A WHOLE RUN is made, and the run ends as is due unless a call fails
pub record RunEndsBy {O D : Type 0} (text : sink_of.Ghosts O) (told : sectors_of.Ghosts D) (old new : O × D) (script : List Call) (due end : RunEnd) :
    Type 0 where
  pub made : CallsAreMade text told old new script (of_end end)
  pub is : of_end end ≡ None → end ≡ due

-- THE CALLS OF THE LOOP over turns: from any moment at which turns are complete for the first time, of any boot of this kernel that stands there and
-- goes on, those of the turns up to the headline's step
abbrev pub GoPerforms : {O D L T : Type 0} → sink_of.Ghosts O → sectors_of.Ghosts D → Kept L → (turns budget : ℕ) → (old new : O × D) →
    Result T RunFault → Type 0
GoPerforms text told run turns budget (out, disk) new result =
    (y : System) (s : State) (late held : ℕ) (old : List (List ℕ)) (k t wanted steps : ℕ) (c : Cvm) →
    Bootable run.boot run.machine.rows (told.size disk) y s late held old → FirstAt (outside_of run.machine.rows (told.size disk)) s k t → 1 ≤ wanted →
    k + turns ≡ wanted → budget + t ≡ steps →
    ReadyAt (outside_of run.machine.rows (told.size disk)) y s run.view k t c (run_around run (told.sectors disk) budget) →
    c.status ≡ Running → (p : Past) → IsPast (run_at (outside_of run.machine.rows (told.size disk)) y s run.view wanted steps) p →
    Makes text told (out, disk) new (turns_script (run_at (outside_of run.machine.rows (told.size disk)) y s run.view wanted steps) p k t
    (steps_made (run_at (outside_of run.machine.rows (told.size disk)) y s run.view wanted steps) - t)) of_run result

-- so it is; and some calls of a run are made over any disk
pub record GoCalls {O D L T : Type 0} (text : sink_of.Ghosts O) (told : sectors_of.Ghosts D) (run : Kept L) (turns budget : ℕ) (old new : O × D)
    (result : Result T RunFault) : Type 0 where
  pub exact : GoPerforms text told run turns budget old new result
  pub some : SomeMake text told old new result

-- the calls that close a run are all made
abbrev pub all_calls : Status → List Call → List Call
all_calls status closing = closing

-- from step number t on: the steps that are left, and those of the calls which close the run that are made
abbrev pub end_script : (part : Status → List Call → List Call) → Run → Past → (t : ℕ) → List Call
end_script part r p t =
    steps_script r p t (steps_made r - t) ++ (if has_ended r then part (cvm_at r p (steps_made r)).status (closing_script r p) else [])

-- THE CALLS OF A LOADED RUN TO ITS END: from any moment at which turns are complete for the first time, of any boot of this kernel that stands there and
-- goes on, by which of the calls that close it are made, and how it is due to end
abbrev pub RunPerformsAt : {O D L : Type 0} → sink_of.Ghosts O → sectors_of.Ghosts D → (part : Status → List Call → List Call) →
    (due : Bool → Status → RunEnd) → Kept L → Booted → Rows → View → (size turns budget : ℕ) → (old new : O × D) → RunEnd → Type 0
RunPerformsAt text told part due run b rows v size turns budget (out, disk) new end =
    (y : System) (s : State) (late held : ℕ) (old : List (List ℕ)) (k t wanted steps : ℕ) (c : Cvm) → Bootable b rows size y s late held old →
    FirstAt (outside_of rows size) s k t → 1 ≤ wanted → k + turns ≡ wanted → budget + t ≡ steps →
    ReadyAt (outside_of rows size) y s v k t c (run_around run (told.sectors disk) budget) →
    c.status ≡ Running → (p : Past) → IsPast (run_at (outside_of rows size) y s v wanted steps) p →
    RunEndsBy text told (out, disk) new (begin_script (run_at (outside_of rows size) y s v wanted steps) k
    ++ end_script part (run_at (outside_of rows size) y s v wanted steps) p t) (due_by due (run_at (outside_of rows size) y s v wanted steps) p) end

-- of what is booted, under its schedule and its view
abbrev pub RunPerforms : {O D L : Type 0} → sink_of.Ghosts O → sectors_of.Ghosts D → (part : Status → List Call → List Call) →
    (due : Bool → Status → RunEnd) → Kept L → (turns budget : ℕ) → (old new : O × D) → RunEnd → Type 0
RunPerforms text told part due run turns budget old new end =
    RunPerformsAt text told part due run run.boot run.machine.rows run.view (told.size old.1) turns budget old new end

-- THE CALLS THAT CLOSE A RUN, between turns of any boot of this kernel that stands there: those of its report that are made, by whom the end blames
abbrev pub EndPerformsAt : {O D L : Type 0} → sink_of.Ghosts O → sectors_of.Ghosts D → (part : Status → List Call → List Call) →
    (due : Bool → Status → RunEnd) → Kept L → Booted → Rows → View → (size : ℕ) → (old new : O × D) → RunEnd → Type 0
EndPerformsAt text told part due run b rows v size (out, disk) new end =
    (budget : ℕ) (y : System) (s : State) (late held : ℕ) (k t : ℕ) (c : Cvm) → y.boot ≡ boot_of b →
    StartsFrom (IsTypedState (unit_view b.unit)) (outside_of rows size) y s late held →
    ReadyAt (outside_of rows size) y s v (suc k) t c (run_around run (told.sectors disk) budget) →
    (turns steps : ℕ) (p : Past) → TellsFrom (run_at (outside_of rows size) y s v turns steps) p t t →
    RunEndsBy text told (out, disk) new (part c.status (report_script v (run_at (outside_of rows size) y s v turns steps) p t c.status))
    (due true c.status) end

abbrev pub EndPerforms : {O D L : Type 0} → sink_of.Ghosts O → sectors_of.Ghosts D → (part : Status → List Call → List Call) →
    (due : Bool → Status → RunEnd) → Kept L → (old new : O × D) → RunEnd → Type 0
EndPerforms text told part due run old new end =
    EndPerformsAt text told part due run run.boot run.machine.rows run.view (told.size old.1) old new end

-- so it is; and over any disk calls that only read, and print: none where the kernel faulted
pub record CloseCalls {O D L : Type 0} (text : sink_of.Ghosts O) (told : sectors_of.Ghosts D) (run : Kept L) (old new : O × D) (end : RunEnd) :
    Type 0 where
  pub exact : EndPerforms text told all_calls end_by run old new end
  pub some : (script : List Call) × AreReads script × CallsAreMade text told old new script (of_end end)
  pub none : has_faulted run.ended ≡ true → new ≡ old

-- some calls of a run are made, by whom they blame
abbrev pub SomeMade : {O D : Type 0} → sink_of.Ghosts O → sectors_of.Ghosts D → (old new : O × D) → Option Who → Type 0
SomeMade text told old new blamed = (script : List Call) × AreOfRun script × CallsAreMade text told old new script blamed

-- so it is; and some are made over any disk
pub record LoadedCalls {O D L : Type 0} (text : sink_of.Ghosts O) (told : sectors_of.Ghosts D) (part : Status → List Call → List Call)
    (due : Bool → Status → RunEnd) (run : Kept L) (turns budget : ℕ) (old new : O × D) (end : RunEnd) : Type 0 where
  pub exact : RunPerforms text told part due run turns budget old new end
  pub some : SomeMade text told old new (of_end end)

-- of a run that is closed where it ends
abbrev pub RestCalls : {O D L : Type 0} → sink_of.Ghosts O → sectors_of.Ghosts D → Kept L → (turns budget : ℕ) → (old new : O × D) → RunEnd → Type 0
RestCalls text told run turns budget old new end = LoadedCalls text told all_calls end_by run turns budget old new end

-- whom an answer blames of a call that loads a run and makes it
abbrev pub of_answer : Result RunEnd LoadFault → Option Who
of_answer (Ok end) = of_end end
of_answer (Err fault) = of_load fault

-- the end that an answer tells is the one that is due
abbrev pub EndIsDue : Result RunEnd LoadFault → RunEnd → Type 0
EndIsDue (Ok end) due = end ≡ due
EndIsDue (Err fault) due = ⊤

-- THE CALLS of a call that loads a run and makes it, where its load was begun: over sectors that are told those of its script, and it ends as is due unless
-- a call fails; over others some; and none where it is refused before the load
pub record BegunScript (Calls : List Call → Option Who → Type 0) (told : Option (List (List ℕ))) (started : List (List ℕ) → Run)
    (scripted : Run → Past → List Call) (due : Run → Past → RunEnd) (Some_ Still : Type 0) (result : Result RunEnd LoadFault) : Type 0 where
  pub exact : loads result ≡ true → (sectors : List (List ℕ)) (p : Past) → told ≡ Some sectors → IsPast (started sectors) p →
      Calls (scripted (started sectors) p) (of_answer result) × (of_answer result ≡ None → EndIsDue result (due (started sectors) p))
  pub some : loads result ≡ true → Some_
  pub none : loads result ≡ false → Still

-- OF A WHOLE BOOT OR TRACE, of a system from the start that these sectors make, and with the load of these pages
abbrev pub WholeScript : {O D : Type 0} → sink_of.Ghosts O → sectors_of.Ghosts D → System → Rows → (start : List (List ℕ) → State) → View →
    (turns steps : ℕ) → (load : List Call) → (old new : O × D) → Result RunEnd LoadFault → Type 0
WholeScript text told y rows start view turns steps load old new result = BegunScript (CallsAreMade text told old new) (told.sectors old.1)
    (λ sectors. run_at (outside_of rows (told.size old.1)) y (start sectors) view turns steps) (λ r. run_script r load) due_end
    ((more : List Call) × AreOfRun more × CallsAreMade text told old new (load ++ more) (of_answer result)) (new ≡ old) result
