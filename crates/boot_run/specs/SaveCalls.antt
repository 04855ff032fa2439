-- THE SCRIPT OF SAVED RUNS: of a boot that is to be saved, which stops where it goes on, and else is closed.
use Rattle.std.specs.Prelude.{◌≡◌, ℕ, ◌+◌, Bool, true, List, [], ◌++◌, Result, Ok, Err}
use Rattle.mips_table.specs.Machine.{State}
use Rattle.schedule_file.specs.Rows.{Rows}
use Rattle.mips_machine.specs.Steps.{outside_of}
use Rattle.cvm_outside.specs.declared.sink.Sink as sink_of
use Rattle.cvm_outside.specs.declared.sectors.Sectors as sectors_of
use Rattle.cvm_outside.specs.Script.{Call}
use Rattle.cvm_model.specs.Cvm.{System, Status, Running}
use Rattle.boot_turns.specs.declared.answers.View.TheVariants.{Boot}
use Rattle.boot_turns.specs.Runs.{Run, Past}
use Rattle.boot_turns.specs.LoopScripts.{AreOfRun}
use Rattle.boot_run.specs.declared.load.LoadFault.{LoadFault}
use Rattle.boot_run.specs.declared.whole.RunEnd.{RunEnd}
use Rattle.boot_run.specs.declared.whole.RunEnd.TheVariants.{Stopped}
use Rattle.boot_run.specs.LoadEnds.{Kept}
use Rattle.boot_run.specs.RunCalls.{run_at, end_script, of_end, end_by, due_by, EndPerforms, CallsAreMade, SomeMade, LoadedCalls, of_answer, BegunScript}

-- nothing where a run goes on, and else what closes it
abbrev pub unless_on : Status → List Call → List Call
unless_on Running closing = []
unless_on other closing = closing

-- from step number t on: the steps that are left, and the end of a run that doesn't go on
abbrev pub stop_script : Run → Past → (t : ℕ) → List Call
stop_script r p t = end_script unless_on r p t

-- how a run ends that is to be saved, where no call fails
abbrev pub stop_by : (ended : Bool) → Status → RunEnd
stop_by true Running = Stopped
stop_by ended other = end_by ended other

abbrev pub due_stop : Run → Past → RunEnd
due_stop r p = due_by stop_by r p

-- THE CALLS THAT STOP A RUN, or close it
pub record StopCalls {O D L : Type 0} (text : sink_of.Ghosts O) (told : sectors_of.Ghosts D) (run : Kept L) (old new : O × D) (end : RunEnd) : Type 0 where
  pub exact : EndPerforms text told unless_on stop_by run old new end
  pub some : SomeMade text told old new (of_end end)

-- THE CALLS OF A LOADED RUN UP TO ITS STOP, or to its end
abbrev pub ToStopCalls : {O D L : Type 0} → sink_of.Ghosts O → sectors_of.Ghosts D → Kept L → (turns budget : ℕ) → (old new : O × D) → RunEnd → Type 0
ToStopCalls text told run turns budget old new end = LoadedCalls text told unless_on stop_by run turns budget old new end

-- how a run ended that is to be saved
abbrev pub end_of_save : {L : Type 0} → Result (Kept L × RunEnd) LoadFault → Result RunEnd LoadFault
end_of_save (Ok (run, end)) = Ok end
end_of_save (Err fault) = Err fault

-- THE CALLS OF A BOOT THAT IS TO BE SAVED, as those of a whole boot
abbrev pub SaveScript : {O D L : Type 0} → sink_of.Ghosts O → sectors_of.Ghosts D → System → Rows → (start : List (List ℕ) → State) → (turns steps : ℕ) →
    (load : List Call) → (old new : O × D) → Result (Kept L × RunEnd) LoadFault → Type 0
SaveScript text told y rows start turns steps load old new result = BegunScript (CallsAreMade text told old new) (told.sectors old.1)
    (λ sectors. run_at (outside_of rows (told.size old.1)) y (start sectors) Boot turns steps) (λ r p. load ++ stop_script r p 0) due_stop
    ((more : List Call) × AreOfRun more × CallsAreMade text told old new (load ++ more) (of_answer (end_of_save result))) (new ≡ old) (end_of_save result)
