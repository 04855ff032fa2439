-- THE SCRIPTS OF A RUN FROM ANY STATE, of which nothing is known: the machine's own transfers, with texts that aren't told; and how it ends, by the power
-- word of its machine.
use Rattle.std.specs.Prelude.{◌≡◌, ℕ, suc, ◌+◌, ◌-◌, Bool, true, false, Option, Some, None, List, [], ◌∷◌, ◌++◌, Result}
use Rattle.mips_table.specs.Device.{Environment}
use Rattle.mips_table.specs.Machine.{State, run}
use Rattle.mips_table.specs.Turns.{end_within}
use Rattle.mips_machine.specs.Steps.{script_of_step, outside_of}
use Rattle.cvm_model.specs.Cvm.{System}
use Rattle.cvm_outside.specs.declared.sink.Sink as sink_of
use Rattle.cvm_outside.specs.declared.sectors.Sectors as sectors_of
use Rattle.cvm_outside.specs.Script.{Call, Printed, Makes, scripts}
use Rattle.boot_turns.specs.declared.answers.View.TheVariants.{Boot}
use Rattle.boot_turns.specs.Completes.{state_seen}
use Rattle.boot_turns.specs.Runs.{Run, state_at, steps_made, has_ended}
use Rattle.boot_turns.specs.RowScripts.{of_run}
use Rattle.boot_turns.specs.LoopScripts.{InSteps, MakesAs}
use Rattle.boot_turns.specs.declared.answers.RunFault.{RunFault}
use Rattle.boot_turns.specs.Sooner.{ComesTo}
use Rattle.boot_run.specs.declared.whole.RunEnd.{RunEnd}
use Rattle.boot_run.specs.declared.whole.RunEnd.TheVariants.{Done, KernelFaulted, OutOfSteps}
use Rattle.boot_run.specs.LoadEnds.{Kept}
use Rattle.boot_run.specs.RunCalls.{run_at, RunEndsBy, TurnsCall, GoCalls, RestCalls}
use Rattle.boot_run.specs.RunScript.{AreReads}

-- step number i from step number t on: the transfer that it makes, and a text; and n such steps
abbrev pub untold_step : Environment → State → (t i : ℕ) → List Call
untold_step x s t i = script_of_step x (run x s (t + i)) ++ Printed None ∷ []

abbrev pub untold_script : Environment → State → (t n : ℕ) → List Call
untold_script x s t n = scripts (untold_step x s t) n

-- how a run ends where no call fails, by whether it came to its end and by the power word of its machine
abbrev pub end_by_power : (ended : Bool) → (off : Option ℕ) → RunEnd
end_by_power false off = OutOfSteps
end_by_power true (Some (suc power)) = KernelFaulted
end_by_power true other = Done

abbrev pub power_end : Run → RunEnd
power_end r = end_by_power (has_ended r) (state_at r (steps_made r)).off

-- the report behind such an end: calls that only read, and texts that aren't told; none but behind that of a run that halted, or goes on
abbrev pub IsReport : RunEnd → List Call → Type 0
IsReport Done report = AreReads report
IsReport other report = report ≡ []

-- the steps of a run from step number t on
abbrev pub untold_rest : Run → (t : ℕ) → List Call
untold_rest r t = untold_script r.around r.first t (steps_made r - t)

-- THE CALLS of a run from step number t on: its transfers, and a report
pub record EndsUntold {O D : Type 0} (text : sink_of.Ghosts O) (told : sectors_of.Ghosts D) (old new : O × D) (r : Run) (t : ℕ) (end : RunEnd) :
    Type 0 where
  pub report : List Call
  pub is_report : IsReport (power_end r) report
  pub ends : RunEndsBy text told old new (untold_rest r t ++ report) (power_end r) end

-- TURNS of a loaded run, in n steps, from each step of each run, from any state, in which its machine stands: no user is traced, and it goes on
abbrev pub TurnsUntold : {O D L T : Type 0} → sink_of.Ghosts O → sectors_of.Ghosts D → Kept L → (old new : O × D) → (n : ℕ) → Result T RunFault →
    Type 0
TurnsUntold text told r (out, disk) new n result =
    (s : State) (k t : ℕ) → r.tracer ≡ None → r.ended ≡ None → r.fault ≡ None → ComesTo (outside_of r.machine.rows (told.size disk)) s k t →
    (run (outside_of r.machine.rows (told.size disk)) s t).off ≡ None →
    state_seen (told.sectors disk) r.machine ≡ Some (run (outside_of r.machine.rows (told.size disk)) s t) →
    MakesAs text told (out, disk) new (InSteps (untold_step (outside_of r.machine.rows (told.size disk)) s t) n) result

-- THE LOOP over turns: the steps up to the end of the run
abbrev pub GoUntold : {O D L T : Type 0} → sink_of.Ghosts O → sectors_of.Ghosts D → Kept L → (turns budget : ℕ) → (old new : O × D) → Result T RunFault →
    Type 0
GoUntold text told r turns budget (out, disk) new result =
    (s : State) (k t wanted steps : ℕ) → r.tracer ≡ None → r.ended ≡ None → r.fault ≡ None → ComesTo (outside_of r.machine.rows (told.size disk)) s k t →
    (run (outside_of r.machine.rows (told.size disk)) s t).off ≡ None →
    state_seen (told.sectors disk) r.machine ≡ Some (run (outside_of r.machine.rows (told.size disk)) s t) → k + turns ≡ wanted → budget + t ≡ steps →
    Makes text told (out, disk) new (untold_script (outside_of r.machine.rows (told.size disk)) s t
    (end_within (outside_of r.machine.rows (told.size disk)) s wanted steps - t)) of_run result

-- OF A LOADED RUN, from each step of each run, from any state, in which its machine stands: no user is traced, and it goes on
abbrev pub RestUntold : {O D L : Type 0} → sink_of.Ghosts O → sectors_of.Ghosts D → Kept L → (turns budget : ℕ) → (old new : O × D) → RunEnd →
    Type 0
RestUntold text told r turns budget (out, disk) new end =
    (y : System) (s : State) (k t wanted steps : ℕ) → r.tracer ≡ None → r.ended ≡ None → r.fault ≡ None →
    ComesTo (outside_of r.machine.rows (told.size disk)) s k t → (run (outside_of r.machine.rows (told.size disk)) s t).off ≡ None →
    state_seen (told.sectors disk) r.machine ≡ Some (run (outside_of r.machine.rows (told.size disk)) s t) → k + turns ≡ wanted → budget + t ≡ steps →
    EndsUntold text told (out, disk) new (run_at (outside_of r.machine.rows (told.size disk)) y s Boot wanted steps) t end

-- ALL THE CALLS of turns, of the loop over them, and of a run to its end: from any moment of a boot, and from any state of the machine
pub record TurnsScript {O D L T : Type 0} (text : sink_of.Ghosts O) (told : sectors_of.Ghosts D) (r : Kept L) (budget : ℕ) (old new : O × D) (n : ℕ)
    (result : Result T RunFault) : Type 0 where
  pub boots : TurnsCall text told r budget old new n result
  pub untold : TurnsUntold text told r old new n result

pub record GoScript {O D L T : Type 0} (text : sink_of.Ghosts O) (told : sectors_of.Ghosts D) (r : Kept L) (turns budget : ℕ) (old new : O × D)
    (result : Result T RunFault) : Type 0 where
  pub boots : GoCalls text told r turns budget old new result
  pub untold : GoUntold text told r turns budget old new result

pub record RestScript {O D L : Type 0} (text : sink_of.Ghosts O) (told : sectors_of.Ghosts D) (r : Kept L) (turns budget : ℕ) (old new : O × D)
    (end : RunEnd) : Type 0 where
  pub boots : RestCalls text told r turns budget old new end
  pub untold : RestUntold text told r turns budget old new end
