-- How a run from a start ends in which no call fails, what is printed of it and which sectors stand.
use Rattle.std.specs.Prelude.{◌≡◌, ◌≢◌, ◌⊎◌, ◌≤◌, ℕ, true, List}
use Rattle.mips_table.specs.Device.{Environment}
use Rattle.mips_table.specs.Machine.{State, run}
use Rattle.mips_table.specs.Turns.{complete, lines_of_turn, is_end, end_within}
use Rattle.cvm_model.specs.Cvm.{System, Running, Cvm, IsCvm}
use Rattle.layer_contract.specs.Starts.{Beyond}
use Rattle.boot_turns.specs.declared.answers.View.{View}
use Rattle.boot_turns.specs.TurnEnds.{Printed, Whole}
use Rattle.boot_run.specs.declared.whole.RunEnd.{RunEnd}
use Rattle.boot_run.specs.declared.whole.RunEnd.TheVariants.{OutOfSteps}
use Rattle.boot_run.specs.RunCalls.{end_by}

-- at the headline's step, the first at which the turns are complete or the machine is off, where it comes within the steps, else the last: out of steps
-- where it is no such end; else it goes by the CVM run
abbrev pub ending : Environment → State → (turns steps : ℕ) → Cvm → RunEnd
ending x s turns steps c = end_by (is_end x s turns (end_within x s turns steps)) c.status

-- what is printed: the whole text, or where it is out of steps the text so far
abbrev pub TextAt : Environment → System → State → View → ℕ → RunEnd → List ℕ → Type 0
TextAt x y s v t OutOfSteps text = Printed x y s v t text
TextAt x y s v t other text = Whole x y s v t text

-- with no failed call, over a disk that had the sectors `old` before the load, of which those from `held` on are none of the run's: sectors, ending
-- and text are those of the machine and of the CVM run at the headline's step; where that is an end, no more turns are complete than were asked for, and
-- all of these are, or the kernel has halted or faulted. How the machine rests there is a law (`machines_rest`)
pub record RanFrom (x : Environment) (y : System) (s : State) (held : ℕ) (old now : List (List ℕ)) (v : View) (turns steps : ℕ) (e : RunEnd)
    (text : List ℕ) : Type 0 where
  pub past : Cvm
  pub cvm : IsCvm y (lines_of_turn x s) (complete x s (end_within x s turns steps)) past
  pub sectors : now ≡ (run x s (end_within x s turns steps)).device.sectors
  pub beyond : Beyond held old now
  pub status : e ≡ ending x s turns steps past
  pub few : is_end x s turns (end_within x s turns steps) ≡ true → complete x s (end_within x s turns steps) ≤ turns
  pub over : is_end x s turns (end_within x s turns steps) ≡ true → (complete x s (end_within x s turns steps) ≡ turns) ⊎ (past.status ≢ Running)
  pub text_is : TextAt x y s v (end_within x s turns steps) e text
