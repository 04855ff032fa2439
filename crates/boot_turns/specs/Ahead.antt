-- What one turn of a run does.
use Rattle.std.specs.Prelude.{◌≡◌, true, false, ℕ, suc, ◌+◌, ◌<◌, ◌≤◌, None}
use Rattle.mips_table.specs.Device.{Environment}
use Rattle.mips_table.specs.Machine.{State, run}
use Rattle.mips_table.specs.Turns.{begins_turn, complete, faults_before}
use Rattle.cvm_model.specs.Cvm.{System, Cvm}
use Rattle.boot_turns.specs.TurnEnds.{Stood}

-- turn k, from step t on
pub record TurnAhead (x : Environment) (y : System) (s : State) (k t : ℕ) (c : Cvm) : Type 0 where
  pub start : ℕ
  pub end : ℕ
  pub after : Cvm
  pub from : t ≤ start
  pub to : start < end
  pub none : (j : ℕ) → t ≤ j → j < start → begins_turn x (run x s j) ≡ false
  pub begin : begins_turn x (run x s start) ≡ true
  pub few : faults_before x s start ≤ faults_before x s t + 2
  pub between : (j : ℕ) → t ≤ j → j < end → complete x s j ≡ k
  pub on : (j : ℕ) → j < end → (run x s j).off ≡ None
  pub stood : Stood x y s (suc k) end after
