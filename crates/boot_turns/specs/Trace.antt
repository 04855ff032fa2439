-- What a trace shows of a user at a step: the journal of the complete turns, and what the turn that goes on has done so far.
use Rattle.std.specs.Prelude.{◌≡◌, ℕ, zero, suc, ◌-◌, ◌<◌, ◌≤◌, nat_lt, if◌then◌else◌, List, [], ◌++◌, length, take, Some}
use Rattle.mips_table.specs.Device.{Environment}
use Rattle.mips_table.specs.Machine.{State, run}
use Rattle.mips_table.specs.Turns.{begins_turn}
use Rattle.cvm_model.specs.Kernel.{JournalEntry}
use Rattle.cvm_model.specs.Cvm.{System, Cvm, cvm}
use Rattle.cvm_model.specs.Journal.{turn_calls, turn_entries, journal}
use Rattle.mips_table.specs.Turns.{turn_of, complete, lines_of_turn}
use Rattle.layer_contract.specs.Calls.{ended_before}

-- how many primitives had ended up to the step before t that began the last turn
abbrev pub ended_at_begin : Environment → State → ℕ → ℕ
ended_at_begin x s zero = 0
ended_at_begin x s (suc t) = if begins_turn x (run x s t) then ended_before x s t else ended_at_begin x s t

-- how many have ended since
abbrev pub ended_since : Environment → State → ℕ → ℕ
ended_since x s t = ended_before x s t - ended_at_begin x s t

-- the entries of user u in the turn that goes on at step t, each dispatch with n units
abbrev pub entries_so_far : Environment → State → System → ℕ → ℕ → ℕ → List JournalEntry
entries_so_far x s y n u t =
    let k = complete x s t in
    turn_entries y n (take (ended_since x s t)) u k (lines_of_turn x s k) (cvm y (lines_of_turn x s) n k)

-- j is what is shown of user u at step t: with units in which the complete turns are over, and the one that goes on has ended as many calls
pub record Shown (x : Environment) (s : State) (y : System) (u t : ℕ) (j : List JournalEntry) : Type 0 where
  pub units : ℕ
  pub past : Cvm
  pub cvm : cvm y (lines_of_turn x s) units (complete x s t) ≡ Some past
  pub enough : complete x s t < turn_of x s t → ended_since x s t ≤ length (turn_calls y units (complete x s t) (lines_of_turn x s (complete x s t)) past)
  pub is : j ≡ journal y (lines_of_turn x s) units u (complete x s t)
      ++ (if nat_lt (complete x s t) (turn_of x s t) then entries_so_far x s y units u t else [])
