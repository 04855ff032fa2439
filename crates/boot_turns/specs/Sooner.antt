-- When a run comes to a number of turns, whatever state it begins from.
use Rattle.std.specs.Prelude.{◌≡◌, ℕ, ◌<◌, None}
use Rattle.mips_table.specs.Device.{Environment}
use Rattle.mips_table.specs.Machine.{State, run}
use Rattle.mips_table.specs.Turns.{turn_of, complete}

-- before step t fewer than k turns are complete, and the machine is on
pub record NoSooner (x : Environment) (s : State) (k t : ℕ) : Type 0 where
  pub before : (j : ℕ) → j < t → complete x s j < k
  pub on : (j : ℕ) → j < t → (run x s j).off ≡ None

-- at step t for the first time k turns are complete or the machine is off; where it is on no more have begun
pub record ComesTo (x : Environment) (s : State) (k t : ℕ) : Type 0 where
  pub sooner : NoSooner x s k t
  pub here : (run x s t).off ≡ None → (turn_of x s t ≡ k) × (complete x s t ≡ k)
