-- When the machine of a run goes on.
use Rattle.std.specs.Prelude.{ℕ, ◌+◌, ◌≤◌}
use Rattle.mips_table.specs.Device.{Environment}
use Rattle.mips_table.specs.Machine.{State}
use Rattle.mips_table.specs.Turns.{lines_of_turn, IsTurnEnd}
use Rattle.cvm_model.specs.Cvm.{System, Cvm, IsCvm}

-- the machine goes on where the CVM run is defined, within its bound and so many further steps
abbrev pub GoesOnWithin : Environment → System → State → (more : ℕ) → Type 0
GoesOnWithin x y s more = (k : ℕ) (c : Cvm) → IsCvm y (lines_of_turn x s) k c → (t : ℕ) × IsTurnEnd x s k t × (t ≤ c.bound + more)
