-- What sectors are where the disk failed in the transfer of a step.
use Rattle.std.specs.Prelude.{◌≡◌, ℕ, zero, List, slice_set}
use Rattle.mips_table.specs.Device.{Environment, Pending, Reading, Writing}
use Rattle.mips_table.specs.Machine.{State}
use Rattle.mips_machine.specs.Steps.{before_count}

-- what sectors are where the transfer that is due fails: where one was to be written that sector may hold anything, and all else is as before; with
-- no transfer due none fails
abbrev pub TornBy : Pending → (old now : List (List ℕ)) → Type 0
TornBy (Reading zero sector) old now = now ≡ old
TornBy (Writing zero sector) old now = (words : List ℕ) × (now ≡ slice_set old sector words)
TornBy other old now = ⊥

-- where that fails of the command that is under way just before the step of a state ends
abbrev pub Torn : Environment → State → List (List ℕ) → Type 0
Torn x s now = TornBy (before_count x s).pending s.device.sectors now
