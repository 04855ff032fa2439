-- What a step of C0's meaning that calls no primitive comes to in the machine.
use Rattle.std.specs.Prelude.{◌≡◌, ℕ, ◌+◌, ◌*◌, ◌≤◌}
use Rattle.mips_table.specs.Code.{World, CodeState, Steps}
use Rattle.c0_meaning.specs.World.{Configuration, calls_ended}

-- Units of the program's own have led the machine from s to t: at most 30 steps of its own code each (a statement that calls a function is two with
-- its call), of which `debt` before and `left` behind are jumps still ahead, and at least one for 2,048; and no primitive has ended.
pub record Led {W E : Type 0} (w : World) (units debt left : ℕ) (h h' : Configuration W E) (s t : CodeState) : Type 0 where
  pub own : ℕ
  pub high : own + left ≤ 30 * units + debt
  pub low : units ≤ 2048 * own
  pub ended_so : calls_ended h' ≡ calls_ended h
  pub run : Steps w own s t

-- The same of a fault, before which units may have been spent without a step.
pub record RunStopped {W E : Type 0} (w : World) (units debt : ℕ) (h h' : Configuration W E) (s t : CodeState) : Type 0 where
  pub own : ℕ
  pub high : own ≤ 30 * units + debt
  pub ended_so : calls_ended h' ≡ calls_ended h
  pub run : Steps w own s t
