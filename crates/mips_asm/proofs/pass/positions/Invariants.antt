-- The labels of the lines that are left are set on top of those so far.
use Rattle.std.proofs.Common.{◌≡◌, ◌<◌, ◌^◌, ℕ, List, length}
use Rattle.std.specs.Option.{option_or}
use Rattle.mips_asm.specs.Text.{asm_lines}
use Rattle.mips_asm.specs.Assembled.{label_position, position_from}
use Rattle.mips_asm.specs.Passes.{label_of, Near}
use Rattle.mips_asm.proofs.pass.positions.Given as goal

abbrev pub invariant-loop-positions : goal.invariant-loop-positions
invariant-loop-positions l =
    ((q : List ℕ) → option_or (label_of l.positions q) (position_from l.at (asm_lines l.here) q) ≡ label_position (asm_lines l.text) q)
    × Near l.positions × (l.at < 2 ^ 62)

abbrev pub decreases-loop-positions : goal.decreases-loop-positions
decreases-loop-positions l = length l.here
