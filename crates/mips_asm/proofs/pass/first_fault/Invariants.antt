-- The first fault of the text is that of the lines that are left.
use Rattle.std.proofs.Common.{◌≡◌, ◌<◌, ◌≤◌, ◌+◌, ◌^◌, false, length}
use Rattle.std.specs.Prelude.{is_some}
use Rattle.mips_asm.specs.Text.{asm_lines}
use Rattle.mips_asm.specs.Passes.{label_of, fault_from}
use Rattle.mips_asm.proofs.pass.first_fault.Given as goal

abbrev pub invariant-loop-seen : goal.invariant-loop-seen
invariant-loop-seen l =
    (fault_from (label_of l.positions) (λ q. is_some (label_of l.seen q)) l.start l.number l.at (asm_lines l.here)
    ≡ fault_from (label_of l.positions) (λ q. false) 0 1 0 (asm_lines l.text))
    × (l.at < 2 ^ 62) × (l.start + length l.here ≡ length l.text) × (l.number ≤ l.start + 1)

abbrev pub decreases-loop-seen : goal.decreases-loop-seen
decreases-loop-seen l = length l.here
