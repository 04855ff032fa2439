-- Dropping a leading label leaves what stands after all labels as it is; the text gets shorter.
use Rattle.std.proofs.Common.{◌≡◌, length}
use Rattle.mips_asm.specs.Text.{colon_parts, after_labels}
use Rattle.mips_asm.proofs.line.after_labels.Given as goal

abbrev pub invariant-loop-after : goal.invariant-loop-after
invariant-loop-after l = after_labels (colon_parts l.rest) ≡ after_labels (colon_parts l.text)

abbrev pub decreases-loop-after : goal.decreases-loop-after
decreases-loop-after l = length l.rest
