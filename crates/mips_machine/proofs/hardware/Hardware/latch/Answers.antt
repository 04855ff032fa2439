-- No line changes nothing of the mask.
use Rattle.std.proofs.Common.{◌≡◌, ℕ, sym, ap, ◌∙◌, bit_or}
use lib.Bits.{or_zero_r}
use Rattle.mips_machine.specs.Hardware.{Hardware}
use Rattle.mips_machine.proofs.hardware.Hardware.latch.Goals as goal

pub returns-else-lines-ne0 : goal.returns-else-lines-ne0
returns-else-lines-ne0 c =
    let h = c.args.self.now in
    let same : h.mask ≡ bit_or h.mask c.args.lines.0 = sym (or_zero_r h.mask) ∙ ap (bit_or h.mask) (sym c.if-lines-ne0.false) in
    ap (λ (m : ℕ). let it : Hardware = record h { mask = m } in it) same
