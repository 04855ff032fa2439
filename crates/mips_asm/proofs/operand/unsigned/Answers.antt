-- A number below the limit fits its field.
use Rattle.std.proofs.Common.{◌*◌, ◌^◌, ◌%◌, rules, SFits, pos, sym, ◌∙◌, ap, of_z, to_z}
use Rattle.std.specs.Int.{w64}
use Rattle.std.specs.Int.Signed.{le_z, lt_z}
use Rattle.std.proofs.lemmas.Int.{to_z-of_z}
use Rattle.std.proofs.lemmas.Nat.{pow_pos}
use Rattle.mips_asm.proofs.FieldReadings.{unsigned_reading}
use Rattle.mips_asm.specs.Operand.{adds}
use Rattle.mips_asm.proofs.operand.unsigned.Goals as goal
use lib.IntN.{nat_abs}

pub returns-then-value-from : goal.returns-then-value-from
returns-then-value-from c =
    let value = c.args.value in
    let same = to_z-of_z w64 value c.ranges.value in
    let fits : SFits w64 c.from.result = search rules in
    let limit = to_z-of_z w64 c.from.result fits ∙ c.from.ensures in
    ap (λ z. adds (nat_abs z * 2 ^ c.args.position % 4294967296)) same
    ∙ unsigned_reading c.args.limit c.args.position value (sym (ap (le_z (pos 0)) same) ∙ c.if-value-ge0.true)
    (sym (ap (λ z. lt_z z (pos c.args.limit)) same) ∙ sym (ap (lt_z (to_z w64 (of_z w64 value))) limit) ∙ c.if-value-from.true) (pow_pos c.args.position) c.requires.fits
