-- Fields of operands: a number below a limit, and the register of an address.
use Rattle.std.proofs.Common.{◌≡◌, ◌<◌, ◌≤◌, ◌+◌, ◌*◌, ◌^◌, ◌%◌, ℕ, ℤ, pos, negsuc, true, cond, List, drop, take, Some, sym, ap, ◌∙◌, arith, true≢false}
use Rattle.std.specs.Prelude.{option_and_then, nat_lt}
use Rattle.std.specs.Int.Signed.{le_z, lt_z}
use Rattle.std.proofs.Math.Nat.{mod-eq_of_lt, mul-le-mul_right}
use Rattle.std.proofs.lemmas.Bool.Decides.{nat_tests}
use Rattle.mips_asm.specs.Operand.{adds, out, unsigned, memory, with_base, register, in_parentheses, len_before}
use Rattle.mips_asm.specs.Number.{number_value}
use Rattle.mips_asm.specs.Text.{trim}
use lib.IntN.{nat_abs}

below_limit : (n limit : ℕ) → nat_lt n limit ≡ true → n < limit
below_limit n limit h = grind (arith, nat_tests)

field_fits : (n limit position : ℕ) → n < limit → 0 < 2 ^ position → limit * 2 ^ position ≤ 2 ^ 32 → n * 2 ^ position < 2 ^ 32
field_fits n limit position small positive fits =
    let more : (n + 1) * 2 ^ position ≤ limit * 2 ^ position = mul-le-mul_right (2 ^ position) (omega arith) in
    omega (arith, more)

pub unsigned_reading : (limit position : ℕ) (z : ℤ) → le_z (pos 0) z ≡ true → lt_z z (pos limit) ≡ true → 0 < 2 ^ position → limit * 2 ^ position ≤ 2 ^ 32
    → adds (nat_abs z * 2 ^ position % 4294967296) ≡ unsigned limit position z
unsigned_reading limit position (pos n) positive small some fits =
    ap adds (mod-eq_of_lt (field_fits n limit position (below_limit n limit small) some fits)) ∙ sym (ap (λ b. cond b (adds (n * 2 ^ position)) (out (pos n))) small)
unsigned_reading limit position (negsuc n) positive small some fits = absurd (true≢false (sym positive))

pub memory_reading : (text : List ℕ) (z : ℤ) (r : ℕ) (t : List ℕ) → number_value (trim (take (len_before 40 text) text)) ≡ Some z → in_parentheses (drop (len_before 40 text) text) ≡ Some t
    → register (trim t) ≡ Some r → with_base (Some z) (Some r) ≡ memory text
memory_reading text z r t offset within base =
    sym (ap (λ o. with_base o (option_and_then (λ s. register (trim s)) (in_parentheses (drop (len_before 40 text) text)))) offset
    ∙ ap (λ o. with_base (Some z) (option_and_then (λ s. register (trim s)) o)) within ∙ ap (with_base (Some z)) base)
