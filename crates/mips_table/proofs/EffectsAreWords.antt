-- What an instruction writes is a word, and the register that it writes is one of the 32. So a machine whose words are
-- below 2^32 keeps them so, and a list of 32 registers takes each write.
use Rattle.std.proofs.Common.{ℕ, ◌+◌, ◌-◌, ◌*◌, ◌/◌, ◌%◌, ◌^◌, ◌<◌, Bool, not, refl, arith, ltb-true, mul-le-mul}
use Rattle.std.specs.Prelude.{zero, suc, true, false, ℤ, pos, negsuc, nat_abs, neg_ℤ, nat_lt, ◌*ℤ◌, int_div, int_rem, ◌==◌, ◌≡◌, ◌≤◌}
use Rattle.std.specs.Int.{cast_unsigned, w32, w64}
use Rattle.std.proofs.lemmas.Bool.{cond_both, ltb-false}
use Rattle.std.proofs.lemmas.Int.{unsigned_abs-mul}
use Rattle.std.proofs.lemmas.Nat.{and_le_l, or_of_32, xor_of_32, mul-lt}
use Rattle.std.proofs.Math.Nat.{div-le_self, mod-le}
use Rattle.mips_table.specs.declared.inst.Inst.{Inst}
use Rattle.mips_table.specs.declared.inst.Inst.TheVariants.{Sll, Srl, Sra, Sllv, Srlv, Srav, Jr, Jalr, Syscall, Add, Addu, Sub, Subu, And, Or, Xor, Nor, Slt, Sltu, Bltz, Bgez, J, Jal, Beq, Bne, Blez, Bgtz, Addi, Addiu, Slti, Sltiu, Andi, Ori, Xori, Lui, Mfc0, Mtc0, Eret, Lw, Sw, Mult, Multu, Div, Divu, Mfhi, Mthi, Mflo, Mtlo}
use Rattle.mips_table.specs.declared.effect.Effect.TheVariants.{Set, Wide, Overflow}
use Rattle.mips_table.specs.Arith.{signed, sum, difference, sum_overflows, difference_overflows, is_negative, is_positive, shifted_signed, extended, flag, signed_product, signed_quotient, signed_remainder}
use Rattle.mips_table.specs.Encoding.{InRange}
use Rattle.mips_table.specs.Effect.{next_address, branch, jump_target, set_halves, division_effect, divided_unsigned, effect_of}
use Rattle.mips_table.specs.Fits.{IsWord, EffectFits}

cut : (n : ℕ) → n % 2 ^ 32 < 2 ^ 32
cut n = omega arith

top : (n : ℕ) → 2 ^ 32 - 1 - n < 2 ^ 32
top n = omega arith

part : (n k : ℕ) → n < 2 ^ 32 → n / k < 2 ^ 32
part n k h = omega (arith, div-le_self n k)

bit : (b : Bool) → flag b < 2 ^ 32
bit b = cond_both b 1 0 IsWord (λ e. omega arith) (λ e. omega arith)

signed_part : (n k : ℕ) → n < 2 ^ 32 → shifted_signed n k < 2 ^ 32
signed_part n k h = cond_both (is_negative n) (2 ^ 32 - 1 - (2 ^ 32 - 1 - n) / 2 ^ k) (n / 2 ^ k) IsWord (λ e. top _) (λ e. part n (2 ^ k) h)

branches : (pc imm : ℕ) (taken : Bool) → branch pc imm taken < 2 ^ 32
branches pc imm taken = cond_both taken ((pc + 4 + 4 * extended imm) % 2 ^ 32) (next_address pc) IsWord (λ e. cut _) (λ e. cut _)

jumps : (pc index : ℕ) → index < 2 ^ 26 → jump_target pc index < 2 ^ 32
jumps pc index h = omega arith

within : (n : ℕ) → n < 2 ^ 16 → n < 2 ^ 32
within n h = omega arith

-- the bits of a whole number that is small
cast32 : (z : ℤ) → nat_abs z ≤ 2 ^ 31 → cast_unsigned w32 z < 2 ^ 32
cast32 (pos n) h = omega arith
cast32 (negsuc n) h = omega arith

cast64 : (z : ℤ) → nat_abs z ≤ 2 ^ 62 → cast_unsigned w64 z < 2 ^ 64
cast64 (pos n) h = omega arith
cast64 (negsuc n) h = omega arith

-- a word as a whole number
size : (a : ℕ) → IsWord a → nat_abs (signed a) ≤ 2 ^ 31
size a h = by (nat_lt a (2 ^ 31)) refl
  where
    by : (b : Bool) → nat_lt a (2 ^ 31) ≡ b → nat_abs (signed a) ≤ 2 ^ 31
    by true e = let lt : a < 2 ^ 31 = ltb-true a (2 ^ 31) e in rw e (omega arith)
    by false e = let ge : 2 ^ 31 ≤ a = ltb-false a (2 ^ 31) e in rw e (omega arith)

size_neg : (n : ℕ) → nat_abs (neg_ℤ (pos n)) ≡ n
size_neg zero = refl
size_neg (suc n) = refl

size_div : (a b : ℤ) → nat_abs (int_div a b) ≤ nat_abs a
size_div (pos a) (pos b) = div-le_self a b
size_div (pos a) (negsuc b) = omega (arith, size_neg (a / suc b), div-le_self a (suc b))
size_div (negsuc a) (pos b) = omega (arith, size_neg (suc a / b), div-le_self (suc a) b)
size_div (negsuc a) (negsuc b) = div-le_self (suc a) (suc b)

size_rem : (a b : ℤ) → nat_abs (int_rem a b) ≤ nat_abs a
size_rem (pos a) b = mod-le a (nat_abs b)
size_rem (negsuc a) b = omega (arith, size_neg (suc a % nat_abs b), mod-le (suc a) (nat_abs b))

product64 : (a b : ℕ) → IsWord a → IsWord b → signed_product a b < 2 ^ 64
product64 a b h k =
    let x : ℤ = signed a in
    let y : ℤ = signed b in
    cast64 (x *ℤ y) (omega (arith, unsigned_abs-mul x y, mul-le-mul (size a h) (size b k)))

-- hi and lo of 64 bits, of a division, and of one without sign
halved : (pc n : ℕ) → n < 2 ^ 64 → EffectFits (set_halves pc n)
halved pc n h = (omega arith, cut n, cut _)

divides : (a b pc hi lo : ℕ) → IsWord a → IsWord hi → IsWord lo → EffectFits (division_effect a b pc hi lo)
divides a b pc hi lo h u l =
    let x : ℤ = signed a in
    let y : ℤ = signed b in
    let most : nat_abs x ≤ 2 ^ 31 = size a h in
    cond_both (b == 0) (Wide hi lo (next_address pc)) (Wide (signed_remainder a b) (signed_quotient a b) (next_address pc)) EffectFits (λ e. (u, l, cut _))
    (λ e. (cast32 (int_rem x y) (omega (arith, size_rem x y)), cast32 (int_div x y) (omega (arith, size_div x y)), cut _))

divides_unsigned : (a b pc hi lo : ℕ) → IsWord a → IsWord hi → IsWord lo → EffectFits (divided_unsigned a b pc hi lo)
divides_unsigned a b pc hi lo h u l =
    cond_both (b == 0) (Wide hi lo (next_address pc)) (Wide (a % b) (a / b) (next_address pc)) EffectFits (λ e. (u, l, cut _)) (λ e. (omega (arith, mod-le a b), part a b h, cut _))

pub bounded : (i : Inst) (pc : ℕ) (reg : ℕ → ℕ) (hi lo : ℕ) → ((r : ℕ) → IsWord (reg r)) → IsWord hi → IsWord lo → InRange i → EffectFits (effect_of i pc reg hi lo)
bounded (Sll rd rt sa) pc reg hi lo w u l h = (h.0, cut _, cut _)
bounded (Srl rd rt sa) pc reg hi lo w u l h = (h.0, part _ _ (w rt), cut _)
bounded (Sra rd rt sa) pc reg hi lo w u l h = (h.0, signed_part _ _ (w rt), cut _)
bounded (Sllv rd rt rs) pc reg hi lo w u l h = (h.0, cut _, cut _)
bounded (Srlv rd rt rs) pc reg hi lo w u l h = (h.0, part _ _ (w rt), cut _)
bounded (Srav rd rt rs) pc reg hi lo w u l h = (h.0, signed_part _ _ (w rt), cut _)
bounded (Jr rs) pc reg hi lo w u l h = (omega arith, omega arith, w rs)
bounded (Jalr rd rs) pc reg hi lo w u l h = (h.0, cut _, w rs)
bounded (Syscall code) pc reg hi lo w u l h = tt
bounded (Add rd rs rt) pc reg hi lo w u l h = cond_both (sum_overflows (reg rs) (reg rt)) Overflow (Set rd (sum (reg rs) (reg rt)) (next_address pc)) EffectFits (λ e. tt) (λ e. (h.0, cut _, cut _))
bounded (Addu rd rs rt) pc reg hi lo w u l h = (h.0, cut _, cut _)
bounded (Sub rd rs rt) pc reg hi lo w u l h = cond_both (difference_overflows (reg rs) (reg rt)) Overflow (Set rd (difference (reg rs) (reg rt)) (next_address pc)) EffectFits (λ e. tt) (λ e. (h.0, cut _, cut _))
bounded (Subu rd rs rt) pc reg hi lo w u l h = (h.0, cut _, cut _)
bounded (And rd rs rt) pc reg hi lo w u l h = (h.0, omega (arith, and_le_l (reg rs) (reg rt), w rs), cut _)
bounded (Or rd rs rt) pc reg hi lo w u l h = (h.0, or_of_32 _ _ (w rs) (w rt), cut _)
bounded (Xor rd rs rt) pc reg hi lo w u l h = (h.0, xor_of_32 _ _ (w rs) (w rt), cut _)
bounded (Nor rd rs rt) pc reg hi lo w u l h = (h.0, top _, cut _)
bounded (Slt rd rs rt) pc reg hi lo w u l h = (h.0, bit _, cut _)
bounded (Sltu rd rs rt) pc reg hi lo w u l h = (h.0, bit _, cut _)
bounded (Bltz rs imm) pc reg hi lo w u l h = (omega arith, omega arith, branches pc imm (is_negative (reg rs)))
bounded (Bgez rs imm) pc reg hi lo w u l h = (omega arith, omega arith, branches pc imm (not (is_negative (reg rs))))
bounded (J index) pc reg hi lo w u l h = (omega arith, omega arith, jumps _ _ h)
bounded (Jal index) pc reg hi lo w u l h = (omega arith, cut _, jumps _ _ h)
bounded (Beq rs rt imm) pc reg hi lo w u l h = (omega arith, omega arith, branches pc imm (reg rs == reg rt))
bounded (Bne rs rt imm) pc reg hi lo w u l h = (omega arith, omega arith, branches pc imm (not (reg rs == reg rt)))
bounded (Blez rs imm) pc reg hi lo w u l h = (omega arith, omega arith, branches pc imm (not (is_positive (reg rs))))
bounded (Bgtz rs imm) pc reg hi lo w u l h = (omega arith, omega arith, branches pc imm (is_positive (reg rs)))
bounded (Addi rt rs imm) pc reg hi lo w u l h = cond_both (sum_overflows (reg rs) (extended imm)) Overflow (Set rt (sum (reg rs) (extended imm)) (next_address pc)) EffectFits (λ e. tt) (λ e. (h.0, cut _, cut _))
bounded (Addiu rt rs imm) pc reg hi lo w u l h = (h.0, cut _, cut _)
bounded (Slti rt rs imm) pc reg hi lo w u l h = (h.0, bit _, cut _)
bounded (Sltiu rt rs imm) pc reg hi lo w u l h = (h.0, bit _, cut _)
bounded (Andi rt rs imm) pc reg hi lo w u l h = (h.0, omega (arith, and_le_l (reg rs) imm, w rs), cut _)
bounded (Ori rt rs imm) pc reg hi lo w u l h = (h.0, or_of_32 _ _ (w rs) (within _ h.2), cut _)
bounded (Xori rt rs imm) pc reg hi lo w u l h = (h.0, xor_of_32 _ _ (w rs) (within _ h.2), cut _)
bounded (Lui rt imm) pc reg hi lo w u l h = (h.0, omega (arith, h.1), cut _)
bounded (Mfc0 rt special) pc reg hi lo w u l h = tt
bounded (Mtc0 rt special) pc reg hi lo w u l h = tt
bounded Eret pc reg hi lo w u l h = tt
bounded (Lw rt rs imm) pc reg hi lo w u l h = (h.0, cut _)
bounded (Sw rt rs imm) pc reg hi lo w u l h = (cut _, w rt)
bounded (Mult rs rt) pc reg hi lo w u l h = halved pc _ (product64 (reg rs) (reg rt) (w rs) (w rt))
bounded (Multu rs rt) pc reg hi lo w u l h = halved pc _ (mul-lt (reg rs) (reg rt) (2 ^ 32) (2 ^ 32) (w rs) (w rt))
bounded (Div rs rt) pc reg hi lo w u l h = divides (reg rs) (reg rt) pc hi lo (w rs) u l
bounded (Divu rs rt) pc reg hi lo w u l h = divides_unsigned (reg rs) (reg rt) pc hi lo (w rs) u l
bounded (Mfhi rd) pc reg hi lo w u l h = (h, u, cut _)
bounded (Mthi rs) pc reg hi lo w u l h = (w rs, l, cut _)
bounded (Mflo rd) pc reg hi lo w u l h = (h, l, cut _)
bounded (Mtlo rs) pc reg hi lo w u l h = (u, w rs, cut _)
