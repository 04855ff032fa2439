-- What each instruction does.
use Rattle.std.specs.Prelude.{ℕ, ◌+◌, ◌*◌, ◌/◌, ◌%◌, ◌^◌, ◌<◌, Bool, not, if◌then◌else◌, ◌==◌, nat_lt, bit_and, bit_or, bit_xor}
use Rattle.mips_table.specs.declared.inst.Inst.{Inst}
use Rattle.mips_table.specs.declared.inst.Inst.TheVariants.{Sll, Srl, Sra, Sllv, Srlv, Srav, Jr, Jalr, Syscall, Add, Addu, Sub, Subu, And, Or, Xor}
use Rattle.mips_table.specs.declared.inst.Inst.TheVariants.{Nor, Slt, Sltu, Bltz, Bgez, J, Jal, Beq, Bne, Blez, Bgtz, Addi, Addiu, Slti, Sltiu, Andi}
use Rattle.mips_table.specs.declared.inst.Inst.TheVariants.{Ori, Xori, Lui, Mfc0, Mtc0, Eret, Lw, Sw, Mult, Multu, Div, Divu, Mfhi, Mthi, Mflo, Mtlo}
use Rattle.mips_table.specs.declared.effect.Effect.{Effect}
use Rattle.mips_table.specs.declared.effect.Effect.TheVariants.{Set, Wide, Load, Store, Overflow, Call, System}
use Rattle.mips_table.specs.Arith.{sum, difference, sum_overflows, difference_overflows, less, is_negative, is_positive, shifted_left, shifted_right}
use Rattle.mips_table.specs.Arith.{shifted_signed, nor, flag, extended, signed_product, upper, lower, signed_quotient, signed_remainder}

-- the address of the next instruction
abbrev pub next_address : ℕ → ℕ
next_address pc = (pc + 4) % 2 ^ 32

-- where a branch goes: the offset counts words from the next instruction
abbrev pub branch : ℕ → ℕ → Bool → ℕ
branch pc imm taken = if taken then (pc + 4 + 4 * extended imm) % 2 ^ 32 else next_address pc

-- where a jump goes: in the part of 2^28 bytes of the next instruction
abbrev pub jump_target : ℕ → ℕ → ℕ
jump_target pc index = 4 * index + next_address pc / 2 ^ 28 * 2 ^ 28

-- hi and lo get the halves of 64 bits
abbrev pub set_halves : ℕ → ℕ → Effect
set_halves pc n = Wide (upper n) (lower n) (next_address pc)

-- hi and lo after the division of signed words: what is left, and the quotient; a division by 0 leaves them
abbrev pub division_effect : (a b pc hi lo : ℕ) → Effect
division_effect a b pc hi lo = if b == 0 then Wide hi lo (next_address pc) else Wide (signed_remainder a b) (signed_quotient a b) (next_address pc)

-- the same of words without sign
abbrev pub divided_unsigned : (a b pc hi lo : ℕ) → Effect
divided_unsigned a b pc hi lo = if b == 0 then Wide hi lo (next_address pc) else Wide (a % b) (a / b) (next_address pc)

-- The effect of an instruction at pc, where reg r is what register r has, beside hi and lo.
-- Set says what is written to a register (nothing is written to register 0), Wide what hi and lo become, and both where pc goes.
abbrev pub effect_of : Inst → ℕ → (ℕ → ℕ) → ℕ → ℕ → Effect
effect_of (Sll rd rt sa) pc reg hi lo = Set rd (shifted_left (reg rt) sa) (next_address pc)
effect_of (Srl rd rt sa) pc reg hi lo = Set rd (shifted_right (reg rt) sa) (next_address pc)
effect_of (Sra rd rt sa) pc reg hi lo = Set rd (shifted_signed (reg rt) sa) (next_address pc)
effect_of (Sllv rd rt rs) pc reg hi lo = Set rd (shifted_left (reg rt) (reg rs % 2 ^ 5)) (next_address pc)
effect_of (Srlv rd rt rs) pc reg hi lo = Set rd (shifted_right (reg rt) (reg rs % 2 ^ 5)) (next_address pc)
effect_of (Srav rd rt rs) pc reg hi lo = Set rd (shifted_signed (reg rt) (reg rs % 2 ^ 5)) (next_address pc)
effect_of (Jr rs) pc reg hi lo = Set 0 0 (reg rs)
effect_of (Jalr rd rs) pc reg hi lo = Set rd (next_address pc) (reg rs)
effect_of (Syscall _) pc reg hi lo = Call
effect_of (Add rd rs rt) pc reg hi lo = if sum_overflows (reg rs) (reg rt) then Overflow else Set rd (sum (reg rs) (reg rt)) (next_address pc)
effect_of (Addu rd rs rt) pc reg hi lo = Set rd (sum (reg rs) (reg rt)) (next_address pc)
effect_of (Sub rd rs rt) pc reg hi lo = if difference_overflows (reg rs) (reg rt) then Overflow else Set rd (difference (reg rs) (reg rt)) (next_address pc)
effect_of (Subu rd rs rt) pc reg hi lo = Set rd (difference (reg rs) (reg rt)) (next_address pc)
effect_of (And rd rs rt) pc reg hi lo = Set rd (bit_and (reg rs) (reg rt)) (next_address pc)
effect_of (Or rd rs rt) pc reg hi lo = Set rd (bit_or (reg rs) (reg rt)) (next_address pc)
effect_of (Xor rd rs rt) pc reg hi lo = Set rd (bit_xor (reg rs) (reg rt)) (next_address pc)
effect_of (Nor rd rs rt) pc reg hi lo = Set rd (nor (reg rs) (reg rt)) (next_address pc)
effect_of (Slt rd rs rt) pc reg hi lo = Set rd (flag (less (reg rs) (reg rt))) (next_address pc)
effect_of (Sltu rd rs rt) pc reg hi lo = Set rd (flag (nat_lt (reg rs) (reg rt))) (next_address pc)
effect_of (Bltz rs imm) pc reg hi lo = Set 0 0 (branch pc imm (is_negative (reg rs)))
effect_of (Bgez rs imm) pc reg hi lo = Set 0 0 (branch pc imm (not (is_negative (reg rs))))
effect_of (J index) pc reg hi lo = Set 0 0 (jump_target pc index)
effect_of (Jal index) pc reg hi lo = Set 31 (next_address pc) (jump_target pc index)
effect_of (Beq rs rt imm) pc reg hi lo = Set 0 0 (branch pc imm (reg rs == reg rt))
effect_of (Bne rs rt imm) pc reg hi lo = Set 0 0 (branch pc imm (not (reg rs == reg rt)))
effect_of (Blez rs imm) pc reg hi lo = Set 0 0 (branch pc imm (not (is_positive (reg rs))))
effect_of (Bgtz rs imm) pc reg hi lo = Set 0 0 (branch pc imm (is_positive (reg rs)))
effect_of (Addi rt rs imm) pc reg hi lo = if sum_overflows (reg rs) (extended imm) then Overflow else Set rt (sum (reg rs) (extended imm)) (next_address pc)
effect_of (Addiu rt rs imm) pc reg hi lo = Set rt (sum (reg rs) (extended imm)) (next_address pc)
effect_of (Slti rt rs imm) pc reg hi lo = Set rt (flag (less (reg rs) (extended imm))) (next_address pc)
effect_of (Sltiu rt rs imm) pc reg hi lo = Set rt (flag (nat_lt (reg rs) (extended imm))) (next_address pc)
effect_of (Andi rt rs imm) pc reg hi lo = Set rt (bit_and (reg rs) imm) (next_address pc)
effect_of (Ori rt rs imm) pc reg hi lo = Set rt (bit_or (reg rs) imm) (next_address pc)
effect_of (Xori rt rs imm) pc reg hi lo = Set rt (bit_xor (reg rs) imm) (next_address pc)
effect_of (Lui rt imm) pc reg hi lo = Set rt (imm * 2 ^ 16) (next_address pc)
effect_of (Mfc0 _ _) pc reg hi lo = System
effect_of (Mtc0 _ _) pc reg hi lo = System
effect_of Eret pc reg hi lo = System
effect_of (Lw rt rs imm) pc reg hi lo = Load rt (sum (reg rs) (extended imm))
effect_of (Sw rt rs imm) pc reg hi lo = Store (sum (reg rs) (extended imm)) (reg rt)
effect_of (Mult rs rt) pc reg hi lo = set_halves pc (signed_product (reg rs) (reg rt))
effect_of (Multu rs rt) pc reg hi lo = set_halves pc (reg rs * reg rt)
effect_of (Div rs rt) pc reg hi lo = division_effect (reg rs) (reg rt) pc hi lo
effect_of (Divu rs rt) pc reg hi lo = divided_unsigned (reg rs) (reg rt) pc hi lo
effect_of (Mfhi rd) pc reg hi lo = Set rd hi (next_address pc)
effect_of (Mthi rs) pc reg hi lo = Wide (reg rs) lo (next_address pc)
effect_of (Mflo rd) pc reg hi lo = Set rd lo (next_address pc)
effect_of (Mtlo rs) pc reg hi lo = Wide hi (reg rs) (next_address pc)

-- the register that is written is one of the 32
abbrev pub HasRegister : Effect → Type 0
HasRegister (Set register value to) = register < 32
HasRegister (Wide hi lo to) = Unit {0}
HasRegister (Load register address) = register < 32
HasRegister (Store address value) = Unit {0}
HasRegister Overflow = Unit {0}
HasRegister Call = Unit {0}
HasRegister System = Unit {0}
