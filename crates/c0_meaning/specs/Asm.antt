-- Which words the body of an asm function may have.
use Rattle.std.specs.Prelude.{ℕ, Bool, false, ◌&&◌, ◌||◌, ◌==◌, nat_le, List, Option, Some, None}
use Rattle.std.specs.List.{list_all}
use Rattle.mips_table.specs.declared.inst.Inst.{Inst}
use Rattle.mips_table.specs.declared.inst.Inst.TheVariants.{Sll, Srl, Sra, Sllv, Srlv, Srav, Jr, Jalr, Syscall, Add, Addu, Sub, Subu, And, Or, Xor}
use Rattle.mips_table.specs.declared.inst.Inst.TheVariants.{Nor, Slt, Sltu, Bltz, Bgez, J, Jal, Beq, Bne, Blez, Bgtz, Addi, Addiu, Slti, Sltiu, Andi}
use Rattle.mips_table.specs.declared.inst.Inst.TheVariants.{Ori, Xori, Lui, Mfc0, Mtc0, Eret, Lw, Sw, Mult, Multu, Div, Divu, Mfhi, Mthi, Mflo, Mtlo}
use Rattle.mips_table.specs.Decoding.{decoding}

-- register 0, and 2 to 7
abbrev pub may_use : ℕ → Bool
may_use r = (r == 0) || (nat_le 2 r && nat_le r 7)

-- the registers of an instruction, each of which an asm function may use
abbrev pub one_usable : ℕ → Bool
one_usable r = may_use r

-- both registers may be used
abbrev pub two_usable : ℕ → ℕ → Bool
two_usable r s = may_use r && may_use s

-- all three registers may be used
abbrev pub three_usable : ℕ → ℕ → ℕ → Bool
three_usable r s t = may_use r && (may_use s && may_use t)

-- whether an asm function may have an instruction: one that only computes on registers, without a trap, over registers that it may use
abbrev pub is_allowed : Inst → Bool
is_allowed (Sll rd rt sa) = two_usable rd rt
is_allowed (Srl rd rt sa) = two_usable rd rt
is_allowed (Sra rd rt sa) = two_usable rd rt
is_allowed (Sllv rd rt rs) = three_usable rd rt rs
is_allowed (Srlv rd rt rs) = three_usable rd rt rs
is_allowed (Srav rd rt rs) = three_usable rd rt rs
is_allowed (Jr rs) = false
is_allowed (Jalr rd rs) = false
is_allowed (Syscall code) = false
is_allowed (Add rd rs rt) = false
is_allowed (Addu rd rs rt) = three_usable rd rs rt
is_allowed (Sub rd rs rt) = false
is_allowed (Subu rd rs rt) = three_usable rd rs rt
is_allowed (And rd rs rt) = three_usable rd rs rt
is_allowed (Or rd rs rt) = three_usable rd rs rt
is_allowed (Xor rd rs rt) = three_usable rd rs rt
is_allowed (Nor rd rs rt) = three_usable rd rs rt
is_allowed (Slt rd rs rt) = three_usable rd rs rt
is_allowed (Sltu rd rs rt) = three_usable rd rs rt
is_allowed (Bltz rs imm) = false
is_allowed (Bgez rs imm) = false
is_allowed (J index) = false
is_allowed (Jal index) = false
is_allowed (Beq rs rt imm) = false
is_allowed (Bne rs rt imm) = false
is_allowed (Blez rs imm) = false
is_allowed (Bgtz rs imm) = false
is_allowed (Addi rt rs imm) = false
is_allowed (Addiu rt rs imm) = two_usable rt rs
is_allowed (Slti rt rs imm) = two_usable rt rs
is_allowed (Sltiu rt rs imm) = two_usable rt rs
is_allowed (Andi rt rs imm) = two_usable rt rs
is_allowed (Ori rt rs imm) = two_usable rt rs
is_allowed (Xori rt rs imm) = two_usable rt rs
is_allowed (Lui rt imm) = one_usable rt
is_allowed (Mfc0 rt special) = false
is_allowed (Mtc0 rt special) = false
is_allowed Eret = false
is_allowed (Lw rt rs imm) = false
is_allowed (Sw rt rs imm) = false
is_allowed (Mult rs rt) = false
is_allowed (Multu rs rt) = false
is_allowed (Div rs rt) = false
is_allowed (Divu rs rt) = false
is_allowed (Mfhi rd) = false
is_allowed (Mthi rs) = false
is_allowed (Mflo rd) = false
is_allowed (Mtlo rs) = false

-- whether a word is that of an instruction that an asm function may have
abbrev pub is_allowed_word : ℕ → Bool
is_allowed_word word = of_decoded (decoding word)
  where
    of_decoded : Option Inst → Bool
    of_decoded None = false
    of_decoded (Some inst) = is_allowed inst

-- whether all words are of instructions that an asm function may have
abbrev pub are_allowed_words : List ℕ → Bool
are_allowed_words words = list_all is_allowed_word words
