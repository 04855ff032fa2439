-- The text of words.
use Rattle.std.specs.Prelude.{ℕ, ◌%◌, ◌^◌, ◌==◌, List, [], ◌∷◌, ◌++◌, codes, decimal, flat_map, Option, Some, None, if◌then◌else◌}
use Rattle.std.specs.Fmt.{signed_decimal}
use Rattle.std.specs.Int.{w16, cast_signed}
use Rattle.cvm_text.specs.Hex.{hex8}
use Rattle.mips_table.specs.declared.inst.Inst.{Inst}
use Rattle.mips_table.specs.declared.inst.Inst.TheVariants.{Sll, Srl, Sra, Sllv, Srlv, Srav, Jr, Jalr, Syscall, Add, Addu, Sub, Subu, And, Or, Xor}
use Rattle.mips_table.specs.declared.inst.Inst.TheVariants.{Nor, Slt, Sltu, Bltz, Bgez, J, Jal, Beq, Bne, Blez, Bgtz, Addi, Addiu, Slti, Sltiu, Andi}
use Rattle.mips_table.specs.declared.inst.Inst.TheVariants.{Ori, Xori, Lui, Mfc0, Mtc0, Eret, Lw, Sw, Mult, Multu, Div, Divu, Mfhi, Mthi, Mflo, Mtlo}
use Rattle.mips_table.specs.Decoding.{decoding}
use Rattle.mips_table.specs.Rows.{mnemonic_of}
use Rattle.mips_asm.specs.declared.listing.Written.{Written}
use Rattle.mips_asm.specs.declared.listing.Written.TheVariants.{Register, Special, Number, Signed, Address}

-- the text of the number with a sign that 16 bits mean
abbrev pub signed_text : ℕ → List ℕ
signed_text bits = signed_decimal (cast_signed w16 (bits % 2 ^ 16))

-- the text of an operand
abbrev pub operand_text : Written → List ℕ
operand_text (Register number) = codes "r" ++ decimal number
operand_text (Special number) = codes "c" ++ decimal number
operand_text (Number number) = decimal number
operand_text (Signed bits) = signed_text bits
operand_text (Address bits base) = ((signed_text bits ++ codes "(r") ++ decimal base) ++ codes ")"

-- the operands, with this before the first, and a comma and a blank before each other
abbrev pub listed_operands : List ℕ → List Written → List ℕ
listed_operands before [] = []
listed_operands before (o ∷ os) = (before ++ operand_text o) ++ listed_operands (codes ", ") os

-- what stands before the operand at an index
abbrev pub separator_at : ℕ → List ℕ
separator_at index = if index == 0 then codes " " else codes ", "

-- the operands of an instruction
abbrev pub operands : Inst → List Written
operands (Sll rd rt sa) = Register rd ∷ (Register rt ∷ (Number sa ∷ []))
operands (Srl rd rt sa) = Register rd ∷ (Register rt ∷ (Number sa ∷ []))
operands (Sra rd rt sa) = Register rd ∷ (Register rt ∷ (Number sa ∷ []))
operands (Sllv rd rt rs) = Register rd ∷ (Register rt ∷ (Register rs ∷ []))
operands (Srlv rd rt rs) = Register rd ∷ (Register rt ∷ (Register rs ∷ []))
operands (Srav rd rt rs) = Register rd ∷ (Register rt ∷ (Register rs ∷ []))
operands (Jr rs) = Register rs ∷ []
operands (Jalr rd rs) = Register rd ∷ (Register rs ∷ [])
operands (Syscall code) = if code == 0 then [] else Number code ∷ []
operands (Add rd rs rt) = Register rd ∷ (Register rs ∷ (Register rt ∷ []))
operands (Addu rd rs rt) = Register rd ∷ (Register rs ∷ (Register rt ∷ []))
operands (Sub rd rs rt) = Register rd ∷ (Register rs ∷ (Register rt ∷ []))
operands (Subu rd rs rt) = Register rd ∷ (Register rs ∷ (Register rt ∷ []))
operands (And rd rs rt) = Register rd ∷ (Register rs ∷ (Register rt ∷ []))
operands (Or rd rs rt) = Register rd ∷ (Register rs ∷ (Register rt ∷ []))
operands (Xor rd rs rt) = Register rd ∷ (Register rs ∷ (Register rt ∷ []))
operands (Nor rd rs rt) = Register rd ∷ (Register rs ∷ (Register rt ∷ []))
operands (Slt rd rs rt) = Register rd ∷ (Register rs ∷ (Register rt ∷ []))
operands (Sltu rd rs rt) = Register rd ∷ (Register rs ∷ (Register rt ∷ []))
operands (Bltz rs imm) = Register rs ∷ (Signed imm ∷ [])
operands (Bgez rs imm) = Register rs ∷ (Signed imm ∷ [])
operands (J index) = Number index ∷ []
operands (Jal index) = Number index ∷ []
operands (Beq rs rt imm) = Register rs ∷ (Register rt ∷ (Signed imm ∷ []))
operands (Bne rs rt imm) = Register rs ∷ (Register rt ∷ (Signed imm ∷ []))
operands (Blez rs imm) = Register rs ∷ (Signed imm ∷ [])
operands (Bgtz rs imm) = Register rs ∷ (Signed imm ∷ [])
operands (Addi rt rs imm) = Register rt ∷ (Register rs ∷ (Signed imm ∷ []))
operands (Addiu rt rs imm) = Register rt ∷ (Register rs ∷ (Signed imm ∷ []))
operands (Slti rt rs imm) = Register rt ∷ (Register rs ∷ (Signed imm ∷ []))
operands (Sltiu rt rs imm) = Register rt ∷ (Register rs ∷ (Signed imm ∷ []))
operands (Andi rt rs imm) = Register rt ∷ (Register rs ∷ (Number imm ∷ []))
operands (Ori rt rs imm) = Register rt ∷ (Register rs ∷ (Number imm ∷ []))
operands (Xori rt rs imm) = Register rt ∷ (Register rs ∷ (Number imm ∷ []))
operands (Lui rt imm) = Register rt ∷ (Number imm ∷ [])
operands (Mfc0 rt special) = Register rt ∷ (Special special ∷ [])
operands (Mtc0 rt special) = Register rt ∷ (Special special ∷ [])
operands Eret = []
operands (Lw rt rs imm) = Register rt ∷ (Address imm rs ∷ [])
operands (Sw rt rs imm) = Register rt ∷ (Address imm rs ∷ [])
operands (Mult rs rt) = Register rs ∷ (Register rt ∷ [])
operands (Multu rs rt) = Register rs ∷ (Register rt ∷ [])
operands (Div rs rt) = Register rs ∷ (Register rt ∷ [])
operands (Divu rs rt) = Register rs ∷ (Register rt ∷ [])
operands (Mfhi rd) = Register rd ∷ []
operands (Mthi rs) = Register rs ∷ []
operands (Mflo rd) = Register rd ∷ []
operands (Mtlo rs) = Register rs ∷ []

-- the text of a word: the instruction with its operands, or a directive
abbrev pub line_for : ℕ → Option Inst → List ℕ
line_for word (Some i) = mnemonic_of i ++ listed_operands (codes " ") (operands i)
line_for word None = codes ".word 0x" ++ hex8 word

-- the line of a word
unfoldable pub line_of : ℕ → List ℕ
line_of word = line_for word (decoding word) ++ (10 ∷ [])

-- the text of words
abbrev pub listing : List ℕ → List ℕ
listing words = flat_map line_of words
