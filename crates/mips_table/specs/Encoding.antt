-- The instruction table: the word of each instruction.
use Rattle.std.specs.Prelude.{ℕ, ◌^◌, ◌<◌, ◌≤◌}
use Rattle.mips_table.specs.declared.inst.Inst.{Inst}
use Rattle.mips_table.specs.declared.inst.Inst.TheVariants.{Sll, Srl, Sra, Sllv, Srlv, Srav, Jr, Jalr, Syscall, Add, Addu, Sub, Subu, And, Or, Xor}
use Rattle.mips_table.specs.declared.inst.Inst.TheVariants.{Nor, Slt, Sltu, Bltz, Bgez, J, Jal, Beq, Bne, Blez, Bgtz, Addi, Addiu, Slti, Sltiu, Andi}
use Rattle.mips_table.specs.declared.inst.Inst.TheVariants.{Ori, Xori, Lui, Mfc0, Mtc0, Eret, Lw, Sw, Mult, Multu, Div, Divu, Mfhi, Mthi, Mflo, Mtlo}
use Rattle.mips_table.specs.Word.{r_word, i_word, j_word, code_word}

-- each field fits its place in the word, and a special register is at most 8
abbrev pub InRange : Inst → Type 0
InRange (Sll rd rt sa) = (rd < 32) × (rt < 32) × (sa < 32)
InRange (Srl rd rt sa) = (rd < 32) × (rt < 32) × (sa < 32)
InRange (Sra rd rt sa) = (rd < 32) × (rt < 32) × (sa < 32)
InRange (Sllv rd rt rs) = (rd < 32) × (rt < 32) × (rs < 32)
InRange (Srlv rd rt rs) = (rd < 32) × (rt < 32) × (rs < 32)
InRange (Srav rd rt rs) = (rd < 32) × (rt < 32) × (rs < 32)
InRange (Jr rs) = rs < 32
InRange (Jalr rd rs) = (rd < 32) × (rs < 32)
InRange (Syscall code) = code < 2 ^ 20
InRange (Add rd rs rt) = (rd < 32) × (rs < 32) × (rt < 32)
InRange (Addu rd rs rt) = (rd < 32) × (rs < 32) × (rt < 32)
InRange (Sub rd rs rt) = (rd < 32) × (rs < 32) × (rt < 32)
InRange (Subu rd rs rt) = (rd < 32) × (rs < 32) × (rt < 32)
InRange (And rd rs rt) = (rd < 32) × (rs < 32) × (rt < 32)
InRange (Or rd rs rt) = (rd < 32) × (rs < 32) × (rt < 32)
InRange (Xor rd rs rt) = (rd < 32) × (rs < 32) × (rt < 32)
InRange (Nor rd rs rt) = (rd < 32) × (rs < 32) × (rt < 32)
InRange (Slt rd rs rt) = (rd < 32) × (rs < 32) × (rt < 32)
InRange (Sltu rd rs rt) = (rd < 32) × (rs < 32) × (rt < 32)
InRange (Bltz rs imm) = (rs < 32) × (imm < 2 ^ 16)
InRange (Bgez rs imm) = (rs < 32) × (imm < 2 ^ 16)
InRange (J index) = index < 2 ^ 26
InRange (Jal index) = index < 2 ^ 26
InRange (Beq rs rt imm) = (rs < 32) × (rt < 32) × (imm < 2 ^ 16)
InRange (Bne rs rt imm) = (rs < 32) × (rt < 32) × (imm < 2 ^ 16)
InRange (Blez rs imm) = (rs < 32) × (imm < 2 ^ 16)
InRange (Bgtz rs imm) = (rs < 32) × (imm < 2 ^ 16)
InRange (Addi rt rs imm) = (rt < 32) × (rs < 32) × (imm < 2 ^ 16)
InRange (Addiu rt rs imm) = (rt < 32) × (rs < 32) × (imm < 2 ^ 16)
InRange (Slti rt rs imm) = (rt < 32) × (rs < 32) × (imm < 2 ^ 16)
InRange (Sltiu rt rs imm) = (rt < 32) × (rs < 32) × (imm < 2 ^ 16)
InRange (Andi rt rs imm) = (rt < 32) × (rs < 32) × (imm < 2 ^ 16)
InRange (Ori rt rs imm) = (rt < 32) × (rs < 32) × (imm < 2 ^ 16)
InRange (Xori rt rs imm) = (rt < 32) × (rs < 32) × (imm < 2 ^ 16)
InRange (Lui rt imm) = (rt < 32) × (imm < 2 ^ 16)
InRange (Mfc0 rt special) = (rt < 32) × (special ≤ 8)
InRange (Mtc0 rt special) = (rt < 32) × (special ≤ 8)
InRange Eret = Unit {0}
InRange (Lw rt rs imm) = (rt < 32) × (rs < 32) × (imm < 2 ^ 16)
InRange (Sw rt rs imm) = (rt < 32) × (rs < 32) × (imm < 2 ^ 16)
InRange (Mult rs rt) = (rs < 32) × (rt < 32)
InRange (Multu rs rt) = (rs < 32) × (rt < 32)
InRange (Div rs rt) = (rs < 32) × (rt < 32)
InRange (Divu rs rt) = (rs < 32) × (rt < 32)
InRange (Mfhi rd) = rd < 32
InRange (Mthi rs) = rs < 32
InRange (Mflo rd) = rd < 32
InRange (Mtlo rs) = rs < 32

-- the word of an instruction; a field that the instruction doesn't name is 0
abbrev pub encoding : Inst → ℕ
encoding (Sll rd rt sa) = r_word 0 0 rt rd sa 0x00
encoding (Srl rd rt sa) = r_word 0 0 rt rd sa 0x02
encoding (Sra rd rt sa) = r_word 0 0 rt rd sa 0x03
encoding (Sllv rd rt rs) = r_word 0 rs rt rd 0 0x04
encoding (Srlv rd rt rs) = r_word 0 rs rt rd 0 0x06
encoding (Srav rd rt rs) = r_word 0 rs rt rd 0 0x07
encoding (Jr rs) = r_word 0 rs 0 0 0 0x08
encoding (Jalr rd rs) = r_word 0 rs 0 rd 0 0x09
encoding (Syscall code) = code_word code 0x0c
encoding (Add rd rs rt) = r_word 0 rs rt rd 0 0x20
encoding (Addu rd rs rt) = r_word 0 rs rt rd 0 0x21
encoding (Sub rd rs rt) = r_word 0 rs rt rd 0 0x22
encoding (Subu rd rs rt) = r_word 0 rs rt rd 0 0x23
encoding (And rd rs rt) = r_word 0 rs rt rd 0 0x24
encoding (Or rd rs rt) = r_word 0 rs rt rd 0 0x25
encoding (Xor rd rs rt) = r_word 0 rs rt rd 0 0x26
encoding (Nor rd rs rt) = r_word 0 rs rt rd 0 0x27
encoding (Slt rd rs rt) = r_word 0 rs rt rd 0 0x2a
encoding (Sltu rd rs rt) = r_word 0 rs rt rd 0 0x2b
encoding (Bltz rs imm) = i_word 1 rs 0 imm
encoding (Bgez rs imm) = i_word 1 rs 1 imm
encoding (J index) = j_word 2 index
encoding (Jal index) = j_word 3 index
encoding (Beq rs rt imm) = i_word 4 rs rt imm
encoding (Bne rs rt imm) = i_word 5 rs rt imm
encoding (Blez rs imm) = i_word 6 rs 0 imm
encoding (Bgtz rs imm) = i_word 7 rs 0 imm
encoding (Addi rt rs imm) = i_word 8 rs rt imm
encoding (Addiu rt rs imm) = i_word 9 rs rt imm
encoding (Slti rt rs imm) = i_word 10 rs rt imm
encoding (Sltiu rt rs imm) = i_word 11 rs rt imm
encoding (Andi rt rs imm) = i_word 12 rs rt imm
encoding (Ori rt rs imm) = i_word 13 rs rt imm
encoding (Xori rt rs imm) = i_word 14 rs rt imm
encoding (Lui rt imm) = i_word 15 0 rt imm
encoding (Mfc0 rt special) = r_word 16 0 rt special 0 0x00
encoding (Mtc0 rt special) = r_word 16 4 rt special 0 0x00
encoding Eret = r_word 16 16 0 0 0 0x18
encoding (Lw rt rs imm) = i_word 35 rs rt imm
encoding (Sw rt rs imm) = i_word 43 rs rt imm
encoding (Mult rs rt) = r_word 0 rs rt 0 0 0x18
encoding (Multu rs rt) = r_word 0 rs rt 0 0 0x19
encoding (Div rs rt) = r_word 0 rs rt 0 0 0x1a
encoding (Divu rs rt) = r_word 0 rs rt 0 0 0x1b
encoding (Mfhi rd) = r_word 0 0 0 rd 0 0x10
encoding (Mthi rs) = r_word 0 rs 0 0 0 0x11
encoding (Mflo rd) = r_word 0 0 0 rd 0 0x12
encoding (Mtlo rs) = r_word 0 rs 0 0 0 0x13
