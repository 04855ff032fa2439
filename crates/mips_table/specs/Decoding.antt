-- The instruction of a word.
use Rattle.std.specs.Prelude.{ℕ, Bool, ◌&&◌, Option, Some, None, if◌then◌else◌, ◌==◌, nat_le}
use Rattle.mips_table.specs.declared.inst.Inst.{Inst}
use Rattle.mips_table.specs.declared.inst.Inst.TheVariants.{Sll, Srl, Sra, Sllv, Srlv, Srav, Jr, Jalr, Syscall, Add, Addu, Sub, Subu, And, Or, Xor}
use Rattle.mips_table.specs.declared.inst.Inst.TheVariants.{Nor, Slt, Sltu, Bltz, Bgez, J, Jal, Beq, Bne, Blez, Bgtz, Addi, Addiu, Slti, Sltiu, Andi}
use Rattle.mips_table.specs.declared.inst.Inst.TheVariants.{Ori, Xori, Lui, Mfc0, Mtc0, Eret, Lw, Sw, Mult, Multu, Div, Divu, Mfhi, Mthi, Mflo, Mtlo}
use Rattle.mips_table.specs.declared.fields.Fields.{Fields}
use Rattle.mips_table.specs.Word.{word_fields}

-- an instruction, where a test of the word holds
abbrev pub only_if : Bool → Inst → Option Inst
only_if b inst = if b then Some inst else None

-- opcode 0
abbrev pub by_funct : Fields → Option Inst
by_funct f =
    if f.funct == 0x00 then only_if (f.rs == 0) (Sll f.rd f.rt f.sa) else
    if f.funct == 0x02 then only_if (f.rs == 0) (Srl f.rd f.rt f.sa) else
    if f.funct == 0x03 then only_if (f.rs == 0) (Sra f.rd f.rt f.sa) else
    if f.funct == 0x04 then only_if (f.sa == 0) (Sllv f.rd f.rt f.rs) else
    if f.funct == 0x06 then only_if (f.sa == 0) (Srlv f.rd f.rt f.rs) else
    if f.funct == 0x07 then only_if (f.sa == 0) (Srav f.rd f.rt f.rs) else
    if f.funct == 0x08 then only_if ((f.rt == 0) && (f.rd == 0) && (f.sa == 0)) (Jr f.rs) else
    if f.funct == 0x09 then only_if ((f.rt == 0) && (f.sa == 0)) (Jalr f.rd f.rs) else
    if f.funct == 0x0c then Some (Syscall f.code) else
    if f.funct == 0x10 then only_if ((f.rs == 0) && (f.rt == 0) && (f.sa == 0)) (Mfhi f.rd) else
    if f.funct == 0x11 then only_if ((f.rt == 0) && (f.rd == 0) && (f.sa == 0)) (Mthi f.rs) else
    if f.funct == 0x12 then only_if ((f.rs == 0) && (f.rt == 0) && (f.sa == 0)) (Mflo f.rd) else
    if f.funct == 0x13 then only_if ((f.rt == 0) && (f.rd == 0) && (f.sa == 0)) (Mtlo f.rs) else
    if f.funct == 0x18 then only_if ((f.rd == 0) && (f.sa == 0)) (Mult f.rs f.rt) else
    if f.funct == 0x19 then only_if ((f.rd == 0) && (f.sa == 0)) (Multu f.rs f.rt) else
    if f.funct == 0x1a then only_if ((f.rd == 0) && (f.sa == 0)) (Div f.rs f.rt) else
    if f.funct == 0x1b then only_if ((f.rd == 0) && (f.sa == 0)) (Divu f.rs f.rt) else
    if f.funct == 0x20 then only_if (f.sa == 0) (Add f.rd f.rs f.rt) else
    if f.funct == 0x21 then only_if (f.sa == 0) (Addu f.rd f.rs f.rt) else
    if f.funct == 0x22 then only_if (f.sa == 0) (Sub f.rd f.rs f.rt) else
    if f.funct == 0x23 then only_if (f.sa == 0) (Subu f.rd f.rs f.rt) else
    if f.funct == 0x24 then only_if (f.sa == 0) (And f.rd f.rs f.rt) else
    if f.funct == 0x25 then only_if (f.sa == 0) (Or f.rd f.rs f.rt) else
    if f.funct == 0x26 then only_if (f.sa == 0) (Xor f.rd f.rs f.rt) else
    if f.funct == 0x27 then only_if (f.sa == 0) (Nor f.rd f.rs f.rt) else
    if f.funct == 0x2a then only_if (f.sa == 0) (Slt f.rd f.rs f.rt) else
    if f.funct == 0x2b then only_if (f.sa == 0) (Sltu f.rd f.rs f.rt) else
    None

-- opcode 1
abbrev pub by_sign : Fields → Option Inst
by_sign f = if f.rt == 0 then Some (Bltz f.rs f.imm) else if f.rt == 1 then Some (Bgez f.rs f.imm) else None

-- opcode 10, hexadecimal
abbrev pub of_system : Fields → Option Inst
of_system f =
    if f.rs == 0 then only_if ((f.sa == 0) && (f.funct == 0) && nat_le f.rd 8) (Mfc0 f.rt f.rd) else
    if f.rs == 4 then only_if ((f.sa == 0) && (f.funct == 0) && nat_le f.rd 8) (Mtc0 f.rt f.rd) else
    if f.rs == 16 then only_if ((f.rt == 0) && (f.rd == 0) && (f.sa == 0) && (f.funct == 0x18)) Eret else
    None

-- by opcode
abbrev pub inst_of : Fields → Option Inst
inst_of f =
    if f.opcode == 0x00 then by_funct f else
    if f.opcode == 0x01 then by_sign f else
    if f.opcode == 0x02 then Some (J f.index) else
    if f.opcode == 0x03 then Some (Jal f.index) else
    if f.opcode == 0x04 then Some (Beq f.rs f.rt f.imm) else
    if f.opcode == 0x05 then Some (Bne f.rs f.rt f.imm) else
    if f.opcode == 0x06 then only_if (f.rt == 0) (Blez f.rs f.imm) else
    if f.opcode == 0x07 then only_if (f.rt == 0) (Bgtz f.rs f.imm) else
    if f.opcode == 0x08 then Some (Addi f.rt f.rs f.imm) else
    if f.opcode == 0x09 then Some (Addiu f.rt f.rs f.imm) else
    if f.opcode == 0x0a then Some (Slti f.rt f.rs f.imm) else
    if f.opcode == 0x0b then Some (Sltiu f.rt f.rs f.imm) else
    if f.opcode == 0x0c then Some (Andi f.rt f.rs f.imm) else
    if f.opcode == 0x0d then Some (Ori f.rt f.rs f.imm) else
    if f.opcode == 0x0e then Some (Xori f.rt f.rs f.imm) else
    if f.opcode == 0x0f then only_if (f.rs == 0) (Lui f.rt f.imm) else
    if f.opcode == 0x10 then of_system f else
    if f.opcode == 0x23 then Some (Lw f.rt f.rs f.imm) else
    if f.opcode == 0x2b then Some (Sw f.rt f.rs f.imm) else
    None

-- the instruction of a word, where it has one
abbrev pub decoding : ℕ → Option Inst
decoding word = inst_of (word_fields word)
