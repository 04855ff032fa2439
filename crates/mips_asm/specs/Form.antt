-- The forms of the instructions: mnemonic, word and operands.
use Rattle.std.specs.Prelude.{ℕ, List, [], ◌∷◌, Option, find, bytes_eq}
use Rattle.mips_table.specs.declared.inst.Inst.{Inst}
use Rattle.mips_table.specs.declared.inst.Inst.TheVariants.{Sll, Srl, Sra, Sllv, Srlv, Srav, Jr, Jalr, Syscall, Add, Addu, Sub, Subu, And, Or, Xor}
use Rattle.mips_table.specs.declared.inst.Inst.TheVariants.{Nor, Slt, Sltu, Bltz, Bgez, J, Jal, Beq, Bne, Blez, Bgtz, Addi, Addiu, Slti, Sltiu, Andi}
use Rattle.mips_table.specs.declared.inst.Inst.TheVariants.{Ori, Xori, Lui, Mfc0, Mtc0, Eret, Lw, Sw, Mult, Multu, Div, Divu, Mfhi, Mthi, Mflo, Mtlo}
use Rattle.mips_table.specs.Rows.{mnemonic_of}
use Rattle.mips_asm.specs.declared.form.Operand.{Operand}
use Rattle.mips_asm.specs.declared.form.Operand.TheVariants.{Register, Special, Amount, Code, Signed, Unsigned, Branch, Jump, Memory}
use Rattle.mips_asm.specs.declared.form.Field.TheVariants.{Rs, Rt, Rd}

-- an instruction where all operands are 0, which gives the mnemonic and the word, and its operands in order
abbrev pub Form : Type 0
Form = Inst × List Operand

-- the operands rd, rt and the amount of a shift
abbrev pub rd_rt_sa : List Operand
rd_rt_sa = (Register Rd) ∷ ((Register Rt) ∷ (Amount ∷ []))

-- the operands: rd, rt and rs
abbrev pub rd_rt_rs : List Operand
rd_rt_rs = (Register Rd) ∷ ((Register Rt) ∷ ((Register Rs) ∷ []))

-- the operands: rs alone
abbrev pub rs : List Operand
rs = (Register Rs) ∷ []

-- the operands: rd and rs
abbrev pub rd_rs : List Operand
rd_rs = (Register Rd) ∷ ((Register Rs) ∷ [])

-- the operands: rs and rt
abbrev pub rs_rt : List Operand
rs_rt = (Register Rs) ∷ ((Register Rt) ∷ [])

-- the operands: rd alone
abbrev pub rd : List Operand
rd = (Register Rd) ∷ []

-- the operands: a trap's code
abbrev pub code : List Operand
code = Code ∷ []

-- the operands: rd, rs and rt
abbrev pub rd_rs_rt : List Operand
rd_rs_rt = (Register Rd) ∷ ((Register Rs) ∷ ((Register Rt) ∷ []))

-- the operands: rs and where to branch
abbrev pub rs_branch : List Operand
rs_branch = (Register Rs) ∷ (Branch ∷ [])

-- the operands: where to jump
abbrev pub jump : List Operand
jump = Jump ∷ []

-- the operands: rs, rt and where to branch
abbrev pub rs_rt_branch : List Operand
rs_rt_branch = (Register Rs) ∷ ((Register Rt) ∷ (Branch ∷ []))

-- the operands: rt, rs and a number with a sign
abbrev pub rt_rs_signed : List Operand
rt_rs_signed = (Register Rt) ∷ ((Register Rs) ∷ (Signed ∷ []))

-- the operands: rt, rs and a number without a sign
abbrev pub rt_rs_unsigned : List Operand
rt_rs_unsigned = (Register Rt) ∷ ((Register Rs) ∷ (Unsigned ∷ []))

-- the operands: rt and a number without a sign
abbrev pub rt_unsigned : List Operand
rt_unsigned = (Register Rt) ∷ (Unsigned ∷ [])

-- the operands: rt and a special register
abbrev pub rt_special : List Operand
rt_special = (Register Rt) ∷ (Special ∷ [])

-- no operands
abbrev pub no_operand : List Operand
no_operand = []

-- the operands: rt and an address
abbrev pub rt_memory : List Operand
rt_memory = (Register Rt) ∷ (Memory ∷ [])

-- a row of the forms before others
abbrev pub row : Inst → List Operand → List Form → List Form
row inst operands rows = (inst, operands) ∷ rows

-- the forms of all instructions
unfoldable pub forms : List Form
forms =
    row (Sll 0 0 0) rd_rt_sa (
    row (Srl 0 0 0) rd_rt_sa (
    row (Sra 0 0 0) rd_rt_sa (
    row (Sllv 0 0 0) rd_rt_rs (
    row (Srlv 0 0 0) rd_rt_rs (
    row (Srav 0 0 0) rd_rt_rs (
    row (Jr 0) rs (
    row (Jalr 0 0) rd_rs (
    row (Syscall 0) code (
    row (Add 0 0 0) rd_rs_rt (
    row (Addu 0 0 0) rd_rs_rt (
    row (Sub 0 0 0) rd_rs_rt (
    row (Subu 0 0 0) rd_rs_rt (
    row (And 0 0 0) rd_rs_rt (
    row (Or 0 0 0) rd_rs_rt (
    row (Xor 0 0 0) rd_rs_rt (
    row (Nor 0 0 0) rd_rs_rt (
    row (Slt 0 0 0) rd_rs_rt (
    row (Sltu 0 0 0) rd_rs_rt (
    row (Bltz 0 0) rs_branch (
    row (Bgez 0 0) rs_branch (
    row (J 0) jump (
    row (Jal 0) jump (
    row (Beq 0 0 0) rs_rt_branch (
    row (Bne 0 0 0) rs_rt_branch (
    row (Blez 0 0) rs_branch (
    row (Bgtz 0 0) rs_branch (
    row (Addi 0 0 0) rt_rs_signed (
    row (Addiu 0 0 0) rt_rs_signed (
    row (Slti 0 0 0) rt_rs_signed (
    row (Sltiu 0 0 0) rt_rs_signed (
    row (Andi 0 0 0) rt_rs_unsigned (
    row (Ori 0 0 0) rt_rs_unsigned (
    row (Xori 0 0 0) rt_rs_unsigned (
    row (Lui 0 0) rt_unsigned (
    row (Mfc0 0 0) rt_special (
    row (Mtc0 0 0) rt_special (
    row Eret no_operand (
    row (Lw 0 0 0) rt_memory (
    row (Sw 0 0 0) rt_memory (
    row (Mult 0 0) rs_rt (
    row (Multu 0 0) rs_rt (
    row (Div 0 0) rs_rt (
    row (Divu 0 0) rs_rt (
    row (Mfhi 0) rd (
    row (Mthi 0) rs (
    row (Mflo 0) rd (
    row (Mtlo 0) rs (
    []))))))))))))))))))))))))))))))))))))))))))))))))

-- the form with this mnemonic
unfoldable pub form_of : List ℕ → Option Form
form_of name = find (λ f. bytes_eq (mnemonic_of f.0) name) forms
