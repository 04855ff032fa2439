-- Which registers straight code leaves as they are: those that none of its instructions writes.
use Rattle.std.specs.Prelude.{◌≡◌, ℕ, Bool, true, false, ◌&&◌, List, [], ◌∷◌}
use Rattle.mips_table.specs.declared.inst.Inst.{Inst}
use Rattle.mips_table.specs.declared.inst.Inst.TheVariants.{Sll, Srl, Sra, Sllv, Srlv, Srav, Addu, Subu, And, Or, Xor, Nor, Slt}
use Rattle.mips_table.specs.declared.inst.Inst.TheVariants.{Sltu, Addiu, Slti, Sltiu, Andi, Ori, Xori, Lui, Mfc0, Lw, Mfhi, Mflo}
use Rattle.mips_table.specs.Code.{Contents}
use Rattle.masm.specs.Says.{Says, straight, sayings}

-- the register that an instruction of straight code writes; 0 where it writes none
abbrev pub into : Inst → ℕ
into (Sll rd rt sa) = rd
into (Srl rd rt sa) = rd
into (Sra rd rt sa) = rd
into (Sllv rd rt rs) = rd
into (Srlv rd rt rs) = rd
into (Srav rd rt rs) = rd
into (Addu rd rs rt) = rd
into (Subu rd rs rt) = rd
into (And rd rs rt) = rd
into (Or rd rs rt) = rd
into (Xor rd rs rt) = rd
into (Nor rd rs rt) = rd
into (Slt rd rs rt) = rd
into (Sltu rd rs rt) = rd
into (Addiu rt rs imm) = rt
into (Slti rt rs imm) = rt
into (Sltiu rt rs imm) = rt
into (Andi rt rs imm) = rt
into (Ori rt rs imm) = rt
into (Xori rt rs imm) = rt
into (Lui rt imm) = rt
into (Mfc0 rt special) = rt
into (Lw rt rs imm) = rt
into (Mfhi rd) = rd
into (Mflo rd) = rd
into other = 0

-- each of them writes a register of these alone
abbrev pub all_into : (ℕ → Bool) → List Inst → Bool
all_into ok [] = true
all_into ok (i ∷ is) = ok (into i) && all_into ok is

-- a register that is none of these stays
abbrev pub RegistersStay : Type 0
RegistersStay = (ok : ℕ → Bool) (x : ℕ) → ok x ≡ false → (is : List Inst) (hs : List Says) (n : ℕ) (c : Contents) → straight is ≡ true → all_into ok is ≡ true
    → (sayings n is hs c).regs x ≡ c.regs x
