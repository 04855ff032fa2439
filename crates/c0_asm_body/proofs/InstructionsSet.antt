-- What an instruction of an asm body sets, on the registers of the code and on the list of them, which are the same where it may look.
use Rattle.std.proofs.Common.{◌≡◌, ℕ, ◌*◌, ◌%◌, ◌^◌, true, nat_lt, List, refl, ap, ◌∙◌}
use Rattle.std.specs.Prelude.{◌&&◌, IsTrue, slice_index, bit_and, bit_or, bit_xor}
use Rattle.mips_table.specs.declared.inst.Inst.{Inst}
use Rattle.mips_table.specs.declared.inst.Inst.TheVariants.{Sll, Srl, Sra, Sllv, Srlv, Srav, Jr, Jalr, Syscall, Add, Addu, Sub, Subu, And, Or, Xor, Nor, Slt, Sltu, Bltz, Bgez, J, Jal, Beq, Bne, Blez, Bgtz, Addi, Addiu, Slti, Sltiu, Andi, Ori, Xori, Lui, Mfc0, Mtc0, Eret, Lw, Sw, Mult, Multu, Div, Divu, Mfhi, Mthi, Mflo, Mtlo}
use Rattle.mips_table.specs.declared.effect.Effect.TheVariants.{Set}
use Rattle.mips_table.specs.Arith.{sum, difference, less, shifted_left, shifted_right, shifted_signed, nor, flag, extended}
use Rattle.mips_table.specs.Effect.{effect_of, next_address}
use Rattle.mips_table.specs.Code.{Contents, reg, effect_at}
use Rattle.masm.specs.Says.{falls_through}
use Rattle.c0_meaning.specs.Asm.{may_use, is_allowed}
use Rattle.c0_asm_body.proofs.WordsSetRegisters.{is_not, left, right}

-- the code's registers are those of the list where an asm body may look
abbrev pub Agree : Contents → List ℕ → Type 0
Agree c regs = (r : ℕ) → IsTrue (may_use r) → reg c.regs r ≡ slice_index regs r

-- what the instruction at n sets, and that it does so on both
pub record Sets (n : ℕ) (c : Contents) (regs : List ℕ) (i : Inst) : Type 0 where
  pub register : ℕ
  pub value : ℕ
  pub may : IsTrue (may_use register)
  pub code : effect_at i n c ≡ Set register value (next_address (4 * n))
  pub list : effect_of i 0 (slice_index regs) 0 0 ≡ Set register value (next_address 0)
  pub straight : falls_through i ≡ true

module _ (n : ℕ) (c : Contents) (regs : List ℕ) (same : Agree c regs) where
  from_one : (i : Inst) (f : ℕ → ℕ) (d r : ℕ) → may_use d && may_use r ≡ true → effect_at i n c ≡ Set d (f (reg c.regs r)) (next_address (4 * n)) →
      effect_of i 0 (slice_index regs) 0 0 ≡ Set d (f (slice_index regs r)) (next_address 0) → falls_through i ≡ true → Sets n c regs i
  from_one i f d r ok e l g = record {
    register = d;
    value = f (slice_index regs r);
    may = left (may_use d) (may_use r) ok;
    code = e ∙ ap (λ v. Set d (f v) (next_address (4 * n))) (same r (right (may_use d) (may_use r) ok));
    list = l;
    straight = g;
  }

  from_two : (i : Inst) (f : ℕ → ℕ → ℕ) (d r s : ℕ) → may_use d && (may_use r && may_use s) ≡ true → effect_at i n c ≡ Set d
      (f (reg c.regs r) (reg c.regs s)) (next_address (4 * n)) → effect_of i 0 (slice_index regs) 0 0 ≡ Set d (f (slice_index regs r) (slice_index regs s))
      (next_address 0) → falls_through i ≡ true → Sets n c regs i
  from_two i f d r s ok e l g =
      let rest = right (may_use d) (may_use r && may_use s) ok in
      record {
        register = d;
        value = f (slice_index regs r) (slice_index regs s);
        may = left (may_use d) (may_use r && may_use s) ok;
        code = e
            ∙ ap (λ v. Set d (f v (reg c.regs s)) (next_address (4 * n))) (same r (left (may_use r) (may_use s) rest))
            ∙ ap (λ v. Set d (f (slice_index regs r) v) (next_address (4 * n))) (same s (right (may_use r) (may_use s) rest));
        list = l;
        straight = g;
      }

  pub sets : (i : Inst) → is_allowed i ≡ true → Sets n c regs i
  sets (Sll rd rt sa) ok = from_one (Sll rd rt sa) (λ x. shifted_left x sa) rd rt ok refl refl refl
  sets (Srl rd rt sa) ok = from_one (Srl rd rt sa) (λ x. shifted_right x sa) rd rt ok refl refl refl
  sets (Sra rd rt sa) ok = from_one (Sra rd rt sa) (λ x. shifted_signed x sa) rd rt ok refl refl refl
  sets (Sllv rd rt rs) ok = from_two (Sllv rd rt rs) (λ x y. shifted_left x (y % 2 ^ 5)) rd rt rs ok refl refl refl
  sets (Srlv rd rt rs) ok = from_two (Srlv rd rt rs) (λ x y. shifted_right x (y % 2 ^ 5)) rd rt rs ok refl refl refl
  sets (Srav rd rt rs) ok = from_two (Srav rd rt rs) (λ x y. shifted_signed x (y % 2 ^ 5)) rd rt rs ok refl refl refl
  sets (Addu rd rs rt) ok = from_two (Addu rd rs rt) (λ x y. sum x y) rd rs rt ok refl refl refl
  sets (Subu rd rs rt) ok = from_two (Subu rd rs rt) (λ x y. difference x y) rd rs rt ok refl refl refl
  sets (And rd rs rt) ok = from_two (And rd rs rt) (λ x y. bit_and x y) rd rs rt ok refl refl refl
  sets (Or rd rs rt) ok = from_two (Or rd rs rt) (λ x y. bit_or x y) rd rs rt ok refl refl refl
  sets (Xor rd rs rt) ok = from_two (Xor rd rs rt) (λ x y. bit_xor x y) rd rs rt ok refl refl refl
  sets (Nor rd rs rt) ok = from_two (Nor rd rs rt) (λ x y. nor x y) rd rs rt ok refl refl refl
  sets (Slt rd rs rt) ok = from_two (Slt rd rs rt) (λ x y. flag (less x y)) rd rs rt ok refl refl refl
  sets (Sltu rd rs rt) ok = from_two (Sltu rd rs rt) (λ x y. flag (nat_lt x y)) rd rs rt ok refl refl refl
  sets (Addiu rt rs imm) ok = from_one (Addiu rt rs imm) (λ x. sum x (extended imm)) rt rs ok refl refl refl
  sets (Slti rt rs imm) ok = from_one (Slti rt rs imm) (λ x. flag (less x (extended imm))) rt rs ok refl refl refl
  sets (Sltiu rt rs imm) ok = from_one (Sltiu rt rs imm) (λ x. flag (nat_lt x (extended imm))) rt rs ok refl refl refl
  sets (Andi rt rs imm) ok = from_one (Andi rt rs imm) (λ x. bit_and x imm) rt rs ok refl refl refl
  sets (Ori rt rs imm) ok = from_one (Ori rt rs imm) (λ x. bit_or x imm) rt rs ok refl refl refl
  sets (Xori rt rs imm) ok = from_one (Xori rt rs imm) (λ x. bit_xor x imm) rt rs ok refl refl refl
  sets (Lui rt imm) ok = record { register = rt; value = imm * 2 ^ 16; may = ok; code = refl; list = refl; straight = refl }
  sets (Jr rs) ok = absurd (is_not ok)
  sets (Jalr rd rs) ok = absurd (is_not ok)
  sets (Syscall code) ok = absurd (is_not ok)
  sets (Add rd rs rt) ok = absurd (is_not ok)
  sets (Sub rd rs rt) ok = absurd (is_not ok)
  sets (Bltz rs imm) ok = absurd (is_not ok)
  sets (Bgez rs imm) ok = absurd (is_not ok)
  sets (J index) ok = absurd (is_not ok)
  sets (Jal index) ok = absurd (is_not ok)
  sets (Beq rs rt imm) ok = absurd (is_not ok)
  sets (Bne rs rt imm) ok = absurd (is_not ok)
  sets (Blez rs imm) ok = absurd (is_not ok)
  sets (Bgtz rs imm) ok = absurd (is_not ok)
  sets (Addi rt rs imm) ok = absurd (is_not ok)
  sets (Mfc0 rt special) ok = absurd (is_not ok)
  sets (Mtc0 rt special) ok = absurd (is_not ok)
  sets Eret ok = absurd (is_not ok)
  sets (Lw rt rs imm) ok = absurd (is_not ok)
  sets (Sw rt rs imm) ok = absurd (is_not ok)
  sets (Mult rs rt) ok = absurd (is_not ok)
  sets (Multu rs rt) ok = absurd (is_not ok)
  sets (Div rs rt) ok = absurd (is_not ok)
  sets (Divu rs rt) ok = absurd (is_not ok)
  sets (Mfhi rd) ok = absurd (is_not ok)
  sets (Mthi rs) ok = absurd (is_not ok)
  sets (Mflo rd) ok = absurd (is_not ok)
  sets (Mtlo rs) ok = absurd (is_not ok)
