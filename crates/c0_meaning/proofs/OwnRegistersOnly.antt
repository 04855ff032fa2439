-- Words of asm bodies look at no registers but those that they may use: registers that are the same there stay so.
use Rattle.std.proofs.Common.{◌≡◌, ℕ, ◌*◌, ◌%◌, ◌^◌, ◌≤◌, ◌<◌, List, [], ◌∷◌, length, Bool, true, false, nat_lt, refl, sym, ap, ◌∙◌, subst, arith}
use Rattle.std.specs.Prelude.{ℕ, ◌==◌, ◌&&◌, ◌||◌, nat_le, if◌then◌else◌, IsTrue, slice_index, slice_set, Option, Some, None, bit_and, bit_or, bit_xor}
use Rattle.std.proofs.lemmas.Bool.{eqb-true, eqb-false, leb-true}
use Rattle.std.proofs.lemmas.List.{get_or-set_same, get_or-set_other, length-set}
use Rattle.mips_table.specs.declared.inst.Inst.{Inst}
use Rattle.mips_table.specs.declared.inst.Inst.TheVariants.{Sll, Srl, Sra, Sllv, Srlv, Srav, Jr, Jalr, Syscall, Add, Addu, Sub, Subu, And, Or, Xor, Nor, Slt, Sltu, Bltz, Bgez, J, Jal, Beq, Bne, Blez, Bgtz, Addi, Addiu, Slti, Sltiu, Andi, Ori, Xori, Lui, Mfc0, Mtc0, Eret, Lw, Sw, Mult, Multu, Div, Divu, Mfhi, Mthi, Mflo, Mtlo}
use Rattle.mips_table.specs.declared.effect.Effect.{Effect}
use Rattle.mips_table.specs.declared.effect.Effect.TheVariants.{Set, Wide, Load, Store, Overflow, Call, System}
use Rattle.mips_table.specs.Effect.{effect_of}
use Rattle.mips_table.specs.Arith.{sum, difference, less, shifted_left, shifted_right, shifted_signed, nor, flag, extended}
use Rattle.mips_table.specs.Decoding.{decoding}
use Rattle.mips_table.specs.Processor.{write_register}
use Rattle.c0_meaning.specs.Asm.{may_use, is_allowed, is_allowed_word, are_allowed_words}
use Rattle.c0_meaning.specs.AsmBody.{registers_after, after_instruction}
use Rattle.c0_meaning.proofs.AllowedWords.{left, right, IsNot}
use Rattle.c0_meaning.specs.RunLaws.{AreSame, LookAtTheirs}

pub is_not : false ≡ true → ⊥
is_not e = subst IsNot e tt

small : (r : ℕ) → IsTrue (may_use r) → r < 8
small r ok = by_test (r == 0) refl ok
  where
    by_test : (b : Bool) → (r == 0) ≡ b → b || (nat_le 2 r && nat_le r 7) ≡ true → r < 8
    by_test true e h = omega (arith, eqb-true r 0 e)
    by_test false e h = omega (arith, leb-true r 7 (right (nat_le 2 r) (nat_le r 7) h))

write_length : (xs : List ℕ) (r v : ℕ) → length (write_register xs r v) ≡ length xs
write_length xs r v = by_test (r == 0)
  where
    by_test : (b : Bool) → length (if b then xs else slice_set xs r v) ≡ length xs
    by_test true = refl
    by_test false = length-set xs r v

module _ (regs others : List ℕ) (long : 8 ≤ length regs) (wide : 8 ≤ length others) (same : AreSame regs others) where
  set_same : (d v w : ℕ) → d < 8 → v ≡ w → AreSame (slice_set regs d v) (slice_set others d w)
  set_same d v w h e r ok = by_test (r == d) refl
    where
      by_test : (b : Bool) → (r == d) ≡ b → slice_index (slice_set regs d v) r ≡ slice_index (slice_set others d w) r
      by_test true q =
          subst (λ k. slice_index (slice_set regs d v) k ≡ slice_index (slice_set others d w) k) (sym (eqb-true r d q))
          (get_or-set_same regs d v 0 (omega (arith, h, long)) ∙ (e ∙ sym (get_or-set_same others d w 0 (omega (arith, h, wide)))))
      by_test false q = get_or-set_other regs d r v 0 (eqb-false r d q) ∙ (same r ok ∙ sym (get_or-set_other others d r w 0 (eqb-false r d q)))

  written : (d v w : ℕ) → IsTrue (may_use d) → v ≡ w → AreSame (write_register regs d v) (write_register others d w)
  written d v w ok e = by_test (d == 0)
    where
      by_test : (b : Bool) → AreSame (if b then regs else slice_set regs d v) (if b then others else slice_set others d w)
      by_test true = same
      by_test false = set_same d v w (small d ok) e

  from_one : (f : ℕ → ℕ) (d r : ℕ) → may_use d && may_use r ≡ true → AreSame (write_register regs d (f (slice_index regs r))) (write_register others d (f (slice_index others r)))
  from_one f d r ok = written d _ _ (left (may_use d) (may_use r) ok) (ap f (same r (right (may_use d) (may_use r) ok)))

  from_two : (f : ℕ → ℕ → ℕ) (d r s : ℕ) → may_use d && (may_use r && may_use s) ≡ true → AreSame (write_register regs d (f (slice_index regs r) (slice_index regs s))) (write_register others d (f (slice_index others r) (slice_index others s)))
  from_two f d r s ok =
      let rest = right (may_use d) (may_use r && may_use s) ok in
      written d _ _ (left (may_use d) (may_use r && may_use s) ok)
      (ap (λ x. f x (slice_index regs s)) (same r (left (may_use r) (may_use s) rest)) ∙ ap (λ y. f (slice_index others r) y) (same s (right (may_use r) (may_use s) rest)))

  kept : (inst : Inst) → is_allowed inst ≡ true → AreSame (after_instruction regs (Some inst)) (after_instruction others (Some inst))
  kept (Sll rd rt sa) ok = from_one (λ x. shifted_left x sa) rd rt ok
  kept (Srl rd rt sa) ok = from_one (λ x. shifted_right x sa) rd rt ok
  kept (Sra rd rt sa) ok = from_one (λ x. shifted_signed x sa) rd rt ok
  kept (Sllv rd rt rs) ok = from_two (λ x y. shifted_left x (y % 2 ^ 5)) rd rt rs ok
  kept (Srlv rd rt rs) ok = from_two (λ x y. shifted_right x (y % 2 ^ 5)) rd rt rs ok
  kept (Srav rd rt rs) ok = from_two (λ x y. shifted_signed x (y % 2 ^ 5)) rd rt rs ok
  kept (Addu rd rs rt) ok = from_two (λ x y. sum x y) rd rs rt ok
  kept (Subu rd rs rt) ok = from_two (λ x y. difference x y) rd rs rt ok
  kept (And rd rs rt) ok = from_two (λ x y. bit_and x y) rd rs rt ok
  kept (Or rd rs rt) ok = from_two (λ x y. bit_or x y) rd rs rt ok
  kept (Xor rd rs rt) ok = from_two (λ x y. bit_xor x y) rd rs rt ok
  kept (Nor rd rs rt) ok = from_two (λ x y. nor x y) rd rs rt ok
  kept (Slt rd rs rt) ok = from_two (λ x y. flag (less x y)) rd rs rt ok
  kept (Sltu rd rs rt) ok = from_two (λ x y. flag (nat_lt x y)) rd rs rt ok
  kept (Addiu rt rs imm) ok = from_one (λ x. sum x (extended imm)) rt rs ok
  kept (Slti rt rs imm) ok = from_one (λ x. flag (less x (extended imm))) rt rs ok
  kept (Sltiu rt rs imm) ok = from_one (λ x. flag (nat_lt x (extended imm))) rt rs ok
  kept (Andi rt rs imm) ok = from_one (λ x. bit_and x imm) rt rs ok
  kept (Ori rt rs imm) ok = from_one (λ x. bit_or x imm) rt rs ok
  kept (Xori rt rs imm) ok = from_one (λ x. bit_xor x imm) rt rs ok
  kept (Lui rt imm) ok = written rt (imm * 2 ^ 16) (imm * 2 ^ 16) ok refl
  kept (Jr rs) ok = absurd (is_not ok)
  kept (Jalr rd rs) ok = absurd (is_not ok)
  kept (Syscall code) ok = absurd (is_not ok)
  kept (Add rd rs rt) ok = absurd (is_not ok)
  kept (Sub rd rs rt) ok = absurd (is_not ok)
  kept (Bltz rs imm) ok = absurd (is_not ok)
  kept (Bgez rs imm) ok = absurd (is_not ok)
  kept (J index) ok = absurd (is_not ok)
  kept (Jal index) ok = absurd (is_not ok)
  kept (Beq rs rt imm) ok = absurd (is_not ok)
  kept (Bne rs rt imm) ok = absurd (is_not ok)
  kept (Blez rs imm) ok = absurd (is_not ok)
  kept (Bgtz rs imm) ok = absurd (is_not ok)
  kept (Addi rt rs imm) ok = absurd (is_not ok)
  kept (Mfc0 rt special) ok = absurd (is_not ok)
  kept (Mtc0 rt special) ok = absurd (is_not ok)
  kept Eret ok = absurd (is_not ok)
  kept (Lw rt rs imm) ok = absurd (is_not ok)
  kept (Sw rt rs imm) ok = absurd (is_not ok)
  kept (Mult rs rt) ok = absurd (is_not ok)
  kept (Multu rs rt) ok = absurd (is_not ok)
  kept (Div rs rt) ok = absurd (is_not ok)
  kept (Divu rs rt) ok = absurd (is_not ok)
  kept (Mfhi rd) ok = absurd (is_not ok)
  kept (Mthi rs) ok = absurd (is_not ok)
  kept (Mflo rd) ok = absurd (is_not ok)
  kept (Mtlo rs) ok = absurd (is_not ok)

-- the test of a word, by what it decodes to
abbrev tested : Option Inst → Bool
tested None = false
tested (Some inst) = is_allowed inst

kept_word : (regs others : List ℕ) → 8 ≤ length regs → 8 ≤ length others → AreSame regs others → (i : Option Inst) → tested i ≡ true → AreSame (after_instruction regs i) (after_instruction others i)
kept_word regs others long wide same None ok = absurd (is_not ok)
kept_word regs others long wide same (Some inst) ok = kept regs others long wide same inst ok

after_length : (xs : List ℕ) (e : Effect) → length (registers_after xs e) ≡ length xs
after_length xs (Set r v to) = write_length xs r v
after_length xs (Wide hi lo to) = refl
after_length xs (Load r a) = refl
after_length xs (Store a v) = refl
after_length xs Overflow = refl
after_length xs Call = refl
after_length xs System = refl

performed_length : (xs : List ℕ) (i : Option Inst) → length (after_instruction xs i) ≡ length xs
performed_length xs None = refl
performed_length xs (Some inst) = after_length xs (effect_of inst 0 (slice_index xs) 0 0)

pub look_at_theirs : LookAtTheirs
look_at_theirs [] regs others ok long wide same = same
look_at_theirs (x ∷ words) regs others ok long wide same =
    look_at_theirs words (after_instruction regs (decoding x)) (after_instruction others (decoding x)) (right (is_allowed_word x) (are_allowed_words words) ok)
    (omega (arith, long, performed_length regs (decoding x)))
    (omega (arith, wide, performed_length others (decoding x)))
    (kept_word regs others long wide same (decoding x) (left (is_allowed_word x) (are_allowed_words words) ok))
