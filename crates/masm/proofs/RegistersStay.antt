-- Which registers straight code leaves: an instruction writes the register that `into` names, whatever is said of it.
use Rattle.std.proofs.Common.{◌≡◌, ℕ, ◌+◌, ◌⊎◌, Bool, true, false, cond, nat_eq, List, [], ◌∷◌, refl, sym, ap, ◌∙◌, ⊎_elim, inl, inr, ne_eqb}
use Rattle.std.proofs.lemmas.Bool.{cond-true, cond-false, and_parts, cases_eq}
use Rattle.mips_table.specs.declared.inst.Inst.{Inst}
use Rattle.mips_table.specs.declared.inst.Inst.TheVariants.{Sll, Srl, Sra, Sllv, Srlv, Srav, Addu, Subu, And, Or, Xor, Nor, Slt, Sltu, Addiu, Slti, Sltiu, Andi, Ori, Xori, Lui, Lw, Sw, Mult, Multu, Div, Divu, Mfhi, Mthi, Mflo, Mtlo, Mfc0, Mtc0}
use Rattle.mips_table.specs.declared.effect.Effect.{Effect}
use Rattle.mips_table.specs.Code.{put, reg, put_reg, Contents, specials_after, effect_at}
use Rattle.masm.specs.Says.{Says, Gives, Widens, Reads, Writes, ReadsDisk, WritesDisk, Hears, Takes, Logs, Asks, register_written, said, falls_through, straight, sayings}
use Rattle.masm.specs.Stays.{into, all_into, RegistersStay}

written_cond : (b : Bool) (e f : Effect) → register_written e ≡ 0 → register_written f ≡ 0 → register_written (cond b e f) ≡ 0
written_cond true e f h k = h
written_cond false e f h k = k

-- the effect of an instruction that isn't on special registers writes the register that is named
named : (i : Inst) (n : ℕ) (c : Contents) → falls_through i ≡ true → (register_written (effect_at i n c) ≡ into i) ⊎ (register_written (effect_at i n c) ≡ 0)
named (Sll rd rt sa) n c g = inl refl
named (Srl rd rt sa) n c g = inl refl
named (Sra rd rt sa) n c g = inl refl
named (Sllv rd rt rs) n c g = inl refl
named (Srlv rd rt rs) n c g = inl refl
named (Srav rd rt rs) n c g = inl refl
named (Addu rd rs rt) n c g = inl refl
named (Subu rd rs rt) n c g = inl refl
named (And rd rs rt) n c g = inl refl
named (Or rd rs rt) n c g = inl refl
named (Xor rd rs rt) n c g = inl refl
named (Nor rd rs rt) n c g = inl refl
named (Slt rd rs rt) n c g = inl refl
named (Sltu rd rs rt) n c g = inl refl
named (Addiu rt rs imm) n c g = inl refl
named (Slti rt rs imm) n c g = inl refl
named (Sltiu rt rs imm) n c g = inl refl
named (Andi rt rs imm) n c g = inl refl
named (Ori rt rs imm) n c g = inl refl
named (Xori rt rs imm) n c g = inl refl
named (Lui rt imm) n c g = inl refl
named (Lw rt rs imm) n c g = inl refl
named (Sw rt rs imm) n c g = inl refl
named (Mult rs rt) n c g = inl refl
named (Multu rs rt) n c g = inl refl
named (Div rs rt) n c g = inl (written_cond (nat_eq (reg c.regs rt) 0) _ _ refl refl)
named (Divu rs rt) n c g = inl (written_cond (nat_eq (reg c.regs rt) 0) _ _ refl refl)
named (Mfhi rd) n c g = inl refl
named (Mthi rs) n c g = inl refl
named (Mflo rd) n c g = inl refl
named (Mtlo rs) n c g = inl refl
named (Mfc0 rt special) n c g = inr refl
named (Mtc0 rt special) n c g = inl refl
named i n c g = absurd (cc)

module _ (ok : ℕ → Bool) (x : ℕ) (out : ok x ≡ false) where
  not_both : (a : Bool) → a ≡ true → a ≡ false → ⊥
  not_both true s t = absurd (cc)
  not_both false s t = absurd (cc)

  -- a write to a register of these, or to register 0, leaves x
  other : (g : ℕ → ℕ) (r v : ℕ) → (ok r ≡ true) ⊎ (r ≡ 0) → put_reg g r v x ≡ g x
  other g r v s = ⊎_elim
      (λ z. ap (λ h. h x) (cond-true _ g (put g r v) (ap (λ r. nat_eq r 0) z)))
      (λ nz. ap (λ h. h x) (cond-false _ g (put g r v) (ne_eqb r 0 nz)) ∙ cond-false _ v (g x) (ne_eqb x r (λ e. ⊎_elim (λ o. not_both (ok r) o (ap ok (sym e) ∙ out)) (λ z. nz z) s)))
      (cases_eq r 0)

  asked : (i : Inst) (c : Contents) → ok (into i) ≡ true → (specials_after i c).regs x ≡ c.regs x
  asked (Mfc0 rt special) c s = other c.regs rt (c.special special) (inl s)
  asked (Mtc0 rt special) c s = refl
  asked i c s = refl

  stays : (i : Inst) (c : Contents) (e : Effect) (h : Says) → ok (into i) ≡ true → (ok (register_written e) ≡ true) ⊎ (register_written e ≡ 0) → (said i c e h).regs x ≡ c.regs x
  stays i c e (Gives v) s o = other c.regs (register_written e) v o
  stays i c e (Widens hi lo) s o = refl
  stays i c e (Reads y v) s o = other c.regs (register_written e) v o
  stays i c e (Writes y v) s o = refl
  stays i c e (ReadsDisk y v) s o = other c.regs (register_written e) v o
  stays i c e (WritesDisk y v) s o = refl
  stays i c e (Hears y v) s o = other c.regs (register_written e) v o
  stays i c e (Takes v) s o = other c.regs (register_written e) v o
  stays i c e (Logs v) s o = refl
  stays i c e Asks s o = asked i c s

  all_stay : (is : List Inst) (hs : List Says) (n : ℕ) (c : Contents) → straight is ≡ true → all_into ok is ≡ true → (sayings n is hs c).regs x ≡ c.regs x
  all_stay [] hs n c g s = refl
  all_stay (i ∷ is) [] n c g s = refl
  all_stay (i ∷ is) (h ∷ hs) n c g s =
      let a = and_parts (falls_through i) (straight is) g in
      let b = and_parts (ok (into i)) (all_into ok is) s in
      let w = ⊎_elim (λ e. inl (ap ok e ∙ b.0)) (λ z. inr z) (named i n c a.0) in
      all_stay is hs (n + 1) (said i c (effect_at i n c) h) a.1 b.1 ∙ stays i c (effect_at i n c) h b.0 w

pub registers_stay : RegistersStay
registers_stay = all_stay
