-- Runs of code: how they join, what straight code does, and where branches and jumps lead.
use Rattle.std.proofs.Common.{◌≡◌, ◌≢◌, ℕ, zero, suc, ◌+◌, ◌*◌, ◌≤◌, ◌%◌, ◌^◌, true, not, nat_eq, eq-eqb, ne_eqb, Some, List, [], ◌∷◌, ◌++◌, length, sym, ap, ◌∙◌, subst, arith}
use Rattle.mips_table.specs.declared.inst.Inst.{Inst}
use Rattle.mips_table.specs.declared.inst.Inst.TheVariants.{Beq, Bne}
use Rattle.mips_table.specs.declared.effect.Effect.TheVariants.{Set}
use Rattle.std.proofs.lemmas.Bool.{cond-true, cond-false}
use Rattle.mips_table.specs.Arith.{extended}
use Rattle.mips_table.specs.Effect.{branch, next_address}
use Rattle.mips_table.specs.Device.{Idle}
use Rattle.mips_table.specs.Code.{Contents, reg, Behind, World, Sound, CodeState, at_with, settling, settle, effect_at, Steps, Reaches, CodeAt}
use Rattle.masm.specs.Says.{Says, Said, said, ports_after, falls_through}
use Rattle.masm.specs.Laws.{StraightRuns, JumpsLead}

-- what is known of runs in a world
pub record Machine (w : World) : Type 0 where
  pub sound : Sound w
  pub straight : StraightRuns w
  pub leads : JumpsLead w

pub code_front : (w : World) (n : ℕ) (a b : List Inst) → CodeAt w n (a ++ b) → CodeAt w n a
code_front w n [] b h = tt
code_front w n (i ∷ a) b h = (h.0, code_front w (n + 1) a b h.1)

pub code_back : (w : World) (n : ℕ) (a b : List Inst) → CodeAt w n (a ++ b) → CodeAt w (n + length a) b
code_back w n [] b h = let e : n ≡ n + 0 = omega arith in subst (λ m. CodeAt w m b) e h
code_back w n (i ∷ a) b h =
    let e : n + 1 + length a ≡ n + length (i ∷ a) = omega arith in
    subst (λ m. CodeAt w m b) e (code_back w (n + 1) a b h.1)

steps_on : (w : World) (n m : ℕ) (s t u : CodeState) → Steps w n s t → Steps w m t u → Steps w (n + m) s u
steps_on w zero m s t u a b = let e : m ≡ 0 + m = omega arith in subst (λ k. Steps w k s u) e (subst (λ x. Steps w m x u) (sym a.1) b)
steps_on w (suc n) m s t u a b =
    let e : suc (n + m) ≡ suc n + m = omega arith in
    let rest = steps_on w n m _ t u (a.0.1, a.1) b in
    subst (λ k. Steps w k s u) e ((a.0.0, rest.0), rest.1)

pub stays : (w : World) (s t : CodeState) → s ≡ t → Reaches w 0 s t
stays w s t e = record { steps = 0; within = omega arith; run = (tt, e) }

pub joined : (w : World) (n m : ℕ) (s t u : CodeState) → Reaches w n s t → Reaches w m t u → Reaches w (n + m) s u
joined w n m s t u a b = record { steps = a.steps + b.steps; within = omega (arith, a.within, b.within); run = steps_on w a.steps b.steps s t u a.run b.run }

pub later : (w : World) (n m : ℕ) (s t : CodeState) → n ≤ m → Reaches w n s t → Reaches w m s t
later w n m s t le a = record { steps = a.steps; within = omega (arith, a.within); run = a.run }

pub idle_settle : (n : ℕ) (c : Contents) (d : Behind) → d.pending ≡ Idle → settle n c d ≡ at_with n c d
idle_settle n c d h = ap (λ p. settling p n c d) h

module _ (w : World) (f : Machine w) where
  pub said_step : (i : Inst) (h : Says) (n : ℕ) (c : Contents) (d : Behind) → w.code n ≡ Some i → falls_through i ≡ true → d.pending ≡ Idle
      → Said w i c d (effect_at i n c) h → Reaches w 1 (at_with n c d) (at_with (n + 1) (said i c (effect_at i n c) h) (ports_after d h))
  said_step i h n c d at g idle s = f.straight.next i h n c d at g idle s

  -- a branch or a jump, where it is known where it leads
  pub goes : (i : Inst) (k to : ℕ) (c : Contents) (d : Behind) → d.pending ≡ Idle → w.code k ≡ Some i → effect_at i k c ≡ Set 0 0 (4 * to)
      → Reaches w 1 (at_with k c d) (at_with to c d)
  goes i k to c d idle at e = subst (λ t. Reaches w 1 (at_with k c d) t) (idle_settle to c d idle) (f.leads.led i k to 0 0 c d at e)

  pub differ_goes : (k : ℕ) (c : Contents) (d : Behind) (a b imm to : ℕ) → d.pending ≡ Idle → w.code k ≡ Some (Bne a b imm)
      → branch (4 * k) imm (not (nat_eq (reg c.regs a) (reg c.regs b))) ≡ 4 * to → Reaches w 1 (at_with k c d) (at_with to c d)
  differ_goes k c d a b imm to idle at e = goes (Bne a b imm) k to c d idle at (ap (Set 0 0) e)

  -- a branch where two registers are equal
  pub taken : (k : ℕ) (c : Contents) (d : Behind) (a b imm to : ℕ) → d.pending ≡ Idle → w.code k ≡ Some (Beq a b imm) → reg c.regs a ≡ reg c.regs b
      → (4 * k + 4 + 4 * extended imm) % 2 ^ 32 ≡ 4 * to → Reaches w 1 (at_with k c d) (at_with to c d)
  taken k c d a b imm to idle at z e = goes (Beq a b imm) k to c d idle at (ap (Set 0 0) (cond-true _ _ (next_address (4 * k)) (eq-eqb _ _ z) ∙ e))

  pub passed : (k : ℕ) (c : Contents) (d : Behind) (a b imm : ℕ) → d.pending ≡ Idle → w.code k ≡ Some (Beq a b imm) → reg c.regs a ≢ reg c.regs b
      → Reaches w 1 (at_with k c d) (at_with (k + 1) c d)
  passed k c d a b imm idle at z =
      let lt = f.sound.inside k _ at in let small = f.sound.small in
      goes (Beq a b imm) k (k + 1) c d idle at (ap (Set 0 0) (cond-false _ ((4 * k + 4 + 4 * extended imm) % 2 ^ 32) (next_address (4 * k)) (ne_eqb _ _ z) ∙ omega arith))
