-- A word is stored at a place.
use Rattle.std.proofs.Common.{◌≡◌, ◌≢◌, inl, inr, ℕ, ◌+◌, ◌*◌, ◌%◌, ◌^◌, ◌<◌, ◌≤◌, None, [], ◌∷◌, ◌++◌, length, refl, ap, ◌∙◌, subst, arith, length-append}
use Rattle.std.proofs.lemmas.Bool.{cases_Bool, eqb-true, cond-true, cond-false}
use Rattle.mips_table.specs.declared.inst.Inst.TheVariants.{Sw, Addu, Lui}
use Rattle.mips_table.specs.Arith.{sum, extended}
use Rattle.mips_table.specs.Device.{Idle}
use Rattle.mips_table.specs.Code.{Contents, reg, with_reg, Behind, World, at_with, Reaches, CodeAt}
use Rattle.masm.specs.Says.{Gives as Becomes, Writes}
use Rattle.c0_expr_code.specs.Code.{AddressingMode, is_near, low, high, store_code}
use Rattle.c0_expr_runs.specs.Relation.{KeepsRegisters, Source}
use Rattle.c0_expr_runs.specs.Laws.{memory_with}
use Rattle.c0_expr_runs.proofs.CodeRuns.{Machine, joined, later, code_back, said_step}
use Rattle.c0_expr_runs.proofs.WordsOfValues.{near_is, far_is}
use Rattle.c0_expr_runs.proofs.SideBySide.{same_read, other_read, other_reg, keeps_all, source_other}

module _ (w : World) (f : Machine w) where
  pub stores : (x : AddressingMode) (q r n a v : ℕ) (c : Contents) (k : Behind) → k.pending ≡ Idle → 8 ≤ r → r < 20 → Source r x.base → q ≢ r → q ≢ 1
      → CodeAt w n (store_code q r x) → (reg c.regs x.base + x.displacement) % 2 ^ 32 ≡ 4 * a → a < w.words → w.kept a ≡ None → reg c.regs q ≡ v
      → (c' : Contents) × KeepsRegisters r r (memory_with c a v) c' × Reaches w 3 (at_with (n + length x.code) c k) (at_with (n + length (store_code q r x)) c' k)
  stores x q r n a v c k idle lo hi source nr n1 code address inside free is = elim (cases_Bool (is_near x.displacement)) [
    | inl e ↦
        let same : store_code q r x ≡ x.code ++ (Sw q x.base (low x.displacement) ∷ []) = ap (λ is. x.code ++ is) (cond-true (is_near x.displacement) (Sw q x.base (low x.displacement) ∷ []) _ e) in
        let there = code_back w n x.code (Sw q x.base (low x.displacement) ∷ []) (subst (CodeAt w n) same code) in
        let one = said_step w f (Sw q x.base (low x.displacement)) (Writes a v) (n + length x.code) c k there.0 refl idle (near_is x.displacement (reg c.regs x.base) (eqb-true (extended (low x.displacement)) x.displacement e) ∙ address, inside, free, is) in
        let len : n + length x.code + 1 ≡ n + length (store_code q r x) = omega (arith, ap length same, length-append x.code (Sw q x.base (low x.displacement) ∷ [])) in
        (memory_with c a v, keeps_all r r (memory_with c a v), subst (λ t. Reaches w 3 (at_with (n + length x.code) c k) (at_with t (memory_with c a v) k)) len (later w 1 3 _ _ (omega arith) one))
    | inr e ↦
        let same : store_code q r x ≡ x.code ++ (Lui 1 (high x.displacement) ∷ Addu r x.base 1 ∷ Sw q r (low x.displacement) ∷ []) = ap (λ is. x.code ++ is) (cond-false (is_near x.displacement) (Sw q x.base (low x.displacement) ∷ []) (Lui 1 (high x.displacement) ∷ Addu r x.base 1 ∷ Sw q r (low x.displacement) ∷ []) e) in
        let there = code_back w n x.code (Lui 1 (high x.displacement) ∷ Addu r x.base 1 ∷ Sw q r (low x.displacement) ∷ []) (subst (CodeAt w n) same code) in
        let rz : r ≢ 0 = λ z. absurd (omega (arith, z, lo)) in
        let b1 : Contents = with_reg c 1 (high x.displacement * 2 ^ 16) in
        let one = said_step w f (Lui 1 (high x.displacement)) (Becomes (high x.displacement * 2 ^ 16)) (n + length x.code) c k there.0 refl idle refl in
        let base : reg b1.regs x.base ≡ reg c.regs x.base = other_read c.regs 1 (high x.displacement * 2 ^ 16) x.base (source_other r x.base lo source) in
        let b2 : Contents = with_reg b1 r (sum (reg c.regs x.base) (high x.displacement * 2 ^ 16)) in
        let two = said_step w f (Addu r x.base 1) (Becomes (sum (reg c.regs x.base) (high x.displacement * 2 ^ 16))) (n + length x.code + 1) b1 k there.1.0 refl idle (ap (λ y. sum y (high x.displacement * 2 ^ 16)) base) in
        let place : sum (reg b2.regs r) (extended (low x.displacement)) ≡ 4 * a = ap (λ y. sum y (extended (low x.displacement))) (same_read b1.regs r (sum (reg c.regs x.base) (high x.displacement * 2 ^ 16)) rz) ∙ far_is x.displacement (reg c.regs x.base) ∙ address in
        let value : reg b2.regs q ≡ v = other_read b1.regs r (sum (reg c.regs x.base) (high x.displacement * 2 ^ 16)) q nr ∙ other_read c.regs 1 (high x.displacement * 2 ^ 16) q n1 ∙ is in
        let three = said_step w f (Sw q r (low x.displacement)) (Writes a v) (n + length x.code + 1 + 1) b2 k there.1.1.0 refl idle (place, inside, free, value) in
        let len : n + length x.code + 1 + 1 + 1 ≡ n + length (store_code q r x) = omega (arith, ap length same, length-append x.code (Lui 1 (high x.displacement) ∷ Addu r x.base 1 ∷ Sw q r (low x.displacement) ∷ [])) in
        let run = joined w 1 2 _ _ _ one (joined w 1 1 _ _ _ two three) in (
          memory_with b2 a v,
          record {
            memory = refl;
            special = refl;
            below = λ y m o l. other_reg b1.regs r (sum (reg c.regs x.base) (high x.displacement * 2 ^ 16)) y o ∙ other_reg c.regs 1 (high x.displacement * 2 ^ 16) y m;
            above = λ y o l. other_reg b1.regs r (sum (reg c.regs x.base) (high x.displacement * 2 ^ 16)) y o ∙ other_reg c.regs 1 (high x.displacement * 2 ^ 16) y (λ e. absurd (omega (arith, e, l)));
          },
          subst (λ t. Reaches w 3 (at_with (n + length x.code) c k) (at_with t (memory_with b2 a v) k)) len run,
        )
  ]
