-- Where a block stands.
use Rattle.std.proofs.Common.{◌≡◌, ℕ, ◌+◌, ◌<◌, ◌≤◌, Option, Some, None, nat_eq, List, [], ◌∷◌, length, refl, sym, ap, ◌∙◌, subst, ⊎_elim, arith, eq-eqb, ne_eqb}
use Rattle.std.proofs.lemmas.Bool.{cond-true, cond-false, cases_eq}
use Rattle.mips_table.specs.declared.inst.Inst.{Inst}
use Rattle.std.specs.Prelude.{All}
use Rattle.std.proofs.lemmas.List.Elements.{All-head, All-tail}
use Rattle.mips_table.specs.Encoding.{InRange}
use Rattle.mips_table.specs.Code.{World, CodeState, MayAt, code_run, CodeAt, RunLaws}
use Rattle.masm.specs.Laws.{IsPartOfCode, with_code}
use Rattle.masm.specs.Standing.{only_block_at, alone, BlockStands}

some_is : (i j : Inst) → Some i ≡ Some j → i ≡ j
some_is i j e = ap (λ o. elim o as (λ o. Inst) [ None ↦ i | Some x ↦ x ]) e

first : (n : ℕ) (i : Inst) (is : List Inst) (k : ℕ) → k ≡ n → only_block_at n (i ∷ is) k ≡ Some i
first n i is k e = cond-true (nat_eq k n) (Some i) (only_block_at (n + 1) is k) (eq-eqb k n e)

others : (n : ℕ) (i : Inst) (is : List Inst) (k : ℕ) → (k ≡ n → ⊥) → only_block_at n (i ∷ is) k ≡ only_block_at (n + 1) is k
others n i is k ne = cond-false (nat_eq k n) (Some i) (only_block_at (n + 1) is k) (ne_eqb k n ne)

inside : (n : ℕ) (is : List Inst) (k : ℕ) (j : Inst) → only_block_at n is k ≡ Some j → (n ≤ k) × (k < n + length is)
inside n [] k j e = absurd (cc)
inside n (i ∷ is) k j e = ⊎_elim
    (λ z. (omega arith, omega arith))
    (λ ne. let r = inside (n + 1) is k j (sym (others n i is k ne) ∙ e) in let a = r.0 in let b = r.1 in (omega arith, omega arith))
    (cases_eq k n)

range : (n : ℕ) (is : List Inst) → All InRange is → (k : ℕ) (j : Inst) → only_block_at n is k ≡ Some j → InRange j
range n [] a k j e = absurd (cc)
range n (i ∷ is) a k j e = ⊎_elim
    (λ z. subst InRange (some_is i j (sym (first n i is k z) ∙ e)) (All-head InRange i is a))
    (λ ne. range (n + 1) is (All-tail InRange i is a) k j (sym (others n i is k ne) ∙ e))
    (cases_eq k n)

part : (n : ℕ) (is : List Inst) (w : World) → CodeAt w n is → IsPartOfCode (only_block_at n is) w.code
part n [] w at k j e = absurd (cc)
part n (i ∷ is) w at k j e = ⊎_elim
    (λ z. ap w.code z ∙ at.0 ∙ sym (first n i is k z) ∙ e)
    (λ ne. part (n + 1) is w at.1 k j (sym (others n i is k ne) ∙ e))
    (cases_eq k n)

-- code that has what other code has from n on
moved : (w : World) (p q : ℕ → Option Inst) (n : ℕ) (is : List Inst) → ((k : ℕ) (i : Inst) → n ≤ k → p k ≡ Some i → q k ≡ Some i) → CodeAt (with_code w p) n is → CodeAt (with_code w q) n is
moved w p q n [] h at = tt
moved w p q n (i ∷ is) h at = (h n i (omega arith) at.0, moved w p q (n + 1) is (λ k j le. h k j (omega arith)) at.1)

stands : (n : ℕ) (is : List Inst) (w : World) → CodeAt (alone w n is) n is
stands n [] w = tt
stands n (i ∷ is) w = (first n i is n refl, moved w (only_block_at (n + 1) is) (only_block_at n (i ∷ is)) (n + 1) is (λ k j le e. others n i is k (λ z. absurd (omega arith)) ∙ e) (stands (n + 1) is w))

among : (w : World) (n : ℕ) (is : List Inst) (s : CodeState) (o : Option Inst) → only_block_at n is s.at ≡ o → MayAt (alone w n is) o s → (n ≤ s.at) × (s.at < n + length is)
among w n is s None e m = absurd m
among w n is s (Some i) e m = inside n is s.at i e

pub block_stands : RunLaws → (n : ℕ) (is : List Inst) → BlockStands n is
block_stands runs n is = record {
  part = part n is;
  stands = stands n is;
  inside = inside n is;
  range = range n is;
  stays = λ w m j s t h lt. among w n is (code_run (alone w n is) s j) (only_block_at n is (code_run (alone w n is) s j).at) refl (runs.each (alone w n is) m j s t h lt);
}
