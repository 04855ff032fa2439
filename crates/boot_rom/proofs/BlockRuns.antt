-- A block that stands in memory, and the machine's run of it: the law on runs of code, for the block alone.
use Rattle.std.proofs.Common.{◌≡◌, ℕ, suc, ◌+◌, ◌-◌, ◌<◌, ◌≤◌, Some, None, List, [], ◌∷◌, length, map, slice_index, refl, sym, ap, ◌∙◌, subst, ⊎_elim, inl, inr, arith, eq-eqb, ne_eqb}
use Rattle.std.specs.Prelude.{◌==◌, ◌⊎◌, Option}
use Rattle.std.proofs.lemmas.Bool.{cond-true, cond-false, cases_eq}
use Rattle.mips_table.specs.declared.inst.Inst.{Inst}
use Rattle.mips_table.specs.Encoding.{encoding}
use Rattle.mips_table.specs.Device.{Environment}
use Rattle.mips_table.specs.Machine.{State}
use Rattle.mips_table.specs.Fits.{NamesSector}
use Rattle.mips_table.specs.Code.{Sound}
use Rattle.mips_table.specs.Simulation.{MemoryHolds, DiskServes, MachineSimulates}
use Rattle.masm.specs.Standing.{only_block_at, BlockStands}
use Rattle.boot_rom.specs.Alone.{instruction_word, lone_program, lone_world, BlockInMemory, BlocksAreMade}

-- the word of an instruction of a placed block
placed_word : (n : ℕ) (is : List Inst) (k : ℕ) (i : Inst) → only_block_at n is k ≡ Some i → n ≤ k → slice_index (map encoding is) (k - n) ≡ encoding i
placed_word n [] k i e le = absurd (cc)
placed_word n (j ∷ is) k i e le = ⊎_elim
    (λ z. let here : Some j ≡ Some i = sym (cond-true (k == n) (Some j) (only_block_at (n + 1) is k) (eq-eqb k n z)) ∙ e in
    let same : j ≡ i = cc in
    let at : k - n ≡ 0 = omega arith in
    ap (slice_index (map encoding (j ∷ is))) at ∙ ap encoding same)
    (λ ne. let there : only_block_at (n + 1) is k ≡ Some i = sym (cond-false (k == n) (Some j) (only_block_at (n + 1) is k) (ne_eqb k n ne)) ∙ e in
    let at : k - n ≡ suc (k - (n + 1)) = omega arith in
    ap (slice_index (map encoding (j ∷ is))) at ∙ placed_word (n + 1) is k i there (omega arith))
    (cases_eq k n)

-- no instruction stands before the block or behind it
pub not_placed : (n : ℕ) (is : List Inst) (k : ℕ) → (k < n) ⊎ (n + length is ≤ k) → only_block_at n is k ≡ None
not_placed n [] k o = refl
not_placed n (i ∷ is) k o =
    cond-false (k == n) (Some i) (only_block_at (n + 1) is k) (ne_eqb k n (⊎_elim (λ h. omega arith) (λ h. omega arith) o))
    ∙ not_placed (n + 1) is k (⊎_elim (λ h. inl (omega arith)) (λ h. inr (omega arith)) o)

kept_by : (o : Option Inst) (v : ℕ) → instruction_word o ≡ Some v → (i : Inst) × (o ≡ Some i) × (encoding i ≡ v)
kept_by None v e = absurd (cc)
kept_by (Some i) v e = (i, refl, cc)

module _ (stands : (n : ℕ) (is : List Inst) → BlockStands n is) (x : Environment) (s : State) (count n : ℕ) (is : List Inst) (at : BlockInMemory x s count n is) where
  pub sound : Sound (lone_world x s count n is)
  sound = record {
    small = at.small;
    range = (stands n is).range at.range;
    inside = λ k i e. let b = (stands n is).inside k i e in let top = b.1 in let end = at.inside in omega arith;
    keeps = λ k i e. ap instruction_word e;
  }

  pub holds : MemoryHolds (lone_world x s count n is) s.memory
  holds = record {
    size = refl;
    kept = λ k v e.
        let h = kept_by (only_block_at n is k) v e in
        let b = (stands n is).inside k h.0 h.1 in
        let low : n ≤ k = b.0 in
        let top : k < n + length is = b.1 in
        let there : n + (k - n) ≡ k = omega arith in
        ap (slice_index s.memory) (sym there) ∙ at.words (k - n) (omega arith) ∙ placed_word n is k h.0 h.1 low ∙ h.2;
  }

  pub serves : DiskServes x (lone_world x s count n is) s.device
  serves = record { count = at.sectors; named = subst (NamesSector count) (sym at.idle) tt }

pub blocks_are_made : MachineSimulates → ((n : ℕ) (is : List Inst) → BlockStands n is) → BlocksAreMade
blocks_are_made simulates stands x s count n steps is t at r =
    simulates x (lone_program (length s.memory) count n is) s steps t (sound stands x s count n is at) at.quiet (holds stands x s count n is at) (serves stands x s count n is at) r
