-- What is seen of a machine's words and users: of a state that stands, and back.
use Rattle.std.specs.Prelude.{slice_index, take, drop, nat_lt}
use Rattle.std.proofs.Common.{◌≡◌, ℕ, zero, suc, ◌+◌, ◌<◌, ◌≤◌, List, ◌∷◌, length, refl, sym, ap, ◌∙◌, arith, lt-ltb}
use Rattle.std.proofs.lemmas.Bool.{cond-true}
use Rattle.std.proofs.lemmas.List.{get_or-take, get_or-drop, length-take-le, length-drop, ext_get_or}
use Rattle.mips_table.specs.Processor.{Cpu}
use Rattle.mips_table.specs.Fits.{CpuFits}
use Rattle.mips_table.specs.Simulation.{space}
use Rattle.layer_map.specs.Map.{block_at}
use Rattle.cvm_model.specs.Stands.{block_cpu}
use Rattle.unit_runs.specs.Outer.{BlockIs}

-- below the end of memory what is seen is memory
pub space_is : (memory buffer : List ℕ) (sector k : ℕ) → k < length memory → space memory buffer sector k ≡ slice_index memory k
space_is memory buffer sector k lt = cond-true (nat_lt k (length memory)) _ _ (lt-ltb k (length memory) lt)

-- a control block's registers, one by one and as a list
pub block_seen : (memory : List ℕ) (m : ℕ → ℕ) (u : ℕ) (cpu : Cpu) → ((k : ℕ) → block_at u ≤ k → k < block_at u + 64 → m k ≡ slice_index memory k) → block_cpu memory u ≡ cpu → BlockIs m u cpu
block_seen memory m u cpu same h = record {
  pc = same (block_at u) (omega arith) (omega arith) ∙ ap (λ c. c.pc) h;
  regs = registers;
  hi = same (block_at u + 33) (omega arith) (omega arith) ∙ ap (λ c. c.hi) h;
  lo = same (block_at u + 34) (omega arith) (omega arith) ∙ ap (λ c. c.lo) h;
}
  where
    registers : (r : ℕ) → 1 ≤ r → r < 32 → m (block_at u + r) ≡ slice_index cpu.regs r
    registers zero one lt = absurd (omega (arith, one))
    registers (suc r) one lt =
        let e : block_at u + 1 + r ≡ block_at u + suc r = omega arith in
        same (block_at u + suc r) (omega arith) (omega (arith, lt))
        ∙ ap (slice_index memory) (sym e)
        ∙ sym (get_or-take 31 (drop (block_at u + 1) memory) r 0 (omega (arith, lt)) ∙ get_or-drop (block_at u + 1) memory r 0)
        ∙ ap (λ c. slice_index c.regs (suc r)) h

pub block_again : (memory : List ℕ) (m : ℕ → ℕ) (u : ℕ) (cpu : Cpu) → CpuFits cpu → block_at u + 64 ≤ length memory → ((k : ℕ) → block_at u ≤ k → k < block_at u + 64 → m k ≡ slice_index memory k) → BlockIs m u cpu → block_cpu memory u ≡ cpu
block_again memory m u cpu fits room same h =
    cpu_same (slice_index memory (block_at u)) cpu.pc (0 ∷ take 31 (drop (block_at u + 1) memory)) cpu.regs (slice_index memory (block_at u + 33)) cpu.hi (slice_index memory (block_at u + 34)) cpu.lo
    (sym (same (block_at u) (omega arith) (omega arith)) ∙ h.pc)
    (ext_get_or 0 (0 ∷ take 31 (drop (block_at u + 1) memory)) cpu.regs lengths registers)
    (sym (same (block_at u + 33) (omega arith) (omega arith)) ∙ h.hi)
    (sym (same (block_at u + 34) (omega arith) (omega arith)) ∙ h.lo)
  where
    cpu_same : (pc pc' : ℕ) (regs regs' : List ℕ) (hi hi' lo lo' : ℕ) → pc ≡ pc' → regs ≡ regs' → hi ≡ hi' → lo ≡ lo'
        → ◌≡◌ {A = Cpu} (record { pc = pc; regs = regs; hi = hi; lo = lo }) (record { pc = pc'; regs = regs'; hi = hi'; lo = lo' })
    cpu_same pc pc' regs regs' hi hi' lo lo' a b c d = rw (a, b, c, d) refl

    tail : length (take 31 (drop (block_at u + 1) memory)) ≡ 31
    tail = length-take-le 31 (drop (block_at u + 1) memory) (omega (arith, room, length-drop (block_at u + 1) memory))

    lengths : length (0 ∷ take 31 (drop (block_at u + 1) memory)) ≡ length cpu.regs
    lengths = let s = fits.regs.size in let t = tail in omega (arith, s, t)

    registers : (i : ℕ) → i < length (0 ∷ take 31 (drop (block_at u + 1) memory)) → slice_index (0 ∷ take 31 (drop (block_at u + 1) memory)) i ≡ slice_index cpu.regs i
    registers zero lt = sym fits.regs.none
    registers (suc r) lt =
        let t = tail in
        let small : r < 31 = omega (arith, lt, t) in
        let e : block_at u + 1 + r ≡ block_at u + suc r = omega arith in
        get_or-take 31 (drop (block_at u + 1) memory) r 0 small ∙ get_or-drop (block_at u + 1) memory r 0
        ∙ ap (slice_index memory) e ∙ sym (same (block_at u + suc r) (omega arith) (omega (arith, small))) ∙ h.regs (suc r) (omega arith) (omega (arith, small))
