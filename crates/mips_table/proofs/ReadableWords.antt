-- The words that can be read, as one function of their numbers: what a write to memory, to the buffer or to the sector
-- register does to it, and what a transfer does. So a run of code needs no lists and no lengths.
use Rattle.std.proofs.Common.{◌≡◌, ℕ, ◌+◌, ◌-◌, ◌^◌, ◌<◌, ◌≤◌, true, false, cond, nat_eq, nat_lt, List, [], length, refl, sym, ap, ap₂, ◌∙◌, ⊎_elim, arith, lt-ltb, le-ltb, eq-eqb, ne_eqb, length-set, get_or-set_same, get_or-set_other, slice_index, slice_set}
use Rattle.std.specs.Prelude.{◌==◌, if◌then◌else◌}
use mathlib.Core.Path.{fun_ext}
use Rattle.std.proofs.lemmas.Bool.{cases_eq, cases_lt, cond-true, cond-false}
use Rattle.std.proofs.lemmas.Bool.Decides.{nat_tests}
use Rattle.std.proofs.lemmas.List.{get_or_past}
use Rattle.mips_table.specs.Device.{BUFFER, SECTOR, is_buffer, sector_of}
use Rattle.mips_table.specs.Code.{put, put_reg, reg, filled, buffer_of}
use Rattle.mips_table.specs.Simulation.{space, sectors_of}
use Rattle.mips_table.specs.Processor.{write_register}

-- a list that is written, read as a function
pub set_put : (l : List ℕ) (a v : ℕ) → a < length l → slice_index (slice_set l a v) ≡ put (slice_index l) a v
set_put l a v lt = fun_ext (λ k. ⊎_elim
    (λ e. ap (slice_index (slice_set l a v)) e ∙ get_or-set_same l a v 0 lt ∙ sym (cond-true _ v (slice_index l k) (eq-eqb k a e)))
    (λ ne. get_or-set_other l a k v 0 ne ∙ sym (cond-false _ v (slice_index l k) (ne_eqb k a ne)))
    (cases_eq k a))

-- a register that is written
pub write_put : (regs : List ℕ) (r v : ℕ) → r < length regs → slice_index (write_register regs r v) ≡ put_reg (slice_index regs) r v
write_put regs r v lt = elim (nat_eq r 0) as (λ b. slice_index (cond b regs (slice_set regs r v)) ≡ cond b (slice_index regs) (put (slice_index regs) r v)) [ true ↦ refl | false ↦ set_put regs r v lt ]

-- register 0 is 0
pub reg_same : (regs : List ℕ) → slice_index regs 0 ≡ 0 → slice_index regs ≡ reg (slice_index regs)
reg_same regs h = fun_ext (λ r. ⊎_elim
    (λ e. ap (slice_index regs) e ∙ h ∙ sym (cond-true _ 0 (slice_index regs r) (eq-eqb r 0 e)))
    (λ ne. sym (cond-false _ 0 (slice_index regs r) (ne_eqb r 0 ne)))
    (cases_eq r 0))

-- a word of memory is written
pub space_memory : (m b : List ℕ) (s a v : ℕ) → a < length m → space (slice_set m a v) b s ≡ put (space m b s) a v
space_memory m b s a v lt =
    let e = length-set m a v in
    let g : (k : ℕ) → slice_index (slice_set m a v) k ≡ put (slice_index m) a v k = λ k. ap (λ h. h k) (set_put m a v lt) in
    fun_ext (λ k. ap₂ (λ n u. cond (nat_lt k n) u (cond (is_buffer k) (slice_index b (k - BUFFER)) (cond (k == SECTOR) s 0))) e (g k) ∙ here k)
  where
    here : (k : ℕ) → cond (nat_lt k (length m)) (put (slice_index m) a v k) (cond (is_buffer k) (slice_index b (k - BUFFER)) (cond (k == SECTOR) s 0)) ≡ put (space m b s) a v k
    here k = grind (arith, nat_tests)

-- a word of the buffer is written
pub space_buffer : (m b : List ℕ) (s a v : ℕ) → length m < 2 ^ 26 → length b ≡ 1024 → BUFFER ≤ a → a < SECTOR → space m (slice_set b (a - BUFFER) v) s ≡ put (space m b s) a v
space_buffer m b s a v small size le lt =
    let g : (k : ℕ) → slice_index (slice_set b (a - BUFFER) v) k ≡ put (slice_index b) (a - BUFFER) v k = λ k. ap (λ h. h k) (set_put b (a - BUFFER) v (omega arith)) in
    fun_ext (λ k. ap (λ u. cond (nat_lt k (length m)) (slice_index m k) (cond (is_buffer k) u (cond (k == SECTOR) s 0))) (g (k - BUFFER)) ∙ here (slice_index m) (slice_index b) (length m) a small le lt k)
  where
    here : (m b : ℕ → ℕ) (n a : ℕ) → n < 2 ^ 26 → BUFFER ≤ a → a < SECTOR → (k : ℕ) → cond (nat_lt k n) (m k) (cond (is_buffer k) (put b (a - BUFFER) v (k - BUFFER)) (cond (k == SECTOR) s 0)) ≡ put (λ k. cond (nat_lt k n) (m k) (cond (is_buffer k) (b (k - BUFFER)) (cond (k == SECTOR) s 0))) a v k
    here m b n a small le lt k = grind (arith, nat_tests)

-- the sector register is written
pub space_sector : (m b : List ℕ) (s v : ℕ) → length m < 2 ^ 26 → space m b v ≡ put (space m b s) SECTOR v
space_sector m b s v small = fun_ext (here m b s v small)
  where
    here : (m b : List ℕ) (s v : ℕ) → length m < 2 ^ 26 → (k : ℕ) → space m b v k ≡ put (space m b s) SECTOR v k
    here m b s v small k = grind (arith, nat_tests)

-- the buffer gets other words
pub space_filled : (m b b' : List ℕ) (s : ℕ) → length m < 2 ^ 26 → space m b' s ≡ filled (space m b s) (slice_index b')
space_filled m b b' s small = fun_ext (here m b b' s small)
  where
    here : (m b b' : List ℕ) (s : ℕ) → length m < 2 ^ 26 → (k : ℕ) → space m b' s k ≡ filled (space m b s) (slice_index b') k
    here m b b' s small k = grind (arith, nat_tests)

-- the buffer's words
pub space_read : (m b : List ℕ) (s : ℕ) → length m < 2 ^ 26 → length b ≡ 1024 → (i : ℕ) → slice_index b i ≡ buffer_of (space m b s) i
space_read m b s small size i =
    ⊎_elim
    (λ lt. inside (slice_index m) (slice_index b) (length m) small lt ∙ sym (cond-true _ (space m b s (BUFFER + i)) 0 (lt-ltb i 1024 lt)))
    (λ ge. get_or_past b i 0 (omega arith) ∙ sym (cond-false _ (space m b s (BUFFER + i)) 0 (le-ltb i 1024 ge)))
    (cases_lt i 1024)
  where
    inside : (m b : ℕ → ℕ) (n : ℕ) → n < 2 ^ 26 → i < 1024 → b i ≡ cond (nat_lt (BUFFER + i) n) (m (BUFFER + i)) (cond (is_buffer (BUFFER + i)) (b (BUFFER + i - BUFFER)) (cond (BUFFER + i == SECTOR) s 0))
    inside m b n small lt = let e : BUFFER + i - BUFFER ≡ i = omega arith in grind (arith, nat_tests)

-- the sectors, one of which is written
pub sectors_set : (sectors : List (List ℕ)) (i : ℕ) (words : List ℕ) → i < length sectors → sectors_of (slice_set sectors i words) ≡ (λ k. if k == i then slice_index words else sectors_of sectors k)
sectors_set sectors i words lt = fun_ext (λ k. ⊎_elim
    (λ e. ap slice_index (ap (sector_of (slice_set sectors i words)) e ∙ get_or-set_same sectors i words [] lt) ∙ sym (cond-true _ (slice_index words) (sectors_of sectors k) (eq-eqb k i e)))
    (λ ne. ap slice_index (get_or-set_other sectors i k words [] ne) ∙ sym (cond-false _ (slice_index words) (sectors_of sectors k) (ne_eqb k i ne)))
    (cases_eq k i))
