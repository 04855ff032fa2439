-- Each run of a block of the layer's code is made by the machine: the laws on runs of code, for the block alone.
use Rattle.std.proofs.Common.{◌≡◌, ℕ, suc, ◌+◌, ◌-◌, ◌*◌, ◌/◌, ◌<◌, ◌≤◌, ◌⊎◌, Bool, true, false, not, ◌&&◌, nat_lt, Some, None, List, [], ◌∷◌, length, map, slice_index, refl, sym, ap, ◌∙◌, subst, ⊎_elim, inl, inr, arith, lt-ltb, le-ltb, ltb-true, eq-eqb, ne_eqb}
use Rattle.std.specs.Prelude.{◌==◌, if◌then◌else◌}
use Rattle.std.proofs.lemmas.Bool.{cond-true, cond-false, cases_eq}
use Rattle.mips_table.specs.declared.inst.Inst.{Inst}
use Rattle.mips_table.specs.Encoding.{encoding}
use Rattle.mips_table.specs.Device.{Environment}
use Rattle.mips_table.specs.Machine.{State, Done, come_to, coming, latched, run}
use Rattle.mips_table.specs.Fits.{NamesSector}
use Rattle.mips_table.specs.Code.{World, Sound, CodeState, Steps}
use Rattle.mips_table.specs.Simulation.{configuration_of, Quiet, MemoryHolds, DiskServes, Simulates, MachineSimulates}
use Rattle.layer_map.specs.Map.{memory_words}
use Rattle.masm.specs.Standing.{only_block_at, BlockStands}
use Rattle.cvm_model.specs.Stands.{Site, is_own}
use Rattle.layer_contract.specs.Layer.{Inside, command_due, EndsNamed}
use Rattle.real_layer.specs.Runs.{BlockIsLinked, Calm, kept_words, block_program, block_world, MakesRun, BlocksRun}

-- the word of an instruction of a placed block
word_of : (n : ℕ) (is : List Inst) (k : ℕ) (i : Inst) → only_block_at n is k ≡ Some i → n ≤ k → slice_index (map encoding is) (k - n) ≡ encoding i
word_of n [] k i e le = absurd (cc)
word_of n (j ∷ is) k i e le = ⊎_elim
    (λ z. let here : Some j ≡ Some i = sym (cond-true (k == n) (Some j) (only_block_at (n + 1) is k) (eq-eqb k n z)) ∙ e in
    let same : j ≡ i = cc in
    let at : k - n ≡ 0 = omega arith in
    ap (slice_index (map encoding (j ∷ is))) at ∙ ap encoding same)
    (λ ne. let there : only_block_at (n + 1) is k ≡ Some i = sym (cond-false (k == n) (Some j) (only_block_at (n + 1) is k) (ne_eqb k n ne)) ∙ e in
    let at : k - n ≡ suc (k - (n + 1)) = omega arith in
    ap (slice_index (map encoding (j ∷ is))) at ∙ word_of (n + 1) is k i there (omega arith))
    (cases_eq k n)

-- what is kept
kept_is : (y : Site) (memory : List ℕ) (k : ℕ) → k < length y.linked → length y.linked ≤ length memory → is_own y.map k ≡ false → slice_index memory k ≡ slice_index y.linked k → kept_words y memory k ≡ Some (slice_index y.linked k)
kept_is y memory k lt long e same = by (nat_lt k (memory_words y.map))
  where
    both : (a b : Bool) → a ≡ true → b ≡ false → (a && not b) ≡ true
    both true false p q = refl
    both true true p q = absurd (cc)
    both false b p q = absurd (cc)

    by : (a : Bool) → (if a then (if nat_lt k (length y.linked) && not (is_own y.map k) then Some (slice_index y.linked k) else None) else if nat_lt k (length memory) then Some (slice_index memory k) else None) ≡ Some (slice_index y.linked k)
    by true = ap (λ b. if b then Some (slice_index y.linked k) else None) (both (nat_lt k (length y.linked)) (is_own y.map k) (lt-ltb k (length y.linked) lt) e)
    by false = ap (λ b. if b then Some (slice_index memory k) else None) (lt-ltb k (length memory) (omega arith)) ∙ ap Some same

-- a word that is kept is a linked one, or stands behind the map's last frame
kept_by : (y : Site) (memory : List ℕ) (k v : ℕ) → kept_words y memory k ≡ Some v → ((k < length y.linked) × (is_own y.map k ≡ false) × (slice_index y.linked k ≡ v)) ⊎ (slice_index memory k ≡ v)
kept_by y memory k v e = by (nat_lt k (memory_words y.map)) (nat_lt k (length y.linked)) (is_own y.map k) (nat_lt k (length memory)) refl refl e
  where
    by : (a b o c : Bool) → nat_lt k (length y.linked) ≡ b → is_own y.map k ≡ o → (if a then (if b && not o then Some (slice_index y.linked k) else None) else if c then Some (slice_index memory k) else None) ≡ Some v
        → ((k < length y.linked) × (is_own y.map k ≡ false) × (slice_index y.linked k ≡ v)) ⊎ (slice_index memory k ≡ v)
    by true true false c p q h = inl (ltb-true k (length y.linked) p, q, cc)
    by true true true c p q h = absurd (cc)
    by true false o c p q h = absurd (cc)
    by false b o true p q h = inr (cc)
    by false b o false p q h = absurd (cc)

-- a word behind the map's last frame is kept
kept_behind : (y : Site) (memory : List ℕ) (k : ℕ) → memory_words y.map ≤ k → k < length memory → kept_words y memory k ≡ Some (slice_index memory k)
kept_behind y memory k le lt =
    ap (λ a. if a then (if nat_lt k (length y.linked) && not (is_own y.map k) then Some (slice_index y.linked k) else None) else if nat_lt k (length memory) then Some (slice_index memory k) else None) (le-ltb k (memory_words y.map) le)
    ∙ ap (λ b. if b then Some (slice_index memory k) else None) (lt-ltb k (length memory) lt)

-- the command that an instruction's step ends
named_by : (x : Environment) (y : Site) (s after : State) → coming x (latched x s) ≡ Done after → NamesSector (y.map.users * y.map.params.pages) after.device.pending → EndsNamed x y.map s
unfolding command_due
named_by x y s after e h = subst (λ o. NamesSector (y.map.users * y.map.params.pages) (come_to o).device.pending) (sym e) h

module _ (stands : (n : ℕ) (is : List Inst) → BlockStands n is) (x : Environment) (y : Site) (s : State) (n : ℕ) (is : List Inst) (at : BlockIsLinked y n is) (c : Calm x y s) where
  pub sound : Sound (block_world x y s n is)
  sound = record {
    small = c.small;
    range = (stands n is).range at.range;
    inside = λ k i e. let b = (stands n is).inside k i e in let top = b.1 in let long = c.long in let end = at.inside in omega arith;
    keeps = λ k i e.
        let b = (stands n is).inside k i e in
        let low : n ≤ k = b.0 in
        let top : k < n + length is = b.1 in
        let end : n + length is ≤ length y.linked = at.inside in
        let there : n + (k - n) ≡ k = omega arith in
        let word : slice_index y.linked k ≡ encoding i = ap (slice_index y.linked) (sym there) ∙ at.linked (k - n) (omega arith) ∙ word_of n is k i e low in
        let long = c.long in
        kept_is y s.memory k (omega arith) long (at.kept k low top) (c.stays k (omega arith) (at.kept k low top)) ∙ ap Some word;
  }

  pub holds : MemoryHolds (block_world x y s n is) s.memory
  holds = record { size = refl; kept = λ k v e. ⊎_elim (λ h. c.stays k h.0 h.1 ∙ h.2) (λ h. h) (kept_by y s.memory k v e) }

  pub serves : DiskServes x (block_world x y s n is) s.device
  serves = record { count = c.sectors; named = subst (NamesSector (y.map.users * y.map.params.pages)) (sym c.idle) tt }

  -- a quiet machine is inside
  inside_of : (t : State) → Quiet x t → Inside t
  inside_of t q = record { on = q.on; mode = q.mode; sr = q.sr; no_reset = q.no_reset }

  pub makes : MachineSimulates → (t : CodeState) (steps : ℕ) → Steps (block_world x y s n is) steps (configuration_of s) t → MakesRun x y n is steps s t
  makes simulates t steps r =
      let w : World = block_world x y s n is in
      let m : Simulates x w steps s = simulates x (block_program y s.memory n is) s steps t sound c.quiet holds serves r in
      let last = m.along steps (omega arith) in
      let there : configuration_of (run x s steps) ≡ t = m.same steps (omega arith) ∙ r.1 in
      record {
        stretch = record {
          inside = λ j lt. inside_of (run x s j) (m.along j (omega arith)).quiet;
          from = λ j lt. let i = m.instructs j lt in let b : n ≤ (run x s j).cpu.pc / 4 = ((stands n is).inside _ i.inst i.code).0 in omega arith;
          to = λ j lt. let i = m.instructs j lt in let b : (run x s j).cpu.pc / 4 < n + length is = ((stands n is).inside _ i.inst i.code).1 in omega arith;
          sectors = λ j le q past. (m.along j le).sectors q past;
          frames = λ j le. let h = (m.along j le).holds in record { size = h.size; words = λ k from lt. h.kept k (slice_index s.memory k) (kept_behind y s.memory k from lt) };
          named = λ j lt. let i = m.instructs j lt in named_by x y (run x s j) i.after i.untaken i.named;
        };
        there = there;
        calm = λ idle. record {
          quiet = last.quiet;
          long = let z : length (run x s steps).memory ≡ length s.memory = last.holds.size in let long = c.long in omega arith;
          small = let z : length (run x s steps).memory ≡ length s.memory = last.holds.size in let small = c.small in omega arith;
          stays = λ k lt own. last.holds.kept k (slice_index y.linked k) (kept_is y s.memory k lt c.long own (c.stays k lt own));
          idle = ap (λ u. u.behind.pending) there ∙ idle;
          sectors = c.sectors;
        };
        size = last.holds.size;
      }

pub blocks_run : MachineSimulates → ((n : ℕ) (is : List Inst) → BlockStands n is) → BlocksRun
blocks_run simulates stands x y s t n is steps at c r = makes stands x y s n is at c simulates t steps r
