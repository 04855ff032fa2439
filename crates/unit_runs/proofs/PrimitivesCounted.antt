-- The primitives that the machine has ended, counted along a run: over steps that are at no primitive's entry, and over a primitive from its entry on.
use Rattle.std.specs.Prelude.{slice_index, ◌&&◌, ◌==◌, not, is_some}
use Rattle.std.proofs.Common.{◌≡◌, ◌≢◌, ◌⊎◌, inl, inr, ℕ, zero, suc, ◌+◌, ◌-◌, ◌/◌, ◌<◌, ◌≤◌, Bool, true, false, Option, List, Some, None, refl, sym, ap, ◌∙◌, subst, arith}
use Rattle.std.proofs.lemmas.Bool.{cases_lt, cond-true, cond-false, cond_both, and_from, and_right, eq-eqb, ne_eqb}
use Rattle.mips_table.specs.declared.inst.Inst.{Inst}
use Rattle.mips_table.specs.Device.{Environment}
use Rattle.mips_table.specs.Code.{CodeState, on_machine, Sound, Steps}
use Rattle.mips_table.specs.Machine.{State, in_system, run}
use Rattle.mips_table.specs.Turns.{is_on}
use Rattle.mips_table.specs.Simulation.{configuration_of, MachineSimulates}
use Rattle.layer_map.specs.Map.{layer_words}
use Rattle.layer_contract.specs.declared.entry.Entry.TheVariants.{Primitive}
use Rattle.layer_contract.specs.declared.registers.TheConstants.{RETURN}
use Rattle.layer_contract.specs.Layer.{layer_entry, Inside, IsEntry, Way}
use Rattle.layer_contract.specs.Calls.{entered, return_address, under_way, ends_here, ended_before, busy_count, entered_before}
use Rattle.cvm_model.specs.Stands.{Site}
use Rattle.unit_runs.specs.Placed.{program}
use Rattle.unit_runs.specs.Host.{CountsCalls}
use Rattle.unit_runs.proofs.CodeOnMachine.{code_is}
use Rattle.unit_runs.proofs.RunsComeSoFar.{RunsJoin, Reached}

-- the pc is at no primitive's entry
abbrev pub IsElsewhere : State → Type 0
IsElsewhere s = (i : ℕ) → i < 10 → s.cpu.pc ≢ layer_entry (Primitive i)

pub none_some : (n : ℕ) → ◌≡◌ {A = Option ℕ} None (Some n) → ⊥
none_some n e = cc

-- whether primitive k is entered
abbrev is_entered : State → ℕ → Bool
is_entered s k = is_on s && in_system s.special && s.cpu.pc == layer_entry (Primitive k)

elsewhere : (n : ℕ) (s : State) → ((i : ℕ) → i < n → s.cpu.pc ≢ layer_entry (Primitive i)) → entered n s ≡ None
elsewhere zero s clear = refl
elsewhere (suc n) s clear =
    cond-false (is_entered s n) (Some (slice_index s.cpu.regs RETURN)) (entered n s) (and_right (is_on s && in_system s.special) _ (ne_eqb s.cpu.pc (layer_entry (Primitive n)) (clear n (omega arith))))
    ∙ elsewhere n s (λ i lt. clear i (omega (arith, lt)))

at_entry : (n i : ℕ) (s : State) → i < n → Inside s → s.cpu.pc ≡ layer_entry (Primitive i) → entered n s ≡ Some (slice_index s.cpu.regs RETURN)
at_entry zero i s lt inside at = absurd (omega (arith, lt))
at_entry (suc n) i s lt inside at = by (cases_lt i n) (λ less. at_entry n i s less inside at)
  where
    by : (i < n) ⊎ (n ≤ i) → (i < n → entered n s ≡ Some (slice_index s.cpu.regs RETURN)) → entered (suc n) s ≡ Some (slice_index s.cpu.regs RETURN)
    by (inl less) below = cond_both (is_entered s n) (Some (slice_index s.cpu.regs RETURN)) (entered n s) (λ o. o ≡ Some (slice_index s.cpu.regs RETURN)) (λ e. refl) (λ e. below less)
    by (inr le) below =
        let same : i ≡ n = omega (arith, lt, le) in
        cond-true (is_entered s n) (Some (slice_index s.cpu.regs RETURN)) (entered n s)
        (and_from (is_on s && in_system s.special) _ (and_from (is_on s) (in_system s.special) (ap (λ o. not (is_some o)) inside.on) (eq-eqb _ 0 inside.mode)) (eq-eqb s.cpu.pc (layer_entry (Primitive n)) (at ∙ ap (λ k. layer_entry (Primitive k)) same)))

-- so many have ended, and one more is under way, which returns to this address
record Waits (x : Environment) (s : State) (back k m : ℕ) : Type 0 where
  under : under_way x s k ≡ Some back
  count : ended_before x s k ≡ m
  early : (t : ℕ) → t < k → entered_before x s t ≤ suc m

module _ (x : Environment) (s : State) where
  pub begins : IsElsewhere s → CountsCalls x s 0 0
  begins clear = record { under = sym (elsewhere 10 s clear); count = refl; early = λ t lt. absurd (omega (arith, lt)) }

  -- what was so before a step, and at it
  upto : (k m : ℕ) → ((t : ℕ) → t < k → entered_before x s t ≤ m) → entered_before x s k ≤ m → (t : ℕ) → t < suc k → entered_before x s t ≤ m
  upto k m before here t lt = by (cases_lt t k)
    where
      by : (t < k) ⊎ (k ≤ t) → entered_before x s t ≤ m
      by (inl less) = before t less
      by (inr le) = let same : k ≡ t = omega (arith, lt, le) in subst (λ i. entered_before x s i ≤ m) same here

  next_counts : (k m : ℕ) → CountsCalls x s k m → IsElsewhere (run x s k) → CountsCalls x s (suc k) m
  next_counts k m c clear =
      let none : under_way x s k ≡ None = c.under ∙ elsewhere 10 (run x s k) clear in
      let same : ended_before x s (suc k) ≡ ended_before x s k + 0 = ap (λ o. ended_before x s k + ends_here (run x s (suc k)) o) none in
      let busy : busy_count (under_way x s k) ≡ 0 = ap busy_count none in
      let n = c.count in
      record { under = ap (return_address (run x s (suc k))) none; count = omega (arith, same, n); early = upto k m c.early (omega (arith, busy, n)) }

  -- steps from states that are at no entry
  pub counts_along : (k m n : ℕ) → CountsCalls x s k m → ((j : ℕ) → j < n → IsElsewhere (run x s (k + j))) → CountsCalls x s (k + n) m
  counts_along k m zero c clear = let e : k ≡ k + 0 = omega arith in subst (λ i. CountsCalls x s i m) e c
  counts_along k m (suc n) c clear =
      let e : suc (k + n) ≡ k + suc n = omega arith in
      subst (λ i. CountsCalls x s i m) e (next_counts (k + n) m (counts_along k m n c (λ j lt. clear j (omega (arith, lt)))) (clear n (omega arith)))

  waiting : (back k m : ℕ) → Waits x s back k m → entered_before x s k ≤ suc m
  waiting back k m w = let busy : busy_count (under_way x s k) ≡ 1 = ap busy_count w.under in let n = w.count in omega (arith, busy, n)

  next_waits : (back k m : ℕ) → Waits x s back k m → (run x s (suc k)).cpu.pc ≢ back → Waits x s back (suc k) m
  next_waits back k m w apart =
      let other = ne_eqb (run x s (suc k)).cpu.pc back apart in
      let same : ended_before x s (suc k) ≡ ended_before x s k + 0 = ap (λ o. ended_before x s k + ends_here (run x s (suc k)) o) w.under ∙ ap (λ a. ended_before x s k + a) (cond-false _ 1 0 other) in
      let n = w.count in
      record {
        under = ap (return_address (run x s (suc k))) w.under ∙ cond-false _ None (Some back) other;
        count = omega (arith, same, n);
        early = upto k (suc m) w.early (waiting back k m w);
      }

  waits_along : (back k m n : ℕ) → Waits x s back k m → ((j : ℕ) → 0 < j → j ≤ n → (run x s (k + j)).cpu.pc ≢ back) → Waits x s back (k + n) m
  waits_along back k m zero w apart = let e : k ≡ k + 0 = omega arith in subst (λ i. Waits x s back i m) e w
  waits_along back k m (suc n) w apart =
      let e : suc (k + n) ≡ k + suc n = omega arith in
      subst (λ i. Waits x s back i m) e (next_waits back (k + n) m (waits_along back k m n w (λ j pos le. apart j pos (omega (arith, le)))) (subst (λ i. (run x s i).cpu.pc ≢ back) (sym e) (apart (suc n) (omega arith) (omega arith))))

  -- its return ends it
  ends : (back k m : ℕ) → Waits x s back k m → (run x s (suc k)).cpu.pc ≡ back → IsElsewhere (run x s (suc k)) → CountsCalls x s (suc k) (suc m)
  ends back k m w at clear =
      let here = eq-eqb (run x s (suc k)).cpu.pc back at in
      let more : ended_before x s (suc k) ≡ ended_before x s k + 1 = ap (λ o. ended_before x s k + ends_here (run x s (suc k)) o) w.under ∙ ap (λ a. ended_before x s k + a) (cond-true _ 1 0 here) in
      let n = w.count in
      record {
        under = ap (return_address (run x s (suc k))) w.under ∙ cond-true _ None (Some back) here ∙ sym (elsewhere 10 (run x s (suc k)) clear);
        count = omega (arith, more, n);
        early = upto k (suc m) w.early (waiting back k m w);
      }

  -- where one is entered none was under way before
  pub was_idle : (k m i : ℕ) → CountsCalls x s k m → Inside (run x s k) → i < 10 → (run x s k).cpu.pc ≡ layer_entry (Primitive i) → (j : ℕ) → suc j ≡ k → under_way x s j ≡ None
  was_idle k m i c inside few at j next = by (under_way x s j) refl (subst (λ a. CountsCalls x s a m) (sym next) c) (subst (λ a. entered 10 (run x s a) ≡ Some (slice_index (run x s a).cpu.regs RETURN)) (sym next) (at_entry 10 i (run x s k) few inside at))
    where
      by : (o : Option ℕ) → under_way x s j ≡ o → CountsCalls x s (suc j) m → entered 10 (run x s (suc j)) ≡ Some (slice_index (run x s (suc j)).cpu.regs RETURN) → under_way x s j ≡ None
      by None is c enters = is
      by (Some back) is c enters = by_test ((run x s (suc j)).cpu.pc == back) refl
        where
          by_test : (b : Bool) → ((run x s (suc j)).cpu.pc == back) ≡ b → under_way x s j ≡ None
          by_test true e =
              let idle : under_way x s (suc j) ≡ None = ap (return_address (run x s (suc j))) is ∙ cond-true _ None (Some back) e in
              absurd (none_some _ (sym idle ∙ (c.under ∙ enters)))
          by_test false e =
              let same : ended_before x s (suc j) ≡ ended_before x s j + 0 = ap (λ o. ended_before x s j + ends_here (run x s (suc j)) o) is ∙ ap (λ a. ended_before x s j + a) (cond-false _ 1 0 e) in
              let busy : busy_count (under_way x s j) ≡ 1 = ap busy_count is in
              let few = c.early j (omega arith) in let n = c.count in
              absurd (omega (arith, same, busy, few, n))

module _ (joins : RunsJoin) (x : Environment) (s : State) where
  -- a primitive from its entry to its return, which is the first
  pub counts_one : (k m i n : ℕ) → CountsCalls x s k m → Inside (run x s k) → i < 10 → (run x s k).cpu.pc ≡ layer_entry (Primitive i)
      → ((j : ℕ) → j < n → (run x (run x s k) j).cpu.pc ≢ slice_index (run x s k).cpu.regs RETURN) → (run x (run x s k) n).cpu.pc ≡ slice_index (run x s k).cpu.regs RETURN
      → IsElsewhere (run x (run x s k) n) → CountsCalls x s (k + n) (suc m)
  counts_one k m i zero c inside few at apart returned clear = absurd (clear i few at)
  counts_one k m i (suc n) c inside few at apart returned clear =
      let e : suc (k + n) ≡ k + suc n = omega arith in
      let last : run x s (suc (k + n)) ≡ run x (run x s k) (suc n) = ap (run x s) e ∙ joins x s k (suc n) in
      let first : Waits x s (slice_index (run x s k).cpu.regs RETURN) k m = record { under = c.under ∙ at_entry 10 i (run x s k) few inside at; count = c.count; early = λ t lt. let l = c.early t lt in omega (arith, l) } in
      let waits = waits_along x s (slice_index (run x s k).cpu.regs RETURN) k m n first
      (λ j pos le. subst (λ t. t.cpu.pc ≢ slice_index (run x s k).cpu.regs RETURN) (sym (joins x s k j)) (apart j (omega (arith, le)))) in
      subst (λ a. CountsCalls x s a (suc m)) e (ends x s (slice_index (run x s k).cpu.regs RETURN) (k + n) m waits (ap (λ t. t.cpu.pc) last ∙ returned) (subst IsElsewhere (sym last) clear))

  -- a way that meets no entry, to a state that isn't inside: while the machine is inside no more are entered
  pub counts_last : (k m t n : ℕ) → CountsCalls x s k m → IsElsewhere (run x s k) → (y : Site) → Way x y IsEntry n (run x s k) → (Inside (run x (run x s k) n) → ⊥)
      → ((j : ℕ) → j ≤ t → Inside (run x s j)) → entered_before x s t ≤ m
  counts_last k m t n c clear y way over inside = by (cases_lt t k)
    where
      early : k ≤ t → n ≤ t - k → ⊥
      early from le = over (subst Inside (joins x s k n) (inside (k + n) (omega (arith, from, le))))

      place : (i : ℕ) → i < 10 → (j : ℕ) → j < n → (0 < j) ⊎ (j ≤ 0) → (run x (run x s k) j).cpu.pc ≢ layer_entry (Primitive i)
      place i few j lt (inl pos) = way.between j (Primitive i) pos lt few
      place i few j lt (inr none) = let e : 0 ≡ j = omega (arith, none) in subst (λ a. (run x (run x s k) a).cpu.pc ≢ layer_entry (Primitive i)) e (clear i few)

      at : (j : ℕ) → j < n → IsElsewhere (run x s (k + j))
      at j lt i few = subst (λ r. r.cpu.pc ≢ layer_entry (Primitive i)) (sym (joins x s k j)) (place i few j lt (cases_lt 0 j))

      later : k ≤ t → (t - k < n) ⊎ (n ≤ t - k) → entered_before x s t ≤ m
      later from (inr le) = absurd (early from le)
      later from (inl less) = (counts_along x s k m (suc (t - k)) c (λ j l. at j (omega (arith, l, less)))).early t (omega (arith, from))

      by : (t < k) ⊎ (k ≤ t) → entered_before x s t ≤ m
      by (inl lt) = c.early t lt
      by (inr from) = later from (cases_lt (t - k) n)

-- in the kernel's code there is no entry of a primitive
pub in_code : (s : State) → layer_words ≤ s.cpu.pc / 4 → IsElsewhere s
in_code s le i few e = omega (arith, le, few, e)

module _ (simulates : MachineSimulates) (joins : RunsJoin) (x : Environment) (y : Site) (code : List Inst) (words : List ℕ) (sound : Sound (on_machine x (program y.map (layer_words + 1) code words))) where
  -- steps of code end no primitive
  pub counts_on : (s0 : State) (k n : ℕ) (c t : CodeState) → Reached simulates joins x y code words sound s0 k c → Steps (on_machine x (program y.map (layer_words + 1) code words)) n c t → (m : ℕ) → CountsCalls x s0 k m → CountsCalls x s0 (k + n) m
  counts_on s0 k n c t r steps m counts =
      let own : Steps (on_machine x (program y.map (layer_words + 1) code words)) n (configuration_of (run x s0 k)) t = subst (λ a. Steps (on_machine x (program y.map (layer_words + 1) code words)) n a t) (sym r.same) steps in
      let sim = simulates x (program y.map (layer_words + 1) code words) (run x s0 k) n t sound r.quiet r.holds r.serves own in
      counts_along x s0 k m n counts (λ j lt. subst IsElsewhere (sym (joins x s0 k j)) (in_code (run x (run x s0 k) j) (let i = sim.instructs j lt in let from = (code_is (layer_words + 1) code ((run x (run x s0 k) j).cpu.pc / 4) i.inst i.code).0 in omega (arith, from))))
