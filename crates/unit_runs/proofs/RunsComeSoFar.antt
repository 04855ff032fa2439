-- How far a run has come: so many steps of the machine lead to a configuration, by a way that meets no door of the kernel.
use Rattle.std.proofs.Common.{◌≡◌, ◌≢◌, ◌⊎◌, List, length, slice_index, ℕ, ◌+◌, ◌-◌, ◌*◌, ◌/◌, ◌<◌, ◌≤◌, inl, inr, sym, ap, ◌∙◌, subst, arith}
use Rattle.std.proofs.lemmas.Bool.{cases_lt}
use Rattle.mips_table.specs.Device.{Pending, Idle, Reading, Writing, Environment, sector_of}
use Rattle.mips_table.specs.Code.{World, CodeState, on_machine, Sound, Steps}
use Rattle.mips_table.specs.Machine.{State, come_to, run}
use Rattle.mips_table.specs.Fits.{NamesSector}
use Rattle.mips_table.specs.Simulation.{configuration_of, Quiet, MemoryHolds, DiskServes, Instructs, MachineSimulates}
use Rattle.mips_table.specs.declared.inst.Inst.{Inst}
use Rattle.layer_map.specs.Map.{layer_words}
use Rattle.layer_contract.specs.declared.entry.Entry.{Entry}
use Rattle.layer_contract.specs.declared.entry.Entry.TheVariants.{Dispatch, Primitive, Fault as Exit, Leave}
use Rattle.layer_contract.specs.Layer.{layer_entry, Inside, command_due, EndsNamed, Way, SectorsStay, FramesStay}
use Rattle.layer_contract.specs.Follows.{IsKernelDoor}
use Rattle.cvm_model.specs.Stands.{Site}
use Rattle.unit_runs.specs.Placed.{program}
use Rattle.unit_runs.specs.Host.{world_of, HasCome}
use Rattle.unit_runs.proofs.CodeOnMachine.{code_is, kept_past}

-- a run of m and then n steps is one of m + n
abbrev pub RunsJoin : Type 0
RunsJoin = (x : Environment) (s : State) (m n : ℕ) → run x s (m + n) ≡ run x (run x s m) n

pub inside_of : (x : Environment) (s : State) → Quiet x s → Inside s
inside_of x s q = record { on = q.on; mode = q.mode; sr = q.sr; no_reset = q.no_reset }

-- no door of the kernel stands behind the first word of its code
pub no_door : (pc : ℕ) (e : Entry) → layer_words + 1 ≤ pc / 4 → IsKernelDoor e → pc ≢ layer_entry e
no_door pc Dispatch le d e = omega (arith, le, e)
no_door pc (Primitive k) le d e = absurd d
no_door pc (Exit f) le d e = let most = d.1 in omega (arith, le, e, most)
no_door pc Leave le d e = omega (arith, le, e)

-- nor at the entry of a primitive
pub no_primitive : (pc k : ℕ) (e : Entry) → k < 10 → pc ≡ layer_entry (Primitive k) → IsKernelDoor e → pc ≢ layer_entry e
no_primitive pc k Dispatch lt at d e = omega (arith, lt, at, e)
no_primitive pc k (Primitive j) lt at d e = absurd d
no_primitive pc k (Exit f) lt at d e = let least = d.0 in let most = d.1 in omega (arith, lt, at, e, least, most)
no_primitive pc k Leave lt at d e = omega (arith, lt, at, e)

-- no number is below 0
in_none : (n : ℕ) (p : Pending) → NamesSector 0 p → NamesSector n p
in_none n Idle h = tt
in_none n (Reading left sector) h = absurd (omega (arith, h))
in_none n (Writing left sector) h = absurd (omega (arith, h))

-- a kernel's code uses no sector, so the command that one of its steps ends is for any of the users'
pub instructs_named : (x : Environment) (y : Site) (first : ℕ) (code : List Inst) (words : List ℕ) (s : State) → Instructs x (on_machine x (program y.map first code words)) s → EndsNamed x y.map s
unfolding command_due
instructs_named x y first code words s i =
    subst (λ o. NamesSector (y.map.users * y.map.params.pages) (come_to o).device.pending) (sym i.untaken) (in_none (y.map.users * y.map.params.pages) i.after.device.pending i.named)

module _ (joins : RunsJoin) (x : Environment) (y : Site) (D : Entry → Type 0) (s : State) where
  no_way : Way x y D 0 s
  no_way = record {
    inside = λ j lt. absurd (omega (arith, lt));
    between = λ j e pos lt. absurd (omega (arith, lt));
    sectors = λ j le q from. let e : j ≡ 0 = omega (arith, le) in ap (λ n. sector_of (run x s n).device.sectors q) e;
    frames = λ j le. let e : j ≡ 0 = omega (arith, le) in record { size = ap (λ n. length (run x s n).memory) e; words = λ k from lt. ap (λ n. slice_index (run x s n).memory k) e };
    named = λ j lt. absurd (omega (arith, lt));
  }

  -- ways join, where the state between them isn't at a door
  pub ways_join : (k n : ℕ) → Way x y D k s → Way x y D n (run x s k) → ((e : Entry) → 0 < n → D e → (run x s k).cpu.pc ≢ layer_entry e) → Way x y D (k + n) s
  ways_join k n a b between = record {
    inside = λ j lt. by_inside j lt (cases_lt j k);
    between = λ j e pos lt d. by_between j e pos lt d (cases_lt j k);
    sectors = λ j le. by_sectors j le (cases_lt j k);
    frames = λ j le. by_frames j le (cases_lt j k);
    named = λ j lt. by_named j lt (cases_lt j k);
  }
    where
      at : (j : ℕ) → k ≤ j → run x s j ≡ run x (run x s k) (j - k)
      at j le = let e : j ≡ k + (j - k) = omega (arith, le) in ap (run x s) e ∙ joins x s k (j - k)

      by_inside : (j : ℕ) → j < k + n → (j < k) ⊎ (k ≤ j) → Inside (run x s j)
      by_inside j lt (inl less) = a.inside j less
      by_inside j lt (inr le) = subst Inside (sym (at j le)) (b.inside (j - k) (omega (arith, lt, le)))

      by_between : (j : ℕ) (e : Entry) → 0 < j → j < k + n → D e → (j < k) ⊎ (k ≤ j) → (run x s j).cpu.pc ≢ layer_entry e
      by_between j e pos lt d (inl less) = a.between j e pos less d
      by_between j e pos lt d (inr le) = by_place (cases_lt k j)
        where
          by_place : (k < j) ⊎ (j ≤ k) → (run x s j).cpu.pc ≢ layer_entry e
          by_place (inl less) = subst (λ t. t.cpu.pc ≢ layer_entry e) (sym (at j le)) (b.between (j - k) e (omega (arith, less)) (omega (arith, lt, le)) d)
          by_place (inr ge) = let q : k ≡ j = omega (arith, le, ge) in subst (λ i. (run x s i).cpu.pc ≢ layer_entry e) q (between e (omega (arith, lt, le, ge)) d)

      by_sectors : (j : ℕ) → j ≤ k + n → (j < k) ⊎ (k ≤ j) → SectorsStay y.map s (run x s j)
      by_sectors j lt (inl less) = a.sectors j (omega (arith, less))
      by_sectors j lt (inr le) = λ q from. ap (λ t. sector_of t.device.sectors q) (at j le) ∙ b.sectors (j - k) (omega (arith, lt, le)) q from ∙ a.sectors k (omega arith) q from

      by_frames : (j : ℕ) → j ≤ k + n → (j < k) ⊎ (k ≤ j) → FramesStay y.map s (run x s j)
      by_frames j lt (inl less) = a.frames j (omega (arith, less))
      by_frames j lt (inr le) =
          let first : FramesStay y.map s (run x s k) = a.frames k (omega arith) in
          let second : FramesStay y.map (run x s k) (run x s j) = subst (FramesStay y.map (run x s k)) (sym (at j le)) (b.frames (j - k) (omega (arith, lt, le))) in
          record { size = second.size ∙ first.size; words = λ i from less. second.words i from (subst (λ l. i < l) (sym first.size) less) ∙ first.words i from less }

      by_named : (j : ℕ) → j < k + n → (j < k) ⊎ (k ≤ j) → EndsNamed x y.map (run x s j)
      by_named j lt (inl less) = a.named j less
      by_named j lt (inr le) = subst (EndsNamed x y.map) (sym (at j le)) (b.named (j - k) (omega (arith, lt, le)))

module _ (simulates : MachineSimulates) (joins : RunsJoin) (x : Environment) (y : Site) (code : List Inst) (words : List ℕ) (sound : Sound (on_machine x (program y.map (layer_words + 1) code words))) where
  abbrev pub w : World
  w = world_of x y code words

  -- after k steps from s0 the machine has this configuration
  abbrev pub Reached : State → ℕ → CodeState → Type 0
  Reached s0 k c = HasCome x y code words s0 k c

  -- steps of code are a way
  -- what a memory holds of the code's is what another holds behind the map's last frame
  frames_kept : (s t : State) → MemoryHolds w s.memory → MemoryHolds w t.memory → FramesStay y.map s t
  frames_kept s t a b = record {
    size = b.size ∙ sym a.size;
    words = λ k le lt. let here : k < length words = subst (λ n. k < n) a.size lt in
        let kept = kept_past y.map code words k le here in
        b.kept k (slice_index words k) kept ∙ sym (a.kept k (slice_index words k) kept);
  }

  own_way : (s : State) (n : ℕ) (t : CodeState) → Quiet x s → MemoryHolds w s.memory → DiskServes x w s.device → Steps w n (configuration_of s) t → Way x y IsKernelDoor n s
  own_way s n t quiet holds serves steps =
      let sim = simulates x (program y.map (layer_words + 1) code words) s n t sound quiet holds serves steps in
      record {
        inside = λ j lt. inside_of x (run x s j) (sim.along j (omega (arith, lt))).quiet;
        between = λ j e pos lt d. let i = sim.instructs j lt in no_door (run x s j).cpu.pc e (code_is (layer_words + 1) code ((run x s j).cpu.pc / 4) i.inst i.code).0 d;
        sectors = λ j le q from. (sim.along j le).sectors q (omega arith);
        frames = λ j le. frames_kept s (run x s j) holds (sim.along j le).holds;
        named = λ j lt. instructs_named x y (layer_words + 1) code words (run x s j) (sim.instructs j lt);
      }

  first_pc : (s : State) (n : ℕ) (t : CodeState) → Quiet x s → MemoryHolds w s.memory → DiskServes x w s.device → Steps w n (configuration_of s) t → (e : Entry) → 0 < n → IsKernelDoor e → s.cpu.pc ≢ layer_entry e
  first_pc s n t quiet holds serves steps e pos d =
      let sim = simulates x (program y.map (layer_words + 1) code words) s n t sound quiet holds serves steps in
      let i = sim.instructs 0 pos in
      no_door s.cpu.pc e (code_is (layer_words + 1) code (s.cpu.pc / 4) i.inst i.code).0 d

  pub goes_on : (s0 : State) (k n : ℕ) (c t : CodeState) → Reached s0 k c → Steps w n c t → Reached s0 (k + n) t
  goes_on s0 k n c t r steps =
      let s : State = run x s0 k in
      let own : Steps w n (configuration_of (run x s0 k)) t = subst (λ a. Steps w n a t) (sym r.same) steps in
      let sim = simulates x (program y.map (layer_words + 1) code words) (run x s0 k) n t sound r.quiet r.holds r.serves own in
      let e = joins x s0 k n in
      let last = sim.along n (omega arith) in
      record {
        same = ap configuration_of e ∙ sim.same n (omega arith) ∙ own.1;
        quiet = subst (Quiet x) (sym e) last.quiet;
        holds = subst (λ a. MemoryHolds w a.memory) (sym e) last.holds;
        serves = subst (λ a. DiskServes x w a.device) (sym e) last.serves;
        way = ways_join joins x y IsKernelDoor s0 k n r.way (own_way (run x s0 k) n t r.quiet r.holds r.serves own) (first_pc (run x s0 k) n t r.quiet r.holds r.serves own);
      }

  -- another way, to a state that is seen to be quiet and to hold the code
  pub passes_on : (s0 : State) (k n : ℕ) (c : CodeState) → Reached s0 k c → Way x y IsKernelDoor n (run x s0 k) → ((e : Entry) → 0 < n → IsKernelDoor e → (run x s0 k).cpu.pc ≢ layer_entry e)
      → Quiet x (run x (run x s0 k) n) → MemoryHolds w (run x (run x s0 k) n).memory → DiskServes x w (run x (run x s0 k) n).device → Reached s0 (k + n) (configuration_of (run x (run x s0 k) n))
  passes_on s0 k n c r way between quiet holds serves =
      let e = joins x s0 k n in
      record {
        same = ap configuration_of e;
        quiet = subst (Quiet x) (sym e) quiet;
        holds = subst (λ a. MemoryHolds w a.memory) (sym e) holds;
        serves = subst (λ a. DiskServes x w a.device) (sym e) serves;
        way = ways_join joins x y IsKernelDoor s0 k n r.way way between;
      }
