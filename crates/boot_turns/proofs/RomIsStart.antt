-- The machine with the ROM is a start: what the ROM leads to is a machine after its reset, for the sectors of the boot and the linked words.
-- It serves `the_rom_starts` alone.
use Rattle.std.proofs.Common.{◌≡◌, ◌≢◌, ℕ, zero, suc, ◌∷◌, ◌+◌, ◌-◌, ◌*◌, ◌<◌, ◌≤◌, not, ◌&&◌, nat_lt, List, [], length, map, slice_index, All, refl, sym, ap, ap₂, ◌∙◌, subst, ⊎_elim, arith, lt-ltb, le-ltb}
use Rattle.std.specs.List.{range_with_len}
use Rattle.std.proofs.lemmas.Bool.{cond_both, cond-true, cond-false, cases_lt}
use Rattle.std.proofs.lemmas.List.{get_or_past}
use Rattle.std.proofs.lemmas.Nat.{mul-le}
use Rattle.std.proofs.Math.ListN.{get_or-eq_default}
use Rattle.std.proofs.lemmas.List.FromFn.{get_or-map-range_with_len, length-map-range_with_len}
use Rattle.std.proofs.lemmas.List.Elements.{All-head, All-tail, All-from_get_or}
use Rattle.mips_table.specs.Device.{Environment, sector_of}
use Rattle.mips_table.specs.declared.special.TheConstants.{MODE, SR}
use Rattle.mips_table.specs.Machine.{State, step, run}
use Rattle.mips_table.specs.Fits.{IsWord, IsPage}
use Rattle.mips_table.specs.Simulation.{Quiet}
use Rattle.layer_map.specs.Map.{Map, MapInRange, MemoryIsWhole, layer_words, code_at, memory_words, memory_frames}
use Rattle.cvm_model.specs.Cvm.{System, map_of, first_core}
use Rattle.cvm_model.specs.Stands.{input_room}
use Rattle.layer_contract.specs.declared.entry.Entry.{Entry}
use Rattle.layer_contract.specs.declared.entry.Entry.TheVariants.{Dispatch, Primitive, Fault, Leave}
use Rattle.layer_contract.specs.Layer.{IsEntry, layer_entry, Inside, AfterReset, command_due}
use Rattle.layer_contract.specs.Follows.{site_of, loaded as loaded_state, loaded_sector, SystemFits, LoadedResets}
use Rattle.layer_contract.specs.Starts.{Beyond, LoadedKeeps}
use Rattle.boot_rom.specs.Laws.{RomLoad}
use Rattle.boot_rom.specs.Boots.{MayBoot, BootsFromRom, RomBoots}
use Rattle.boot_turns.specs.Rom.{load_of, rom_sectors, filled_page, rom_sector, rom_loaded, own_rom}
use Rattle.boot_turns.specs.RomStarts.{RomFits, RomStartsBy, RomStarts}

-- the code lies in memory
code_inside : (m : Map) → MapInRange m → code_at m + m.code_words + 3072 ≤ memory_words m
code_inside m r = grind (arith, r, r.params)

-- no entry is at address 0
none_at_zero : (e : Entry) (pc : ℕ) → pc ≡ 0 → pc ≢ layer_entry e
none_at_zero Dispatch pc z h = absurd (omega arith)
none_at_zero (Primitive k) pc z h = absurd (omega arith)
none_at_zero (Fault f) pc z h = absurd (omega arith)
none_at_zero Leave pc z h = absurd (omega arith)

-- no entry lies behind the map
none_behind : (e : Entry) (frames pc : ℕ) → IsEntry e → 17 ≤ frames → 4096 * frames ≤ pc → pc ≢ layer_entry e
none_behind Dispatch frames pc is many le h = absurd (omega arith)
none_behind (Primitive k) frames pc is many le h = absurd (omega arith)
none_behind (Fault f) frames pc is many le h = let top = is.1 in absurd (omega arith)
none_behind Leave frames pc is many le h = absurd (omega arith)

inside_of : (x : Environment) (s : State) → Quiet x s → Inside s
inside_of x s q = record { on = q.on; mode = q.mode; sr = q.sr; no_reset = q.no_reset }

index_word : (ws : List ℕ) (j : ℕ) → All IsWord ws → IsWord (slice_index ws j)
index_word [] j h = omega arith
index_word (w ∷ ws) zero h = All-head IsWord w ws h
index_word (w ∷ ws) (suc j) h = index_word ws j (All-tail IsWord w ws h)

module _ (resets : LoadedResets) (keeps : LoadedKeeps) (whole : (m : Map) → MapInRange m → MemoryIsWhole m) (x : Environment) (y : System) (old : List (List ℕ)) (r : RomFits x y old) where
  f : SystemFits x y old
  f = r.system

  abbrev m : Map
  m = map_of y.boot

  abbrev l : RomLoad
  l = load_of y

  abbrev words : List ℕ
  words = y.boot.words

  abbrev first_state : State
  first_state = run x (loaded_state y old) 1

  loaded : AfterReset x (site_of y.boot) (first_core y) first_state
  loaded = resets x y old f

  -- the sectors of the boot
  boot_sector : (q : ℕ) → q < length old → sector_of first_state.device.sectors q ≡ loaded_sector y old q
  unfolding step
  boot_sector q lt = get_or-map-range_with_len (loaded_sector y old) 0 (length old) q q [] lt (omega arith)

  boot_page : (q : ℕ) → q < length old → IsPage (loaded_sector y old q)
  boot_page q lt = let n : length first_state.device.sectors ≡ x.count = loaded.fits.device.sectors in let count = f.count in
      subst IsPage (boot_sector q lt) (loaded.fits.device.pages q [] (omega arith))

  -- those of the ROM's disk
  abbrev sectors : List (List ℕ)
  sectors = map (rom_sector y old) (range_with_len 0 (length old))

  sector : (q : ℕ) → q < length old → sector_of sectors q ≡ rom_sector y old q
  sector q lt = get_or-map-range_with_len (rom_sector y old) 0 (length old) q q [] lt (omega arith)

  below : (q : ℕ) → q < l.first → rom_sector y old q ≡ loaded_sector y old q
  below q lt = cond-false (not (nat_lt q l.first) && nat_lt q (l.first + l.count)) (filled_page words (q - l.first)) (loaded_sector y old q) (ap (λ b. not b && nat_lt q (l.first + l.count)) (lt-ltb q l.first lt))

  above : (q : ℕ) → rom_sectors y ≤ q → rom_sector y old q ≡ loaded_sector y old q
  above q le = cond-false (not (nat_lt q l.first) && nat_lt q (l.first + l.count)) (filled_page words (q - l.first)) (loaded_sector y old q) (ap₂ (λ a b. not a && b) (le-ltb q l.first (omega arith)) (le-ltb q (l.first + l.count) le))

  among : (k : ℕ) → k < l.count → rom_sector y old (l.first + k) ≡ filled_page words k
  among k lt =
      let e : l.first + k - l.first ≡ k = omega arith in
      cond-true (not (nat_lt (l.first + k) l.first) && nat_lt (l.first + k) (l.first + l.count)) (filled_page words (l.first + k - l.first)) (loaded_sector y old (l.first + k))
      (ap₂ (λ a b. not a && b) (le-ltb (l.first + k) l.first (omega arith)) (lt-ltb (l.first + k) (l.first + l.count) (omega arith))) ∙ ap (filled_page words) e

  page : (q : ℕ) → q < length old → IsPage (rom_sector y old q)
  page q lt = cond_both (not (nat_lt q l.first) && nat_lt q (l.first + l.count)) (filled_page words (q - l.first)) (loaded_sector y old q) IsPage
      (λ _. record {
        size = length-map-range_with_len (λ i. slice_index words (1024 * (q - l.first) + i)) 0 1024;
        each = All-from_get_or IsWord (filled_page words (q - l.first)) 0
            (λ i less. let n = length-map-range_with_len (λ i. slice_index words (1024 * (q - l.first) + i)) 0 1024 in
            subst IsWord (sym (get_or-map-range_with_len (λ i. slice_index words (1024 * (q - l.first) + i)) 0 1024 i i 0 (omega arith) (omega arith))) (index_word words (1024 * (q - l.first) + i) f.words));
      })
      (λ _. boot_page q lt)

  -- past the run's they are the disk's
  past : Beyond (rom_sectors y) old sectors
  past q le = ⊎_elim
      (λ (lt : q < length old). sector q lt ∙ above q le ∙ sym (get_or-map-range_with_len (loaded_sector y old) 0 (length old) q q [] lt (omega arith)) ∙ keeps x y old f q (omega arith))
      (λ (ge : length old ≤ q). let n = length-map-range_with_len (rom_sector y old) 0 (length old) in get_or_past sectors q [] (omega arith) ∙ sym (get_or_past old q [] ge))
      (cases_lt q (length old))

  abbrev frames : ℕ
  frames = memory_frames m

  frames_are : frames * 1024 ≡ memory_words m
  frames_are = (whole m f.range).frames

  end : layer_words + m.code_words + 3072 ≤ memory_words m
  end = code_inside m f.range

  may : MayBoot x l frames words sectors y.input
  may =
      let long = f.long in
      let few = f.range.code_words in
      let top = (whole m f.range).most in
      let count = f.count in
      let n = length-map-range_with_len (rom_sector y old) 0 (length old) in
      let e = end in
      let fr = frames_are in
      record {
        lines = f.lines;
        busy = r.busy;
        first = mul-le (length y.boot.users) y.boot.params.pages 64 1024 f.range.users f.range.params.pages;
        some = omega arith;
        few = omega arith;
        long = omega arith;
        room = omega arith;
        most = omega arith;
        count = n ∙ f.count;
        enough = r.enough;
        pages = All-from_get_or IsPage sectors [] (λ q lt. let inside : q < length old = omega arith in subst IsPage (sym (sector q inside)) (page q inside));
        holds = λ k i lt less. let enough = r.enough in
            ap (λ ws. slice_index ws i) (sector (l.first + k) (omega arith) ∙ among k lt) ∙ get_or-map-range_with_len (λ i. slice_index words (1024 * k + i)) 0 1024 i i 0 less (omega arith);
        few_inputs = let few : length y.input ≤ input_room = f.core.input in omega arith;
        inputs = f.input;
      }

  module _ (boots : BootsFromRom x l frames words (rom_loaded y (own_rom y) old)) where
    there : AfterReset x (site_of y.boot) (first_core y) (run x (rom_loaded y (own_rom y) old) boots.steps)
    there =
        let t = boots.there in
        let long = f.long in
        let top = (whole m f.range).most in
        let e = end in
        let fr = frames_are in
        let size : length (run x (rom_loaded y (own_rom y) old) boots.steps).memory ≡ 1024 * frames + 1024 = t.size in
        record {
          fits = t.fits;
          inside = record { on = t.on; mode = ap (λ z. slice_index z MODE) t.special; sr = ap (λ z. slice_index z SR) t.special; no_reset = t.no_reset };
          cpu = t.cpu;
          special = t.special;
          memory = omega arith;
          small = omega arith;
          linked = λ k lt. t.memory k (omega arith);
          zeros = λ k from to. t.memory k (omega arith) ∙ get_or-eq_default words 0 from;
          pages = λ q i lt live less.
              let enough = f.enough in let count = f.count in
              t.sectors q i ∙ ap (λ ws. slice_index ws i) (sector q (omega arith) ∙ below q lt ∙ sym (boot_sector q (omega arith))) ∙ loaded.pages q i lt live less;
          sectors = f.enough;
          idle = t.idle;
          log = t.log;
          input = t.input;
        }

    starts : RomStartsBy x y old
    unfolding command_due
    starts = record {
      late = boots.steps;
      within = boots.within;
      start = record {
        on = refl;
        reset = refl;
        mode = refl;
        time = refl;
        mask = refl;
        some = boots.some;
        inside = λ j from to. inside_of x (run x (rom_loaded y (own_rom y) old) j) (boots.quiet j from to);
        apart = λ j e lt is. let long = f.long in let en = end in let fr = frames_are in ⊎_elim
            (λ z. none_at_zero e (run x (rom_loaded y (own_rom y) old) j).cpu.pc z)
            (λ le. none_behind e frames (run x (rom_loaded y (own_rom y) old) j).cpu.pc is (omega arith) le)
            (boots.place j lt);
        named = boots.named;
        sectors = λ j le q from. boots.sectors j q le from;
        users = omega arith;
        there = there;
      };
      beyond = past;
    }

pub rom_starts : LoadedResets → LoadedKeeps → RomBoots → ((m : Map) → MapInRange m → MemoryIsWhole m) → RomStarts
rom_starts resets keeps boots whole x y old r = starts resets keeps whole x y old r (boots x (load_of y) (memory_frames (map_of y.boot)) y.boot.words (sectors resets keeps whole x y old r) y.input (may resets keeps whole x y old r))
