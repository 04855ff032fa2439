-- The machine that `load` makes is the loaded machine.
use Rattle.std.proofs.Common.{◌≡◌, ℕ, ◌+◌, ◌*◌, ◌-◌, ◌≤◌, List, ◌++◌, map, take, drop, length, replicate, Option, None, Some, refl, sym, ap, ap₂, ◌∙◌, subst, arith, length-append, length-drop}
use Rattle.std.specs.Prelude.{IfSome}
use Rattle.std.specs.Option.{option_map}
use Rattle.std.proofs.lemmas.List.{drop-replicate, length-map, length-replicate}
use Rattle.cvm_outside.specs.Script.{sectors_after}
use Rattle.schedule_file.specs.Rows.{Rows}
use Rattle.layer_map.specs.Map.{memory_frames, memory_words}
use Rattle.mips_table.specs.Machine.{power_on}
use Rattle.mips_machine.specs.Machine.{Held, started}
use Rattle.cvm_model.specs.Cvm.{map_of}
use Rattle.layer_contract.specs.declared.boot.Boot.{Boot as Booted}
use Rattle.layer_contract.specs.Boots.{boot_of}
use Rattle.layer_contract.specs.Follows.{loaded, loaded_memory}
use Rattle.boot_turns.specs.Completes.{state_seen}
use Rattle.boot_run.specs.Loading.{system_of, holding_words}
use Rattle.boot_run.specs.LoadedPages.{user_pages}
use Rattle.boot_run.specs.LoadScript.{load_script}
use Rattle.boot_run.specs.Loaded.{boot_load}
use Rattle.boot_run.specs.LoadEnds.{pages_needed}
use Rattle.boot_run.proofs.LoadStores.{loaded_are}

module _ (b : Booted) (rows : Rows) where
  -- the users' words
  abbrev pub lists : List (List ℕ)
  lists = map (λ words. words.items) b.users.items

  -- as the definitions say it
  pub needed_is : length lists * b.params.pages ≡ pages_needed b
  needed_is = ap (λ n. n * b.params.pages) (length-map b.users.items (λ words. words.items))

  whole : 1024 * memory_frames (map_of (boot_of b)) ≡ memory_words (map_of (boot_of b))
  whole = omega arith

  memory_is : take 0 (replicate (1024 * memory_frames (map_of (boot_of b))) 0) ++ (b.words.items ++ drop (0 + length b.words.items) (replicate (1024 * memory_frames (map_of (boot_of b))) 0)) ≡ loaded_memory (boot_of b)
  memory_is =
      let none : 0 + length b.words.items ≡ length b.words.items = omega arith in
      ap (λ n. b.words.items ++ drop n (replicate (1024 * memory_frames (map_of (boot_of b))) 0)) none
      ∙ ap (λ l. b.words.items ++ l) (drop-replicate (length b.words.items) (1024 * memory_frames (map_of (boot_of b))) 0 ∙ ap (λ n. replicate (n - length b.words.items) 0) whole)

  sectors_are : 1 ≤ b.params.pages → (old : List (List ℕ)) → pages_needed b ≤ length old → sectors_after (boot_load b rows).script old ≡ (loaded (system_of b rows) old).device.sectors
  sectors_are some old le = subst (λ n. n ≤ length old → sectors_after (load_script (user_pages (system_of b rows)) n) old ≡ (loaded (system_of b rows) old).device.sectors) needed_is (loaded_are (system_of b rows) some old) le

  fresh : 1 ≤ b.params.pages → (told : Option (List (List ℕ))) (count : ℕ) → IfSome told (λ ss. length ss ≡ count) → pages_needed b ≤ count →
      state_seen (option_map (sectors_after (boot_load b rows).script) told) (holding_words (started (memory_frames (map_of (boot_of b))) rows) 0 b.words.items) ≡ option_map (loaded (system_of b rows)) told
  fresh some None count sized le = refl
  fresh some (Some old) count sized le = ap Some (ap₂ (λ memory sectors. power_on memory sectors rows.inputs) memory_is (sectors_are some old (omega (arith, sized, le))))

-- its memory has room for the map
pub loaded_long : (b : Booted) (rows : Rows) (held : Held) → held ≡ holding_words (started (memory_frames (map_of (boot_of b))) rows) 0 b.words.items → memory_words (map_of (boot_of b)) ≤ length held.hardware.memory
loaded_long b rows held e =
    let zeros : List ℕ = replicate (1024 * memory_frames (map_of (boot_of b))) 0 in
    let a = length-append b.words.items (drop (0 + length b.words.items) zeros) in
    let d = length-drop (0 + length b.words.items) zeros in
    let r = length-replicate {A = ℕ} (1024 * memory_frames (map_of (boot_of b))) 0 in
    let w = whole b rows in
    subst (λ (m : Held). memory_words (map_of (boot_of b)) ≤ length m.hardware.memory) (sym e) (omega (arith, a, d, r, w))

pub loaded_whole : (b : Booted) (rows : Rows) (held : Held) → held ≡ holding_words (started (memory_frames (map_of (boot_of b))) rows) 0 b.words.items → length held.hardware.memory ≡ memory_words (map_of (boot_of b))
loaded_whole b rows held e =
    let zeros : List ℕ = replicate (1024 * memory_frames (map_of (boot_of b))) 0 in
    let a = length-append b.words.items (drop (0 + length b.words.items) zeros) in
    let d = length-drop (0 + length b.words.items) zeros in
    let r = length-replicate {A = ℕ} (1024 * memory_frames (map_of (boot_of b))) 0 in
    let w = whole b rows in
    let fits : length b.words.items ≤ memory_words (map_of (boot_of b)) = omega arith in
    subst (λ (m : Held). length m.hardware.memory ≡ memory_words (map_of (boot_of b))) (sym e) (omega (arith, a, d, r, w, fits))

pub stands_loaded : (b : Booted) (rows : Rows) (held : Held) (told retold : Option (List (List ℕ))) (count : ℕ) → 1 ≤ b.params.pages →
    held ≡ holding_words (started (memory_frames (map_of (boot_of b))) rows) 0 b.words.items → retold ≡ option_map (sectors_after (boot_load b rows).script) told →
    IfSome told (λ ss. length ss ≡ count) → pages_needed b ≤ count → state_seen retold held ≡ option_map (loaded (system_of b rows)) told
stands_loaded b rows held told retold count some e h sized le = ap₂ (λ (r : Option (List (List ℕ))) (m : Held). state_seen r m) h e ∙ fresh b rows some told count sized le
