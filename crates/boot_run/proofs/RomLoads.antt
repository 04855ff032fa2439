-- The machine that `load_rom` makes is the machine with the ROM, over the disk that it writes.
use Rattle.std.proofs.Common.{◌≡◌, ℕ, suc, ◌+◌, ◌*◌, ◌/◌, ◌-◌, ◌≤◌, List, ◌∷◌, ◌++◌, take, drop, length, replicate, Option, None, Some, refl, ap, ap₂, ◌∙◌, subst, arith, length-append}
use Rattle.std.specs.Prelude.{IfSome}
use Rattle.std.specs.Option.{option_map}
use Rattle.std.proofs.lemmas.List.{drop-replicate, take-replicate, length-replicate}
use Rattle.cvm_outside.specs.Script.{sectors_after}
use Rattle.schedule_file.specs.Rows.{Rows}
use Rattle.layer_map.specs.Map.{memory_frames, memory_words}
use Rattle.mips_table.specs.Encoding.{encoding}
use Rattle.mips_table.specs.declared.inst.Inst.TheVariants.{J}
use Rattle.mips_table.specs.Machine.{power_on}
use Rattle.mips_machine.specs.Machine.{Held}
use Rattle.cvm_model.specs.Cvm.{map_of}
use Rattle.layer_contract.specs.declared.boot.Boot.{Boot as Booted}
use Rattle.layer_contract.specs.Boots.{boot_of}
use Rattle.boot_rom.specs.Boots.{rom_memory}
use Rattle.boot_turns.specs.Completes.{state_seen}
use Rattle.boot_turns.specs.Rom.{rom_loaded, rom_sectors}
use Rattle.boot_run.specs.Loading.{system_of, with_rom}
use Rattle.boot_run.specs.LoadedPages.{rom_pages}
use Rattle.boot_run.specs.LoadScript.{load_script}
use Rattle.boot_run.specs.Loaded.{rom_load}
use Rattle.boot_run.specs.LoadEnds.{rom_needed}
use Rattle.boot_run.proofs.LoadStores.{rom_are}
use Rattle.boot_run.proofs.MadeIsLoaded.{needed_is}

-- a jump, zeros up to the ROM's frame, and the ROM
placed : (j k n m : ℕ) (rom : List ℕ) → m ≡ suc k → n ≡ k + 1024 → length rom ≤ 1024 →
    take {A = ℕ} m (j ∷ replicate n 0) ++ (rom ++ drop {A = ℕ} (m + length rom) (j ∷ replicate n 0)) ≡ (j ∷ replicate k 0) ++ (rom ++ replicate (1024 - length rom) 0)
placed j k n m rom e f le =
    let few : k ≤ n = omega (arith, f) in
    let a : take {A = ℕ} m (j ∷ replicate n 0) ≡ j ∷ replicate k 0 = ap (λ i. take {A = ℕ} i (j ∷ replicate n 0)) e ∙ ap (λ l. j ∷ l) (front k n few) in
    let s : m + length rom ≡ suc (k + length rom) = omega (arith, e) in
    let left : n - (k + length rom) ≡ 1024 - length rom = omega (arith, f, le) in
    let b : drop {A = ℕ} (m + length rom) (j ∷ replicate n 0) ≡ replicate (1024 - length rom) 0 =
    ap (λ i. drop {A = ℕ} i (j ∷ replicate n 0)) s ∙ drop-replicate (k + length rom) n 0 ∙ ap (λ i. replicate {A = ℕ} i 0) left in
    ap₂ (λ u v. u ++ (rom ++ v)) a b
  where
    front : (k n : ℕ) → k ≤ n → take {A = ℕ} k (replicate n 0) ≡ replicate k 0
    front k n few = take-replicate k n 0 few

memory_is : (frames : ℕ) (rom : List ℕ) (rows : Rows) → 1 ≤ frames → length rom ≤ 1024 → (with_rom frames rom rows).hardware.memory ≡ rom_memory rom frames
memory_is frames rom rows some few =
    let j : ℕ = encoding (J (1024 * frames)) in
    let n : ℕ = 1024 * (frames + 1) - 1 in
    let first : j ∷ drop {A = ℕ} 1 (replicate (1024 * (frames + 1)) 0) ≡ j ∷ replicate (1024 * (frames + 1) - 1) 0 = ap (λ l. j ∷ l) (drop-replicate 1 (1024 * (frames + 1)) 0) in
    ap (λ l. take (1024 * frames) l ++ (rom ++ drop (1024 * frames + length rom) l)) first
    ∙ placed j (1024 * frames - 1) (1024 * (frames + 1) - 1) (1024 * frames) rom (omega (arith, some)) (omega (arith, some)) few

module _ (b : Booted) (rows : Rows) where
  -- as `load_rom` counts them
  pub rom_needed_is : rom_sectors (system_of b rows) ≡ rom_needed b
  rom_needed_is = ap (λ n. n + (length b.words.items + 1023) / 1024) (needed_is b rows)

  sectors_are : 1 ≤ b.params.pages → (rom : List ℕ) (old : List (List ℕ)) → rom_needed b ≤ length old → sectors_after (rom_load b rows rom).script old ≡ (rom_loaded (system_of b rows) rom old).device.sectors
  sectors_are some rom old le = subst (λ n. n ≤ length old → sectors_after (load_script (rom_pages (system_of b rows)) n) old ≡ (rom_loaded (system_of b rows) rom old).device.sectors) rom_needed_is (rom_are (system_of b rows) some rom old) le

  abbrev frames : ℕ
  frames = memory_frames (map_of (boot_of b))

  pub stands_from_rom : (rom : List ℕ) → length rom ≤ 1024 → 1 ≤ frames → (held : Held) (told retold : Option (List (List ℕ))) (count : ℕ) → 1 ≤ b.params.pages → held ≡ with_rom frames rom rows →
      retold ≡ option_map (sectors_after (rom_load b rows rom).script) told → IfSome told (λ ss. length ss ≡ count) → rom_needed b ≤ count → state_seen retold held ≡ option_map (rom_loaded (system_of b rows) rom) told
  stands_from_rom rom few some held told retold count pages e h sized le = ap₂ (λ (r : Option (List (List ℕ))) (m : Held). state_seen r m) h e ∙ by told sized
    where
      by : (o : Option (List (List ℕ))) → IfSome o (λ ss. length ss ≡ count) → state_seen (option_map (sectors_after (rom_load b rows rom).script) o) (with_rom frames rom rows) ≡ option_map (rom_loaded (system_of b rows) rom) o
      by None sized = refl
      by (Some old) sized = ap Some (ap₂ (λ memory sectors. power_on memory sectors rows.inputs) (memory_is frames rom rows some few) (sectors_are pages rom old (omega (arith, sized, le))))

  -- its memory is the map's, and the ROM's frame
  pub rom_whole : (rom : List ℕ) → length rom ≤ 1024 → 1 ≤ frames → (held : Held) → held ≡ with_rom frames rom rows → length held.hardware.memory ≡ memory_words (map_of (boot_of b)) + 1024
  rom_whole rom few some held e =
      let l = ap length (memory_is frames rom rows some few) in
      let h = ap (λ (m : Held). length m.hardware.memory) e in
      let j : ℕ = encoding (J (1024 * frames)) in
      let a = length-append (j ∷ replicate (1024 * frames - 1) 0) (rom ++ replicate (1024 - length rom) 0) in
      let r = length-replicate {A = ℕ} (1024 * frames - 1) 0 in
      let d = length-append rom (replicate (1024 - length rom) 0) in
      let z = length-replicate {A = ℕ} (1024 - length rom) 0 in
      let whole : 1024 * memory_frames (map_of (boot_of b)) ≡ memory_words (map_of (boot_of b)) = omega arith in
      omega (arith, l, h, a, r, d, z, whole, some, few)
