-- The loaded machine after its first step, which takes the reset.
use Rattle.std.proofs.Common.{◌≡◌, ℕ, zero, suc, ◌+◌, ◌-◌, ◌*◌, ◌<◌, ◌≤◌, Bool, true, cond, List, [], ◌∷◌, length, map, replicate, slice_index, slice_index_or, All, refl, sym, ap, ◌∙◌, subst, arith}
use Rattle.std.specs.List.{range_with_len}
use Rattle.std.proofs.lemmas.Bool.{cond_both}
use Rattle.std.proofs.lemmas.Nat.{or_of_8}
use Rattle.std.proofs.lemmas.List.{get_or_append_left, get_or-append_right, get_or-replicate, length-append, length-replicate}
use Rattle.std.proofs.lemmas.List.FromFn.{get_or-map-range_with_len, length-map-range_with_len}
use Rattle.std.proofs.lemmas.List.Elements.{All-nil, All-head, All-tail, All-append, All-replicate, All-from_get_or}
use Rattle.mips_table.specs.Device.{Environment, sector_of}
use Rattle.mips_table.specs.Fits.{IsWord, IsPage}
use Rattle.mips_table.specs.Flat.{Flat}
use Rattle.mips_table.specs.Machine.{step, run}
use Rattle.mips_table.specs.Fits.{Fits}
use Rattle.layer_map.specs.Map.{Map, layer_words, code_at, globals_at, heap_at, stack_at, tables_at, frame_table_at, zero_frame_at, memory_words}
use Rattle.layer_contract.proofs.MapPartsBounded.{PartsApart}
use Rattle.cvm_model.specs.Primitives.{no_flat}
use Rattle.cvm_model.specs.Cvm.{System, map_of, first_core}
use Rattle.cvm_model.specs.Paged.{pages_by}
use Rattle.cvm_model.specs.Stands.{UserFits, input_room}
use Rattle.layer_contract.specs.Follows.{loaded_memory, loaded_sector, loaded, SystemFits, LoadedResets}
use Rattle.layer_contract.proofs.MapPartsBounded.{apart_of}

-- a word of a list of words, or 0
pub index_word : (ws : List ℕ) (j : ℕ) → All IsWord ws → IsWord (slice_index ws j)
index_word [] j h = omega arith
index_word (w ∷ ws) zero h = All-head IsWord w ws h
index_word (w ∷ ws) (suc j) h = index_word ws j (All-tail IsWord w ws h)

-- the words of a user, or of none
user_words : (most : ℕ) (users : List Flat) (k : ℕ) → All (UserFits most) users → All IsWord (slice_index_or users k no_flat).words
user_words most [] k h = All-nil IsWord
user_words most (f ∷ rest) zero h = (All-head (UserFits most) f rest h).words
user_words most (f ∷ rest) (suc k) h = user_words most rest k (All-tail (UserFits most) f rest h)

-- each sector of the loaded disk is a page
sector_page : (x : Environment) (y : System) (old : List (List ℕ)) → SystemFits x y old → (q : ℕ) → q < length old → IsPage (loaded_sector y old q)
sector_page x y old f q lt =
    cond_both ((pages_by y.boot.params.pages (first_core y).users).live q) (map ((pages_by y.boot.params.pages (first_core y).users).word q) (range_with_len 0 1024)) (sector_of old q) IsPage
    (λ _. record {
      size = length-map-range_with_len ((pages_by y.boot.params.pages (first_core y).users).word q) 0 1024;
      each = All-from_get_or IsWord (map ((pages_by y.boot.params.pages (first_core y).users).word q) (range_with_len 0 1024)) 0
          (λ i lt. subst IsWord (sym (get_or-map-range_with_len ((pages_by y.boot.params.pages (first_core y).users).word q) 0 1024 i i 0 (in_page q i lt) (omega arith)))
          (index_word _ _ (user_words y.boot.params.pages (first_core y).users _ f.core.each)));
    })
    (λ _. f.pages q [] lt)
  where
    in_page : (q i : ℕ) → i < length (map ((pages_by y.boot.params.pages (first_core y).users).word q) (range_with_len 0 1024)) → i < 1024
    in_page q i lt = let n = length-map-range_with_len ((pages_by y.boot.params.pages (first_core y).users).word q) 0 1024 in omega arith

-- the sectors of the loaded disk
loaded_sectors : System → List (List ℕ) → List (List ℕ)
loaded_sectors y old = map (loaded_sector y old) (range_with_len 0 (length old))

pub loaded_resets : LoadedResets
unfolding step
loaded_resets x y old f =
    let b = y.boot in
    let m : Map = map_of b in
    let apart : PartsApart m = apart_of m f.range in
    let code : code_at m + m.code_words ≤ globals_at m = apart.code in
    let globals : globals_at m + m.global_words ≤ heap_at m = apart.globals in
    let heap : heap_at m + m.params.heap ≤ stack_at m = apart.heap in
    let stack : stack_at m + m.params.stack ≤ tables_at m = apart.stack in
    let tables : tables_at m + m.users * m.params.pages ≤ frame_table_at m = apart.tables in
    let table : frame_table_at m + 8 * (m.params.frames + 1) ≤ zero_frame_at m = apart.frame_table in
    let long : layer_words ≤ length b.words = f.long in
    let zeros : List ℕ = replicate (memory_words m - length b.words) 0 in
    let size : length (loaded_memory b) ≡ memory_words m = length-append b.words zeros ∙ omega (arith, length-replicate {A = ℕ} (memory_words m - length b.words) 0) in
    let none : All IsWord (replicate 32 0) = All-replicate IsWord 32 0 (omega arith) in
    let nine : All IsWord (replicate 9 0) = All-replicate IsWord 9 0 (omega arith) in
    let blank : All IsWord (replicate 1024 0) = All-replicate IsWord 1024 0 (omega arith) in
    let fits : Fits x (run x (loaded y old) 1) = record {
      cpu = record { pc = omega arith; regs = record { size = refl; each = none; none = refl }; hi = omega arith; lo = omega arith };
      special = record { size = refl; each = nine };
      memory = All-append IsWord b.words zeros f.words (All-replicate IsWord (memory_words m - length b.words) 0 (omega arith));
      device = record {
        buffer = record { size = length-replicate {A = ℕ} 1024 0; each = blank };
        sector = omega arith;
        pending = tt;
        sectors = length-map-range_with_len (loaded_sector y old) 0 (length old) ∙ f.count;
        pages = All-from_get_or IsPage (map (loaded_sector y old) (range_with_len 0 (length old))) []
            (λ q lt. let n = length-map-range_with_len (loaded_sector y old) 0 (length old) in
            let inside : q < length old = omega arith in
            subst IsPage (sym (get_or-map-range_with_len (loaded_sector y old) 0 (length old) q q [] inside (omega arith))) (sector_page x y old f q inside));
      };
      console = record { room = omega arith; logged = All-nil IsWord; few = let few : length y.input ≤ input_room = f.core.input in omega arith; left = f.input };
      lines = f.lines;
      mask = or_of_8 0 (x.lines 0) (omega arith) (f.lines 0);
      off = tt;
    } in
    record {
      fits = fits;
      inside = record { on = refl; mode = refl; sr = refl; no_reset = refl };
      cpu = refl;
      special = refl;
      memory = omega arith;
      small = let memory : memory_words m ≤ 65000 * 1024 = apart.memory in omega arith;
      linked = λ k lt. get_or_append_left b.words zeros 0 k lt;
      zeros = λ k from to. get_or-append_right b.words zeros (length b.words) k 0 refl from
          ∙ get_or-replicate (memory_words m - length b.words) (k - length b.words) 0 0 (omega arith);
      pages = λ q i lt live in_page.
          let enough : m.users * m.params.pages ≤ x.count = f.enough in
          let count : length old ≡ x.count = f.count in
          let sector : sector_of (map (loaded_sector y old) (range_with_len 0 (length old))) q ≡ loaded_sector y old q =
          get_or-map-range_with_len (loaded_sector y old) 0 (length old) q q [] (omega arith) (omega arith) in
          let own : loaded_sector y old q ≡ map ((pages_by b.params.pages (first_core y).users).word q) (range_with_len 0 1024) =
          cond_is ((pages_by b.params.pages (first_core y).users).live q) live (map ((pages_by b.params.pages (first_core y).users).word q) (range_with_len 0 1024)) (sector_of old q) in
          ap (λ ws. slice_index ws i) (sector ∙ own) ∙ get_or-map-range_with_len ((pages_by b.params.pages (first_core y).users).word q) 0 1024 i i 0 in_page (omega arith);
      sectors = f.enough;
      idle = refl;
      log = refl;
      input = refl;
    }
  where
    cond_is : (b : Bool) → b ≡ true → (p q : List ℕ) → cond b p q ≡ p
    cond_is b e p q = rw e refl
