-- The system of two users whose pages stand in all places, over a layer without code.
use Rattle.std.proofs.Common.{◌≡◌, ℕ, zero, suc, ◌+◌, ◌-◌, ◌/◌, ◌%◌, ◌<◌, ◌≤◌, ◌&&◌, cond, nat_eq, List, [], ◌∷◌, length, take, map, replicate, slice_index, All, refl, sym, ap, ◌∙◌, subst, ⊎_elim, arith, eq-eqb, ne_eqb}
use Rattle.std.specs.Prelude.{nat_le, nat_lt}
use Rattle.std.specs.List.{range_with_len}
use Rattle.std.proofs.lemmas.Bool.{cases_eq, cond_both, cond-true, cond-false}
use Rattle.std.proofs.lemmas.List.{get_or_append_left, get_or-append_right, length-append, length-replicate}
use Rattle.std.proofs.Math.Seq.{take-append_seam}
use Rattle.std.proofs.lemmas.List.FromFn.{get_or-map-range_with_len, length-map-range_with_len}
use Rattle.std.proofs.lemmas.List.Elements.{All-nil, All-cons, All-append, All-replicate, All-from_get_or}
use Rattle.mips_table.specs.Device.{Environment, HasEightLines}
use Rattle.mips_table.specs.Fits.{IsWord, IsPage}
use Rattle.mips_table.specs.Machine.{State, zero_cpu, run}
use Rattle.layer_map.specs.Map.{Map, MapInRange, layer_words, next_page}
use Rattle.cvm_model.specs.Primitives.{pages_of}
use Rattle.cvm_model.specs.Cvm.{Running, map_of, first_flat, first_core}
use Rattle.cvm_model.specs.Kernel.{Core}
use Rattle.cvm_model.specs.Stands.{Site, UserFits, CoreFits, RunningRelation}
use Rattle.layer_contract.specs.Layer.{Linked, Starts, AfterReset}
use Rattle.layer_contract.specs.Follows.{site_of, loaded, SystemFits}
use Rattle.layer_contract.specs.Samples.{plain_word, plain_layer, spread_word, spread_map, spread_system, ASpreadStateStands}
use Rattle.layer_contract.proofs.ResetStandsForStart.{reset_stands}
use Rattle.layer_contract.proofs.LoadedTakesReset.{index_word, loaded_resets}
use Rattle.layer_contract.proofs.RelationExists.{plain_length, plain_at, plain_linked, no_cpu_fits, blank, blank_page}
use Rattle.layer_contract.proofs.SpreadPagesStand.{pages_spread, are_spread}
use Rattle.layer_contract.proofs.SpreadStateStands.{spread_memory, low, at, spread_stands}

-- the words of a user, filled up to whole pages
padded : (ws : List ℕ) → length (first_flat ws).words ≡ next_page (length ws)
padded ws = length-append ws (replicate (next_page (length ws) - length ws) 0) ∙ omega (arith, length-replicate {A = ℕ} (next_page (length ws) - length ws) 0)

padded_word : (ws : List ℕ) (k : ℕ) → k < length ws → slice_index (first_flat ws).words k ≡ slice_index ws k
padded_word ws k lt = get_or_append_left ws (replicate (next_page (length ws) - length ws) 0) 0 k lt

padded_fits : (ws : List ℕ) → All IsWord ws → next_page (length ws) ≤ 4096 → UserFits 4 (first_flat ws)
padded_fits ws all few =
    let size : length (first_flat ws).words ≡ next_page (length ws) = padded ws in
    record { cpu = no_cpu_fits; pages = omega arith; whole = omega arith; words = All-append IsWord ws (replicate (next_page (length ws) - length ws) 0) all (All-replicate IsWord _ 0 (omega arith)) }

abbrev ws : List ℕ
ws = map spread_word (range_with_len 0 3073)

abbrev vs : List ℕ
vs = 12 ∷ []

ws_length : length ws ≡ 3073
ws_length = length-map-range_with_len spread_word 0 3073

ws_word : (k : ℕ) → k < 3073 → slice_index ws k ≡ spread_word k
ws_word k lt = get_or-map-range_with_len spread_word 0 3073 k k 0 lt (omega arith)

small_spread : (k : ℕ) → IsWord (spread_word k)
small_spread k = cond_both (nat_eq k 0) _ _ IsWord (λ _. omega arith) (λ _. cond_both (nat_eq k 1024) _ _ IsWord (λ _. omega arith) (λ _. cond_both (nat_eq k 3072) _ _ IsWord (λ _. omega arith) (λ _. omega arith)))

ws_words : All IsWord ws
ws_words = All-from_get_or IsWord ws 0 (λ k lt. let n : length ws ≡ 3073 = ws_length in subst IsWord (sym (ws_word k (omega arith))) (small_spread k))

vs_words : All IsWord vs
vs_words = All-cons IsWord 12 [] (omega arith) (All-nil IsWord)

-- the layer's words
abbrev sizes : List ℕ
sizes = 4 ∷ 1 ∷ []

abbrev layer : List ℕ
layer = plain_layer spread_map sizes

sizes_words : All IsWord sizes
sizes_words = All-cons IsWord 4 (1 ∷ []) (omega arith) (All-cons IsWord 1 [] (omega arith) (All-nil IsWord))

small_word : (k : ℕ) → IsWord (plain_word spread_map sizes k)
small_word k =
    cond_both (nat_eq k 1027) _ _ IsWord (λ _. omega arith) (λ _.
    cond_both (nat_eq k 1028) _ _ IsWord (λ _. omega arith) (λ _.
    cond_both (nat_eq k 1029) _ _ IsWord (λ _. omega arith) (λ _.
    cond_both (nat_eq k 1030) _ _ IsWord (λ _. omega arith) (λ _.
    cond_both (nat_le 12288 k && nat_eq (k % 64) 32) _ _ IsWord (λ _. index_word sizes ((k - 12288) / 64) sizes_words) (λ _. omega arith)))))

are_layer_words : All IsWord layer
are_layer_words = All-from_get_or IsWord layer 0 (λ k lt. let n = plain_length spread_map sizes in subst IsWord (sym (plain_at spread_map sizes k (omega arith))) (small_word k))

words_length : length spread_system.boot.words ≡ 16484
words_length = length-append layer (replicate 100 0) ∙ ap (λ n. n + 100) (plain_length spread_map sizes)

same_map : map_of spread_system.boot ≡ spread_map
same_map = ap (λ n. record spread_map { code_words = n }) (ap (λ n. n - layer_words) words_length)

in_range : MapInRange spread_map
in_range = record {
  params = record { a_page = omega arith; pages = omega arith; two_frames = omega arith; frames = omega arith; heap = omega arith; least_stack = omega arith; stack = omega arith };
  users = omega arith;
  code_words = omega arith;
  global_words = omega arith;
}

core_fits : CoreFits spread_map (first_core spread_system)
core_fits = record {
  users = refl;
  each = All-cons (UserFits 4) (first_flat ws) (first_flat vs ∷ []) (padded_fits ws ws_words (let n : length ws ≡ 3073 = ws_length in omega arith))
      (All-cons (UserFits 4) (first_flat vs) [] (padded_fits vs vs_words (omega arith)) (All-nil (UserFits 4)));
  globals = refl;
  heap = omega arith;
  used = refl;
  frames = refl;
  current = omega arith;
  log = omega arith;
  input = omega arith;
}

starts : Starts (first_core spread_system)
starts = record {
  globals = λ address. All-cons (λ w. w ≡ 0) 0 [] refl (All-nil (λ w. w ≡ 0));
  heap = refl;
  users = All-cons (λ f. f.cpu ≡ zero_cpu) (first_flat ws) (first_flat vs ∷ []) refl (All-cons (λ f. f.cpu ≡ zero_cpu) (first_flat vs) [] refl (All-nil (λ f. f.cpu ≡ zero_cpu)));
  current = refl;
  log = refl;
}

-- their sizes
one_pages : pages_of (first_flat ws) ≡ 4
one_pages = let n : length (first_flat ws).words ≡ next_page (length ws) = padded ws in let m : length ws ≡ 3073 = ws_length in omega arith

are_sizes : sizes ≡ map pages_of (first_core spread_system).users
are_sizes = ap (λ n. n ∷ 1 ∷ []) (sym one_pages)

system_fits : (x : Environment) → HasEightLines x → 8 ≤ x.count → SystemFits x spread_system (blank x)
system_fits x eight enough = record {
  lines = eight;
  range = subst MapInRange (sym same_map) in_range;
  long = let n : length spread_system.boot.words ≡ 16484 = words_length in omega arith;
  words = All-append IsWord layer (replicate 100 0) are_layer_words (All-replicate IsWord 100 0 (omega arith));
  input = All-nil IsWord;
  core = subst (λ m. CoreFits m (first_core spread_system)) (sym same_map) core_fits;
  count = length-replicate {A = List ℕ} x.count (replicate 1024 0);
  pages = All-replicate IsPage x.count (replicate 1024 0) blank_page;
  enough = omega arith;
}

zero_at : (n i : ℕ) → slice_index (replicate n 0) i ≡ 0
zero_at zero i = refl
zero_at (suc n) zero = refl
zero_at (suc n) (suc i) = zero_at n i

-- the words of the second user
vs_word : (i : ℕ) → slice_index (first_flat vs).words i ≡ cond (nat_eq i 0) 12 0
vs_word i = ⊎_elim
    (λ e. ap (slice_index (first_flat vs).words) e ∙ padded_word vs 0 (omega arith) ∙ sym (cond-true (nat_eq i 0) 12 0 (eq-eqb i 0 e)))
    (λ ne. get_or-append_right vs (replicate (next_page (length vs) - length vs) 0) 1 i 0 refl (omega arith) ∙ zero_at (next_page (length vs) - length vs) (i - 1) ∙ sym (cond-false (nat_eq i 0) 12 0 (ne_eqb i 0 ne)))
    (cases_eq i 0)

-- the loaded machine after its reset
module _ (x : Environment) (eight : HasEightLines x) (enough : 8 ≤ x.count) where
  abbrev words : List ℕ
  words = spread_system.boot.words

  abbrev first : State
  first = run x (loaded spread_system (blank x)) 1

  abbrev core : Core
  core = first_core spread_system

  abbrev the_site : Map → Site
  the_site m = record { map = m; linked = words }

  reset : AfterReset x (site_of spread_system.boot) core first
  reset = loaded_resets x spread_system (blank x) (system_fits x eight enough)

  front : take layer_words words ≡ layer
  front = ap (λ n. take n words) (sym (plain_length spread_map sizes)) ∙ take-append_seam layer (replicate 100 0)

  linked : Linked spread_map sizes (take layer_words words)
  linked = subst (Linked spread_map sizes) (sym front) (plain_linked spread_map sizes (omega arith) refl (omega arith))

  first_stands : RunningRelation x (site_of spread_system.boot) first Running core
  first_stands =
      let long : length words ≡ layer_words + (map_of spread_system.boot).code_words = let n : length words ≡ 16484 = words_length in omega arith in
      reset_stands x (site_of spread_system.boot) first core sizes (subst MapInRange (sym same_map) in_range) long
      (subst (λ m. Linked m sizes (take layer_words words)) (sym same_map) linked) are_sizes (subst (λ m. CoreFits m core) (sym same_map) core_fits) starts reset

  -- over the map
  after : AfterReset x (the_site spread_map) core first
  after = subst (λ m. AfterReset x (the_site m) core first) same_map reset

  base : RunningRelation x (the_site spread_map) first Running core
  base = subst (λ m. RunningRelation x (the_site m) first Running core) same_map first_stands

  abbrev state : State
  state = record first { memory = spread_memory first.memory }

  hand : slice_index state.memory 1025 ≡ 0
  hand =
      let n : length words ≡ 16484 = words_length in
      let m : length layer ≡ 16384 = plain_length spread_map sizes in
      low first.memory base.memory 1025 (omega arith) ∙ after.linked 1025 (omega arith) ∙ get_or_append_left layer (replicate 100 0) 0 1025 (omega arith) ∙ plain_at spread_map sizes 1025 (omega arith)

  size_one : length (first_flat ws).words ≡ 4096
  size_one = let n : length ws ≡ 3073 = ws_length in padded ws ∙ omega arith

  size_two : length (first_flat vs).words ≡ 1024
  size_two = padded vs

  a_word : (k : ℕ) → k < 3073 → slice_index (first_flat ws).words k ≡ spread_word k
  a_word k lt = let n : length ws ≡ 3073 = ws_length in padded_word ws k (omega arith) ∙ ws_word k lt

  pub a_spread_state_stands : ASpreadStateStands x
  a_spread_state_stands = record {
    state = state;
    stands = subst (λ m. RunningRelation x (the_site m) state Running core) (sym same_map)
        (spread_stands x words first core words_length linked starts after base
        (pages_spread (first_flat ws).words (first_flat vs).words size_one size_two a_word vs_word state (at first.memory base.memory) hand
        (λ i lt. after.pages 3 i (omega arith) (ap (nat_lt 3) one_pages) lt)));
    spread = are_spread (first_flat ws).words (first_flat vs).words size_one size_two a_word vs_word state (at first.memory base.memory) hand
        (λ i lt. after.pages 3 i (omega arith) (ap (nat_lt 3) one_pages) lt);
  }
