-- A state that stands for a CVM state: the loaded machine of one user after its reset, over a layer without code.
use Rattle.std.proofs.Common.{◌≡◌, ℕ, ◌+◌, ◌-◌, ◌/◌, ◌%◌, ◌<◌, ◌≤◌, true, false, ◌&&◌, cond, nat_eq, List, [], ◌∷◌, length, take, replicate, None, slice_index, All, refl, sym, ap, ◌∙◌, subst, arith, ne_eqb, eq-eqb, le-leb}
use Rattle.std.specs.Prelude.{nat_le}
use Rattle.std.proofs.lemmas.Bool.{cond_both, cond-true, cond-false}
use Rattle.std.proofs.lemmas.List.{length-append, length-replicate}
use Rattle.std.proofs.Math.Seq.{take-append_seam}
use Rattle.std.proofs.lemmas.List.FromFn.{get_or-map-range_with_len, length-map-range_with_len}
use Rattle.std.proofs.lemmas.List.Elements.{All-nil, All-cons, All-append, All-replicate, All-from_get_or}
use Rattle.mips_table.specs.Device.{Environment, HasEightLines}
use Rattle.mips_table.specs.Fits.{IsWord, IsPage}
use Rattle.mips_table.specs.Machine.{State, zero_cpu, run}
use Rattle.mips_table.specs.Fits.{CpuFits}
use Rattle.layer_map.specs.Map.{Map, MapInRange, layer_words, block_at}
use Rattle.cvm_model.specs.Kernel.{Core}
use Rattle.cvm_model.specs.Cvm.{Running, map_of, first_flat, first_core}
use Rattle.cvm_model.specs.Stands.{UserFits, CoreFits, RunningRelation, runs_user}
use Rattle.layer_contract.specs.Layer.{Linked, Starts, AfterReset, for_user}
use Rattle.layer_contract.specs.Follows.{site_of, loaded, SystemFits}
use Rattle.mips_table.specs.Samples.{overflowing}
use Rattle.layer_contract.specs.Samples.{plain_word, plain_layer, plain_map, plain_system, AStateStands}
use Rattle.layer_contract.proofs.RestoredIsInUserMode.{user_stands}
use Rattle.layer_contract.proofs.ResetStandsForStart.{reset_stands}
use Rattle.layer_contract.proofs.LoadedTakesReset.{index_word, loaded_resets}

pub plain_length : (m : Map) (sizes : List ℕ) → length (plain_layer m sizes) ≡ layer_words
unfolding plain_layer
plain_length m sizes = length-map-range_with_len (plain_word m sizes) 0 layer_words

pub plain_at : (m : Map) (sizes : List ℕ) (k : ℕ) → k < layer_words → slice_index (plain_layer m sizes) k ≡ plain_word m sizes k
unfolding plain_layer
plain_at m sizes k lt = get_or-map-range_with_len (plain_word m sizes) 0 layer_words k k 0 lt (omega arith)

-- a word of a control block
block_word : (m : Map) (sizes : List ℕ) (k : ℕ) → 12288 ≤ k → plain_word m sizes k ≡ cond (nat_eq (k % 64) 32) (slice_index sizes ((k - 12288) / 64)) 0
block_word m sizes k le =
    let a : nat_eq k 1027 ≡ false = ne_eqb _ _ (λ e. absurd (omega arith)) in
    let b : nat_eq k 1028 ≡ false = ne_eqb _ _ (λ e. absurd (omega arith)) in
    let c : nat_eq k 1029 ≡ false = ne_eqb _ _ (λ e. absurd (omega arith)) in
    let d : nat_eq k 1030 ≡ false = ne_eqb _ _ (λ e. absurd (omega arith)) in
    let e : nat_le 12288 k ≡ true = le-leb _ _ le in
    rw (a, b, c, d, e) refl

pub plain_linked : (m : Map) (sizes : List ℕ) → 0 < m.params.frames → length sizes ≡ m.users → length sizes ≤ 64 → Linked m sizes (plain_layer m sizes)
plain_linked m sizes frames same few = record {
  whole = plain_length m sizes;
  count = same;
  current = plain_at m sizes 1024 (omega arith);
  hand = subst (λ n. n < m.params.frames) (sym (plain_at m sizes 1025 (omega arith))) frames;
  used = plain_at m sizes 1026 (omega arith);
  heap_words = plain_at m sizes 1027 (omega arith);
  heap_first = plain_at m sizes 1028 (omega arith);
  stack_first = plain_at m sizes 1029 (omega arith);
  stack_limit = plain_at m sizes 1030 (omega arith);
  blocks = λ u lt. record {
    size =
        let is : nat_eq ((block_at (u + 1) + 32) % 64) 32 ≡ true = eq-eqb _ _ (omega arith) in
        let same : (block_at (u + 1) + 32 - 12288) / 64 ≡ u = omega arith in
        plain_at m sizes (block_at (u + 1) + 32) (omega arith) ∙ block_word m sizes (block_at (u + 1) + 32) (omega arith) ∙ cond-true _ _ 0 is ∙ ap (slice_index sizes) same;
    others = λ i lt' ne.
        let is : nat_eq ((block_at (u + 1) + i) % 64) 32 ≡ false = ne_eqb _ _ (λ e. ne (omega arith)) in
        plain_at m sizes (block_at (u + 1) + i) (omega arith) ∙ block_word m sizes (block_at (u + 1) + i) (omega arith) ∙ cond-false _ (slice_index sizes ((block_at (u + 1) + i - 12288) / 64)) 0 is;
  };
}

-- its words for one user of a page
abbrev layer : List ℕ
layer = plain_layer plain_map (1 ∷ [])

small_word : (k : ℕ) → IsWord (plain_word plain_map (1 ∷ []) k)
small_word k =
    cond_both (nat_eq k 1027) _ _ IsWord (λ _. omega arith) (λ _.
    cond_both (nat_eq k 1028) _ _ IsWord (λ _. omega arith) (λ _.
    cond_both (nat_eq k 1029) _ _ IsWord (λ _. omega arith) (λ _.
    cond_both (nat_eq k 1030) _ _ IsWord (λ _. omega arith) (λ _.
    cond_both (nat_le 12288 k && nat_eq (k % 64) 32) _ _ IsWord (λ _. index_word (1 ∷ []) ((k - 12288) / 64) (All-cons IsWord 1 [] (omega arith) (All-nil IsWord))) (λ _. omega arith)))))

are_layer_words : All IsWord layer
are_layer_words = All-from_get_or IsWord layer 0 (λ k lt. let n = plain_length plain_map (1 ∷ []) in subst IsWord (sym (plain_at plain_map (1 ∷ []) k (omega arith))) (small_word k))

words_length : length plain_system.boot.words ≡ 16484
words_length = length-append layer (replicate 100 0) ∙ ap (λ n. n + 100) (plain_length plain_map (1 ∷ []))

same_map : map_of plain_system.boot ≡ plain_map
same_map = ap (λ n. record plain_map { code_words = n }) (ap (λ n. n - layer_words) words_length)

in_range : MapInRange plain_map
in_range = record {
  params = record { a_page = omega arith; pages = omega arith; two_frames = omega arith; frames = omega arith; heap = omega arith; least_stack = omega arith; stack = omega arith };
  users = omega arith;
  code_words = omega arith;
  global_words = omega arith;
}

pub no_cpu_fits : CpuFits zero_cpu
no_cpu_fits = record { pc = omega arith; regs = record { size = refl; each = All-replicate IsWord 32 0 (omega arith); none = refl }; hi = omega arith; lo = omega arith }

user_fits : UserFits 4 (first_flat overflowing)
user_fits = record {
  cpu = no_cpu_fits;
  pages = omega arith;
  whole = refl;
  words = All-append IsWord overflowing (replicate 1021 0)
      (All-cons IsWord 0x3c017fff (0x3421ffff ∷ 0x20220001 ∷ []) (omega arith) (All-cons IsWord 0x3421ffff (0x20220001 ∷ []) (omega arith) (All-cons IsWord 0x20220001 [] (omega arith) (All-nil IsWord)))) (All-replicate IsWord 1021 0 (omega arith));
}

core_fits : CoreFits plain_map (first_core plain_system)
core_fits = record {
  users = refl;
  each = All-cons (UserFits 4) (first_flat overflowing) [] user_fits (All-nil (UserFits 4));
  globals = refl;
  heap = omega arith;
  used = refl;
  frames = refl;
  current = omega arith;
  log = omega arith;
  input = omega arith;
}

starts : Starts (first_core plain_system)
starts = record {
  globals = λ address. All-cons (λ w. w ≡ 0) 0 [] refl (All-nil (λ w. w ≡ 0));
  heap = refl;
  users = All-cons (λ f. f.cpu ≡ zero_cpu) (first_flat overflowing) [] refl (All-nil (λ f. f.cpu ≡ zero_cpu));
  current = refl;
  log = refl;
}

-- a blank disk
abbrev pub blank : Environment → List (List ℕ)
blank x = replicate x.count (replicate 1024 0)

pub blank_page : IsPage (replicate 1024 0)
blank_page = record { size = length-replicate {A = ℕ} 1024 0; each = All-replicate IsWord 1024 0 (omega arith) }

system_fits : (x : Environment) → HasEightLines x → 4 ≤ x.count → SystemFits x plain_system (blank x)
system_fits x eight enough = record {
  lines = eight;
  range = subst MapInRange (sym same_map) in_range;
  long = let n : length plain_system.boot.words ≡ 16484 = words_length in omega arith;
  words = All-append IsWord layer (replicate 100 0) are_layer_words (All-replicate IsWord 100 0 (omega arith));
  input = All-nil IsWord;
  core = subst (λ m. CoreFits m (first_core plain_system)) (sym same_map) core_fits;
  count = length-replicate {A = List ℕ} x.count (replicate 1024 0);
  pages = All-replicate IsPage x.count (replicate 1024 0) blank_page;
  enough = omega arith;
}

first_stands : (x : Environment) → HasEightLines x → 4 ≤ x.count → RunningRelation x (site_of plain_system.boot) (run x (loaded plain_system (blank x)) 1) Running (first_core plain_system)
first_stands x eight enough =
    let front : take layer_words plain_system.boot.words ≡ layer = ap (λ n. take n plain_system.boot.words) (sym (plain_length plain_map (1 ∷ []))) ∙ take-append_seam layer (replicate 100 0) in
    let linked : Linked plain_map (1 ∷ []) (take layer_words plain_system.boot.words) = subst (Linked plain_map (1 ∷ [])) (sym front) (plain_linked plain_map (1 ∷ []) (omega arith) refl (omega arith)) in
    let long : length plain_system.boot.words ≡ layer_words + (map_of plain_system.boot).code_words = let n : length plain_system.boot.words ≡ 16484 = words_length in omega arith in
    reset_stands x (site_of plain_system.boot) (run x (loaded plain_system (blank x)) 1) (first_core plain_system) (1 ∷ []) (subst MapInRange (sym same_map) in_range) long
    (subst (λ m. Linked m (1 ∷ []) (take layer_words plain_system.boot.words)) (sym same_map) linked) refl
    (subst (λ m. CoreFits m (first_core plain_system)) (sym same_map) core_fits) starts (loaded_resets x plain_system (blank x) (system_fits x eight enough))

-- a restored user runs
runs : (m : Map) (c : Core) (u : ℕ) (s : State) → s.off ≡ None → runs_user (for_user m c u s) ≡ true
runs m c u s on = rw on refl

pub a_state_stands : (x : Environment) → HasEightLines x → 4 ≤ x.count → AStateStands x
a_state_stands x eight enough =
    let s : State = run x (loaded plain_system (blank x)) 1 in
    let r : AfterReset x (site_of plain_system.boot) (first_core plain_system) s = loaded_resets x plain_system (blank x) (system_fits x eight enough) in
    record {
      first = s;
      stands = first_stands x eight enough;
      user = for_user (map_of plain_system.boot) (first_core plain_system) 1 s;
      runs = runs (map_of plain_system.boot) (first_core plain_system) 1 s r.inside.on;
      user_stands = user_stands x (site_of plain_system.boot) s (first_core plain_system) 1 (subst MapInRange (sym same_map) in_range) r.inside (first_stands x eight enough) (omega arith, omega arith);
    }
