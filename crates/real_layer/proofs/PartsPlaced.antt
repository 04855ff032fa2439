-- Where the parts of a layer's image stand in the linked words: handler, entries and routines.
use Rattle.std.proofs.Common.{◌≡◌, ℕ, ◌+◌, ◌-◌, ◌*◌, ◌<◌, ◌≤◌, false, List, [], ◌∷◌, ◌++◌, length, map, take, replicate, slice_index, get_or, refl, sym, ap, ◌∙◌, subst, arith}
use Rattle.std.proofs.lemmas.List.{length-append, length-replicate, length-map, get_or_append_left, get_or-append_right, get_or-map}
use Rattle.std.proofs.lemmas.List.Concat.{get_or-flat_map}
use Rattle.std.proofs.lemmas.List.Folds.{length-flat_map-take}
use Rattle.std.proofs.lemmas.List.FromFn.{get_or-map-range_with_len}
use Rattle.std.proofs.lemmas.Bool.Decides.{nat_tests}
use Rattle.mips_table.specs.declared.inst.Inst.{Inst}
use Rattle.mips_table.specs.declared.inst.Inst.TheVariants.{J, Eret}
use Rattle.mips_table.specs.Encoding.{InRange, encoding}
use Rattle.layer_map.specs.Map.{Map}
use Rattle.page_model.specs.TableLayout.{table_layout}
use Rattle.page_fault.specs.Code.{handle_page_code}
use Rattle.trap_entry.specs.Code.{act_on_answer_code, exit_with_code}
use Rattle.cvm_primitives.specs.RegisterCode.{vm_get_code, vm_set_code, vm_size_code, con_put_code, con_get_code, con_left_code}
use Rattle.cvm_primitives.specs.Code.{vm_word_code, vm_put_code, vm_copy_code, vm_resize_code}
use Rattle.cvm_model.specs.Stands.{Site, is_own}
use Rattle.real_layer.specs.Image.{returning, interrupt_code, routines, code_joined, routine, routine_at, entries, zero_padded, layer_variables, block_words, blocks, second_code, image_site, IsMade}
use Rattle.real_layer.specs.Runs.{BlockIsLinked}
use Rattle.real_layer.proofs.LayerInRange.{all_in, handler_fits, routines_fit}

filled_length : (n : ℕ) (ws : List ℕ) → length ws ≤ n → length (zero_padded n ws) ≡ n
filled_length n ws le = length-append ws (replicate (n - length ws) 0) ∙ omega (arith, length-replicate {A = ℕ} (n - length ws) 0)

pub filled_word : (n : ℕ) (ws : List ℕ) (k : ℕ) → k < length ws → slice_index (zero_padded n ws) k ≡ slice_index ws k
filled_word n ws k lt = get_or_append_left ws (replicate (n - length ws) 0) 0 k lt

-- a memory of four parts, with more behind them
module _ (a b c d more : List ℕ) (la : length a ≡ 1024) (lb : length b ≡ 1024) (lc : length c ≡ 10240) (ld : length d ≡ 4096) where
  abbrev pub memory : List ℕ
  memory = (a ++ (b ++ (c ++ d))) ++ more

  pub parts_length : length (a ++ (b ++ (c ++ d))) ≡ 16384
  parts_length = omega (arith, length-append a (b ++ (c ++ d)), length-append b (c ++ d), length-append c d)

  pub memory_length : length memory ≡ 16384 + length more
  memory_length = length-append (a ++ (b ++ (c ++ d))) more ∙ ap (λ n. n + length more) parts_length

  pub in_first : (k : ℕ) → k < 1024 → slice_index memory k ≡ slice_index a k
  in_first k lt = get_or_append_left (a ++ (b ++ (c ++ d))) more 0 k (omega (arith, parts_length)) ∙ get_or_append_left a (b ++ (c ++ d)) 0 k (omega arith)

  pub in_second : (i : ℕ) → i < 1024 → slice_index memory (1024 + i) ≡ slice_index b i
  in_second i lt =
      let at : 1024 + i - 1024 ≡ i = omega arith in
      get_or_append_left (a ++ (b ++ (c ++ d))) more 0 (1024 + i) (omega (arith, parts_length)) ∙ get_or-append_right a (b ++ (c ++ d)) 1024 (1024 + i) 0 la (omega arith)
      ∙ ap (slice_index (b ++ (c ++ d))) at ∙ get_or_append_left b (c ++ d) 0 i (omega arith)

  pub in_third : (i : ℕ) → i < 10240 → slice_index memory (2048 + i) ≡ slice_index c i
  in_third i lt =
      let at : 2048 + i - 1024 ≡ 1024 + i = omega arith in
      let there : 1024 + i - 1024 ≡ i = omega arith in
      get_or_append_left (a ++ (b ++ (c ++ d))) more 0 (2048 + i) (omega (arith, parts_length)) ∙ get_or-append_right a (b ++ (c ++ d)) 1024 (2048 + i) 0 la (omega arith)
      ∙ ap (slice_index (b ++ (c ++ d))) at ∙ get_or-append_right b (c ++ d) 1024 (1024 + i) 0 lb (omega arith) ∙ ap (slice_index (c ++ d)) there ∙ get_or_append_left c d 0 i (omega arith)

  pub in_fourth : (i : ℕ) → i < 4096 → slice_index memory (12288 + i) ≡ slice_index d i
  in_fourth i lt =
      let at : 12288 + i - 1024 ≡ 11264 + i = omega arith in
      let there : 11264 + i - 1024 ≡ 10240 + i = omega arith in
      let last : 10240 + i - 10240 ≡ i = omega arith in
      get_or_append_left (a ++ (b ++ (c ++ d))) more 0 (12288 + i) (omega (arith, parts_length)) ∙ get_or-append_right a (b ++ (c ++ d)) 1024 (12288 + i) 0 la (omega arith)
      ∙ ap (slice_index (b ++ (c ++ d))) at ∙ get_or-append_right b (c ++ d) 1024 (11264 + i) 0 lb (omega arith) ∙ ap (slice_index (c ++ d)) there
      ∙ get_or-append_right c d 10240 (10240 + i) 0 lc (omega arith) ∙ ap (slice_index d) last

-- the parts' lengths
pub handler_length : (m : Map) → length (interrupt_code m) ≡ 338
unfolding interrupt_code
handler_length m = refl

pub routines_count : (m : Map) → length (routines m) ≡ 15
unfolding routines
routines_count m = refl

-- which routine is which
pub record Listed (m : Map) : Type 0 where
  pub get : routine m 0 ≡ returning (vm_get_code m.users)
  pub set : routine m 1 ≡ returning (vm_set_code m.users)
  pub size : routine m 2 ≡ returning (vm_size_code m.users)
  pub resize : routine m 3 ≡ returning (vm_resize_code (table_layout m) m.users m.params.pages)
  pub word : routine m 4 ≡ returning (vm_word_code (table_layout m) m.users m.params.pages (handle_page_code (table_layout m)))
  pub put : routine m 5 ≡ returning (vm_put_code (table_layout m) m.users m.params.pages (handle_page_code (table_layout m)))
  pub copy : routine m 6 ≡ returning (vm_copy_code (table_layout m) m.users m.params.pages (handle_page_code (table_layout m)))
  pub con_put : routine m 7 ≡ returning con_put_code
  pub con_get : routine m 8 ≡ returning con_get_code
  pub con_left : routine m 9 ≡ returning con_left_code
  pub null : routine m 10 ≡ exit_with_code 1
  pub bounds : routine m 11 ≡ exit_with_code 2
  pub zero_divisor : routine m 12 ≡ exit_with_code 3
  pub stack : routine m 13 ≡ exit_with_code 4
  pub leave : routine m 14 ≡ act_on_answer_code (table_layout m) m.users m.params.pages

pub listed : (m : Map) → Listed m
unfolding routines
listed m = record { get = refl; set = refl; size = refl; resize = refl; word = refl; put = refl; copy = refl; con_put = refl; con_get = refl; con_left = refl; null = refl; bounds = refl; zero_divisor = refl; stack = refl; leave = refl }

pub routines_length : (m : Map) → length (code_joined (routines m)) ≤ 10225
unfolding routines
routines_length m = omega arith

pub blocks_length : (sizes : List ℕ) → length (blocks sizes) ≡ 64 * length sizes
blocks_length [] = refl
blocks_length (n ∷ sizes) = length-append (block_words n) (blocks sizes) ∙ ap (λ k. 64 + k) (blocks_length sizes) ∙ omega arith

entries_length : (m : Map) → length (entries m) ≡ 15
entries_length m = refl

-- words of code are none of the layer's own
not_own_low : (m : Map) (k : ℕ) → k < 1024 → is_own m k ≡ false
not_own_low m k lt = grind (arith, nat_tests)

not_own_high : (m : Map) (k : ℕ) → 2048 ≤ k → k < 12288 → is_own m k ≡ false
not_own_high m k from to = grind (arith, nat_tests)

-- the word of an instruction of a list
word_at : (is : List Inst) (i : ℕ) → i < length is → slice_index (map encoding is) i ≡ encoding (get_or is i Eret)
word_at is i lt = get_or-map encoding is i Eret 0 lt

module _ (m : Map) (sizes code : List ℕ) (made : IsMade m sizes code) where
  abbrev pub site : Site
  site = image_site m sizes code

  abbrev pub first_words : List ℕ
  first_words = zero_padded 1024 (map encoding (interrupt_code m))

  abbrev pub second_words : List ℕ
  second_words = zero_padded 10240 (map encoding (second_code m))

  second_length : length (second_code m) ≤ 10240
  second_length = let r = routines_length m in omega (arith, length-append (entries m) (code_joined (routines m)), entries_length m)

  pub first_size : length first_words ≡ 1024
  first_size = filled_length 1024 (map encoding (interrupt_code m)) (omega (arith, length-map (interrupt_code m) encoding, handler_length m))

  pub variables_size : length (zero_padded 1024 (layer_variables m)) ≡ 1024
  variables_size = filled_length 1024 (layer_variables m) (omega arith)

  pub second_size : length second_words ≡ 10240
  second_size = filled_length 10240 (map encoding (second_code m)) (omega (arith, length-map (second_code m) encoding, second_length))

  pub blocks_size : length (zero_padded 4096 (blocks sizes)) ≡ 4096
  blocks_size = let users = made.users in let few = made.range.users in filled_length 4096 (blocks sizes) (omega (arith, blocks_length sizes))

  pub linked_length : length site.linked ≡ 16384 + m.code_words
  linked_length = memory_length first_words (zero_padded 1024 (layer_variables m)) second_words (zero_padded 4096 (blocks sizes)) code first_size variables_size second_size blocks_size ∙ ap (λ n. 16384 + n) made.whole

  -- an instruction of the second part
  second_word : (j : ℕ) → j < length (second_code m) → slice_index site.linked (2048 + j) ≡ encoding (get_or (second_code m) j Eret)
  second_word j lt = in_third first_words (zero_padded 1024 (layer_variables m)) second_words (zero_padded 4096 (blocks sizes)) code first_size variables_size second_size blocks_size j (omega (arith, second_length))
      ∙ filled_word 10240 (map encoding (second_code m)) j (omega (arith, length-map (second_code m) encoding)) ∙ word_at (second_code m) j lt

  -- the handler stands at word 0
  pub handler_stands : BlockIsLinked site 0 (interrupt_code m)
  handler_stands = record {
    range = all_in (interrupt_code m) (handler_fits m made.range);
    inside = omega (arith, linked_length, handler_length m);
    linked = λ i lt. let z : 0 + i ≡ i = omega arith in ap (slice_index site.linked) z ∙ in_first first_words (zero_padded 1024 (layer_variables m)) second_words (zero_padded 4096 (blocks sizes)) code first_size variables_size second_size blocks_size i (omega (arith, handler_length m))
        ∙ filled_word 1024 (map encoding (interrupt_code m)) i (omega (arith, length-map (interrupt_code m) encoding));
    kept = λ k from to. not_own_low m k (omega (arith, handler_length m));
  }

  -- routine k
  abbrev before : ℕ → ℕ
  before k = length (code_joined (take k (routines m)))

  before_fits : (k : ℕ) → k < 15 → before k + length (routine m k) ≤ length (code_joined (routines m))
  before_fits k lt = length-flat_map-take (λ is. is) (routines m) k [] (omega (arith, routines_count m))

  routine_inst : (k i : ℕ) (d : Inst) → k < 15 → i < length (routine m k) → get_or (code_joined (routines m)) (before k + i) d ≡ get_or (routine m k) i d
  routine_inst k i d lt less = get_or-flat_map (λ is. is) (routines m) k i [] d (omega (arith, routines_count m)) less

  -- it ends before the control blocks
  pub routine_fits : (k : ℕ) → k < 15 → routine_at m k + length (routine m k) ≤ 12288
  routine_fits k lt = let fits = before_fits k lt in let total = routines_length m in omega arith

  pub routine_stands : (k : ℕ) → k < 15 → BlockIsLinked site (routine_at m k) (routine m k)
  routine_stands k lt =
      let fits = before_fits k lt in
      let total = routines_length m in
      record {
        range = λ i d less. subst InRange (routine_inst k i d lt less) (all_in (code_joined (routines m)) (routines_fit m made.range) (before k + i) d (omega arith));
        inside = omega (arith, linked_length);
        linked = λ i less.
            let there : 2063 + before k + i ≡ 2048 + (15 + (before k + i)) = omega arith in
            let past : 15 + (before k + i) - 15 ≡ before k + i = omega arith in
            ap (slice_index site.linked) there ∙ second_word (15 + (before k + i)) (omega (arith, length-append (entries m) (code_joined (routines m)), entries_length m))
            ∙ ap encoding (get_or-append_right (entries m) (code_joined (routines m)) 15 (15 + (before k + i)) Eret (entries_length m) (omega arith) ∙ ap (λ n. get_or (code_joined (routines m)) n Eret) past ∙ routine_inst k i Eret lt less)
            ∙ sym (word_at (routine m k) i less);
        kept = λ j from to. not_own_high m j (omega arith) (omega arith);
      }

  -- entry k
  pub entry_stands : (k : ℕ) → k < 15 → BlockIsLinked site (2048 + k) (J (routine_at m k) ∷ [])
  entry_stands k lt =
      let fits = before_fits k lt in
      let total = routines_length m in
      let few = made.range.code_words in
      record {
        range = λ i d less. let z : 0 ≡ i = omega arith in subst (λ i. InRange (get_or (J (routine_at m k) ∷ []) i d)) z (omega arith);
        inside = omega (arith, linked_length);
        linked = λ i less.
            let z : 0 ≡ i = omega arith in
            let there : 2048 + k + 0 ≡ 2048 + k = omega arith in
            let same : 0 + k ≡ k = omega arith in
            subst (λ i. slice_index site.linked (2048 + k + i) ≡ slice_index (encoding (J (routine_at m k)) ∷ []) i) z
            (ap (slice_index site.linked) there ∙ second_word k (omega (arith, length-append (entries m) (code_joined (routines m)), entries_length m))
            ∙ ap encoding (get_or_append_left (entries m) (code_joined (routines m)) Eret k (omega (arith, entries_length m)) ∙ get_or-map-range_with_len (λ k. J (routine_at m k)) 0 15 k k Eret lt same));
        kept = λ j from to. not_own_high m j (omega arith) (omega arith);
      }
