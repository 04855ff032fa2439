-- What a layer's image holds in the layer's variables and in the control blocks.
use Rattle.std.proofs.Common.{◌≡◌, ◌≢◌, ℕ, zero, suc, ◌+◌, ◌-◌, ◌*◌, ◌<◌, List, [], ◌∷◌, ◌++◌, length, take, replicate, slice_index, refl, sym, ap, ◌∙◌, ⊎_elim, arith}
use Rattle.std.proofs.lemmas.Bool.{cases_lt}
use Rattle.std.proofs.lemmas.List.{take_at, get_or_append_left, get_or-append_right, get_or-replicate}
use Rattle.layer_map.specs.Map.{Map, layer_words, block_at}
use Rattle.layer_contract.specs.Layer.{Linked}
use Rattle.real_layer.specs.Image.{zero_padded, layer_variables, block_words, blocks, layer_image, IsMade}
use Rattle.real_layer.proofs.PartsPlaced.{parts_length, in_second, in_fourth, filled_word, first_words, second_words, first_size, variables_size, second_size, blocks_size, blocks_length}

-- a control block's words
block_size : (n : ℕ) → slice_index (block_words n) 32 ≡ n
block_size n = refl

block_zero : (n i : ℕ) → i < 64 → i ≢ 32 → slice_index (block_words n) i ≡ 0
block_zero n i lt ne = ⊎_elim
    (λ low. get_or_append_left (replicate 32 0) (n ∷ replicate 31 0) 0 i low ∙ get_or-replicate 32 i 0 0 low)
    (λ high. get_or-append_right (replicate 32 0) (n ∷ replicate 31 0) 32 i 0 refl high ∙ past (i - 32) (omega arith) (omega arith))
    (cases_lt i 32)
  where
    past : (j : ℕ) → j ≢ 0 → j < 32 → slice_index (n ∷ replicate 31 0) j ≡ 0
    past zero ne lt = absurd (ne refl)
    past (suc j) ne lt = get_or-replicate 31 j 0 0 (omega arith)

-- word i of block u
blocks_word : (sizes : List ℕ) (u i : ℕ) → u < length sizes → i < 64 → slice_index (blocks sizes) (64 * u + i) ≡ slice_index (block_words (slice_index sizes u)) i
blocks_word [] u i lt less = absurd (omega arith)
blocks_word (n ∷ sizes) zero i lt less = let at : 64 * 0 + i ≡ i = omega arith in ap (slice_index (blocks (n ∷ sizes))) at ∙ get_or_append_left (block_words n) (blocks sizes) 0 i less
blocks_word (n ∷ sizes) (suc u) i lt less =
    let at : 64 * suc u + i - 64 ≡ 64 * u + i = omega arith in
    get_or-append_right (block_words n) (blocks sizes) 64 (64 * suc u + i) 0 refl (omega arith) ∙ ap (slice_index (blocks sizes)) at ∙ blocks_word sizes u i (omega arith) less

module _ (m : Map) (sizes code : List ℕ) (made : IsMade m sizes code) where
  image_length : length (layer_image m sizes) ≡ 16384
  image_length = parts_length (first_words m sizes code made) (zero_padded 1024 (layer_variables m)) (second_words m sizes code made) (zero_padded 4096 (blocks sizes)) [] (first_size m sizes code made) (variables_size m sizes code made) (second_size m sizes code made) (blocks_size m sizes code made)

  -- a word of the image, by the words that it makes with nothing behind it
  alone : (k : ℕ) → k < 16384 → slice_index (layer_image m sizes) k ≡ slice_index (layer_image m sizes ++ []) k
  alone k lt = sym (get_or_append_left (layer_image m sizes) [] 0 k (omega (arith, image_length)))

  variable : (i : ℕ) → i < 7 → slice_index (layer_image m sizes) (1024 + i) ≡ slice_index (layer_variables m) i
  variable i lt = alone (1024 + i) (omega arith)
      ∙ in_second (first_words m sizes code made) (zero_padded 1024 (layer_variables m)) (second_words m sizes code made) (zero_padded 4096 (blocks sizes)) [] (first_size m sizes code made) (variables_size m sizes code made) (second_size m sizes code made) (blocks_size m sizes code made) i (omega arith)
      ∙ filled_word 1024 (layer_variables m) i lt

  block : (u i : ℕ) → u < length sizes → i < 64 → slice_index (layer_image m sizes) (block_at (u + 1) + i) ≡ slice_index (block_words (slice_index sizes u)) i
  block u i lt less =
      let users = made.users in let few = made.range.users in
      let at : block_at (u + 1) + i ≡ 12288 + (64 * u + i) = omega arith in
      ap (slice_index (layer_image m sizes)) at ∙ alone (12288 + (64 * u + i)) (omega arith)
      ∙ in_fourth (first_words m sizes code made) (zero_padded 1024 (layer_variables m)) (second_words m sizes code made) (zero_padded 4096 (blocks sizes)) [] (first_size m sizes code made) (variables_size m sizes code made) (second_size m sizes code made) (blocks_size m sizes code made) (64 * u + i) (omega arith)
      ∙ filled_word 4096 (blocks sizes) (64 * u + i) (omega (arith, blocks_length sizes)) ∙ blocks_word sizes u i lt less

  pub image_linked : Linked m sizes (layer_image m sizes)
  image_linked = record {
    whole = image_length;
    count = made.users;
    current = variable 0 (omega arith);
    hand = let h : slice_index (layer_image m sizes) 1025 ≡ 0 = variable 1 (omega arith) in let two = made.range.params.two_frames in omega arith;
    used = variable 2 (omega arith);
    heap_words = variable 3 (omega arith);
    heap_first = variable 4 (omega arith);
    stack_first = variable 5 (omega arith);
    stack_limit = variable 6 (omega arith);
    blocks = λ u lt. record { size = block u 32 lt (omega arith) ∙ block_size (slice_index sizes u); others = λ i less ne. block u i lt less ∙ block_zero (slice_index sizes u) i less ne };
  }

  pub image_taken : take layer_words (layer_image m sizes ++ code) ≡ layer_image m sizes
  image_taken = take_at (layer_image m sizes) code layer_words image_length
