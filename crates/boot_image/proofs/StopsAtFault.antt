-- What is so of bytes is what the reading gives: it goes on behind each piece that is whole and right, and stops at the next one with
-- that one's fault.
use Rattle.std.proofs.Common.{◌≡◌, ℕ, zero, suc, ◌+◌, ◌*◌, ◌<◌, ◌≤◌, List, [], ◌∷◌, ◌++◌, length, get_or, take, map, Result, Ok, Err, refl, ap, ◌∙◌, append_assoc, append-nil, arith}
use Rattle.std.specs.List.{concat, flat_map, AllByRecursion}
use Rattle.std.proofs.lemmas.List.{length-append}
use Rattle.layer_map.specs.declared.params.Params.{Params}
use Rattle.boot_image.specs.declared.fault.ImageFault.{ImageFault}
use Rattle.boot_image.specs.declared.fault.ImageFault.TheVariants.{Truncated, Trailing}
use Rattle.boot_image.specs.declared.reading.Header.{Header}
use Rattle.boot_image.specs.Parts.{ImageParts}
use Rattle.boot_image.specs.Format.{most_user_words}
use Rattle.cvm_words.specs.Reading.{◌>>=◌}
use Rattle.boot_image.specs.Reading.{number_at, params_at, counts_at, system_at, users_at, parts_of}
use Rattle.cvm_words.specs.Bytes.{word}
use Rattle.cvm_words.proofs.BytesOfWords.{length-words}
use Rattle.boot_image.proofs.OneUserMore.{counts_suc, part_short, users_first, users_go_on}
use Rattle.boot_image.proofs.SpellingIsAnswered.{step, onto, number_whole, params_whole, part_of}
use Rattle.boot_image.proofs.PiecesSpellImages.{parts}
use Rattle.boot_image.proofs.FieldsInRange.{least_behind, most_behind, Right, counts_in, params_right}

-- a step that stops
pub stop : {A B : Type 0} {r : Result A ImageFault} {e : ImageFault} (f : A → Result B ImageFault) → r ≡ Err e → (r >>= f) ≡ Err e
stop f is = ap (λ q. q >>= f) is

-- a fault whose position is said otherwise
pub truncated_at : {A : Type 0} {r : Result A ImageFault} (a b : ℕ) → r ≡ Err (Truncated a) → a ≡ b → r ≡ Err (Truncated b)
truncated_at a b is same = is ∙ ap (λ (n : ℕ). Err (Truncated n)) same

trailing_at : {A : Type 0} {r : Result A ImageFault} (a b : ℕ) → r ≡ Err (Trailing a) → a ≡ b → r ≡ Err (Trailing b)
trailing_at a b is same = is ∙ ap (λ (n : ℕ). Err (Trailing n)) same

-- ---- the fields behind the form

counts_stop : (done counts : List ℕ) (most users w : ℕ) (left : List ℕ) (e : ImageFault) → most ≤ 65536 → AllByRecursion (λ c. c ≤ most) counts → length counts < users → w ≡ 9 + (length done + length counts) → number_at w 0 most left ≡ Err e → counts_at done most users (onto counts left) ≡ Err e
counts_stop done counts most zero w left e few all lt at s = absurd (omega (arith, lt))
counts_stop done [] most (suc users) w left e few all lt at s =
    let same : 9 + length done ≡ w = omega (arith, at) in
    counts_suc done most users (length done) left (Err e) refl (ap (λ (n : ℕ). number_at n 0 most left) same ∙ s)
counts_stop done (n ∷ counts) most (suc users) w left e few all lt at s =
    counts_suc done most users (length done) (word n ++ onto counts left) (Ok (n, onto counts left)) refl (number_whole (9 + length done) 0 most n (onto counts left) (omega (arith, all.0, few)) (omega arith) all.0)
    ∙ counts_stop (done ++ n ∷ []) counts most users w left e few all.1 (omega (arith, lt)) (omega (arith, at, length-append done (n ∷ []))) s

pages_stop : (mp : ℕ) (left : List ℕ) (e : ImageFault) → number_at 3 1 mp left ≡ Err e → params_at mp left ≡ Err e
unfolding params_at
pages_stop mp left e s = stop _ s

frames_stop : (mp pages : ℕ) (left : List ℕ) (e : ImageFault) → mp ≤ 1024 → 1 ≤ pages → pages ≤ mp → number_at 4 2 16384 left ≡ Err e → params_at mp (word pages ++ left) ≡ Err e
unfolding params_at
frames_stop mp pages left e limit low high s = step _ (number_whole 3 1 mp pages left (omega (arith, high, limit)) low high) (stop _ s)

heap_stop : (mp pages frames : ℕ) (left : List ℕ) (e : ImageFault) → mp ≤ 1024 → 1 ≤ pages → pages ≤ mp → 2 ≤ frames → frames ≤ 16384 → number_at 5 0 1048576 left ≡ Err e → params_at mp (word pages ++ (word frames ++ left)) ≡ Err e
unfolding params_at
heap_stop mp pages frames left e limit low high two many s =
    step _ (number_whole 3 1 mp pages _ (omega (arith, high, limit)) low high) (step _ (number_whole 4 2 16384 frames left (omega (arith, many)) two many) (stop _ s))

stack_stop : (mp pages frames heap : ℕ) (left : List ℕ) (e : ImageFault) → mp ≤ 1024 → 1 ≤ pages → pages ≤ mp → 2 ≤ frames → frames ≤ 16384 → heap ≤ 1048576 → number_at 6 64 262144 left ≡ Err e → params_at mp (word pages ++ (word frames ++ (word heap ++ left))) ≡ Err e
unfolding params_at
stack_stop mp pages frames heap left e limit low high two many few s =
    step _ (number_whole 3 1 mp pages _ (omega (arith, high, limit)) low high)
    (step _ (number_whole 4 2 16384 frames _ (omega (arith, many)) two many) (step _ (number_whole 5 0 1048576 heap left (omega (arith, few)) (omega arith) few) (stop _ s)))

module _ (form mu mp : ℕ) (few_users : mu ≤ 64) (limit : mp ≤ 1024) where
  users_whole : (users : ℕ) (rest : List ℕ) → users ≤ mu → number_at 2 0 mu (word users ++ rest) ≡ Ok (users, rest)
  users_whole users rest few = number_whole 2 0 mu users rest (omega (arith, few, few_users)) (omega arith) few

  text_whole : (source : ℕ) (rest : List ℕ) → source ≤ 1048576 → number_at 7 0 1048576 (word source ++ rest) ≡ Ok (source, rest)
  text_whole source rest few = number_whole 7 0 1048576 source rest (omega (arith, few)) (omega arith) few

  -- behind right numbers the reading stops where the next number does
  pub system_stop : (first left : List ℕ) (e : ImageFault) → Right mu mp [] first → length first < 7 + get_or first 0 0 → number_at (2 + length first) (least_behind first) (most_behind mu mp first) left ≡ Err e → system_at form mu mp (onto first left) ≡ Err e
  unfolding system_at
  system_stop [] left e r room s = stop _ s
  system_stop (users ∷ []) left e r room s = step _ (users_whole users left r.0.1) (stop _ (pages_stop mp left e s))
  system_stop (users ∷ pages ∷ []) left e r room s = step _ (users_whole users _ r.0.1) (stop _ (frames_stop mp pages left e limit r.1.0.0 r.1.0.1 s))
  system_stop (users ∷ pages ∷ frames ∷ []) left e r room s =
      step _ (users_whole users _ r.0.1) (stop _ (heap_stop mp pages frames left e limit r.1.0.0 r.1.0.1 r.1.1.0.0 r.1.1.0.1 s))
  system_stop (users ∷ pages ∷ frames ∷ heap ∷ []) left e r room s =
      step _ (users_whole users _ r.0.1) (stop _ (stack_stop mp pages frames heap left e limit r.1.0.0 r.1.0.1 r.1.1.0.0 r.1.1.0.1 r.1.1.1.0.1 s))
  system_stop (users ∷ pages ∷ frames ∷ heap ∷ stack ∷ []) left e r room s =
      let p : Params = record { pages = pages; frames = frames; heap = heap; stack = stack } in
      step _ (users_whole users _ r.0.1) (step _ (params_whole mp p left (params_right mu mp users pages frames heap stack [] limit r) r.1.0.1) (stop _ s))
  system_stop (users ∷ pages ∷ frames ∷ heap ∷ stack ∷ source ∷ []) left e r room s =
      let p : Params = record { pages = pages; frames = frames; heap = heap; stack = stack } in
      step _ (users_whole users _ r.0.1)
      (step _ (params_whole mp p _ (params_right mu mp users pages frames heap stack (source ∷ []) limit r) r.1.0.1) (step _ (text_whole source left r.1.1.1.1.1.0.1) (stop _ s)))
  system_stop (users ∷ pages ∷ frames ∷ heap ∷ stack ∷ source ∷ words ∷ counts) left e r room s =
      let p : Params = record { pages = pages; frames = frames; heap = heap; stack = stack } in
      let sizes : AllByRecursion (λ c. c ≤ most_user_words pages) counts = counts_in mu mp p users source words [] counts r.1.1.1.1.1.1.1 in
      step _ (users_whole users _ r.0.1)
      (step _ (params_whole mp p _ (params_right mu mp users pages frames heap stack (source ∷ words ∷ counts) limit r) r.1.0.1)
      (step _ (text_whole source _ r.1.1.1.1.1.0.1)
      (step _ (number_whole 8 16384 4194304 words _ (omega (arith, r.1.1.1.1.1.1.0.1)) r.1.1.1.1.1.1.0.0 r.1.1.1.1.1.1.0.1)
      (stop _ (counts_stop [] counts (most_user_words pages) users (2 + length (users ∷ pages ∷ frames ∷ heap ∷ stack ∷ source ∷ words ∷ counts)) left e (omega arith) sizes (omega (arith, room)) (omega arith) s)))))

-- ---- the parts

users_stop : (at : ℕ) (us : List (List ℕ)) (c : ℕ) (left : List ℕ) → length left < length (get_or (map (flat_map word) us) c []) → users_at at (map length us) (concat (take c (map (flat_map word) us)) ++ left) ≡ Err (Truncated (at + length (concat (take c (map (flat_map word) us)))))
users_stop at [] c left short = absurd (omega (arith, short))
users_stop at (u ∷ us) zero left short =
    truncated_at at (at + length (concat (take 0 (map (flat_map word) (u ∷ us))))) (users_first at (length u) (map length us) left (Err (Truncated at)) (part_short at (4 * length u) left (omega (arith, short, length-words u)))) (omega arith)
users_stop at (u ∷ us) (suc c) left short =
    let front : List ℕ = concat (take c (map (flat_map word) us)) in
    truncated_at (at + 4 * length u + length front) (at + length (flat_map word u ++ front))
    (ap (users_at at (map length (u ∷ us))) (append_assoc (flat_map word u) front left)
    ∙ users_first at (length u) (map length us) (flat_map word u ++ (front ++ left)) (Ok (flat_map word u, front ++ left)) (part_of at (4 * length u) (flat_map word u) (front ++ left) (length-words u))
    ∙ users_stop (at + 4 * length u) us c left short)
    (omega (arith, length-append (flat_map word u) front, length-words u))

users_go : (at : ℕ) (us : List (List ℕ)) (left : List ℕ) → 0 < length left → users_at at (map length us) (flat_map (flat_map word) us ++ left) ≡ Err (Trailing (at + length (flat_map (flat_map word) us)))
users_go at [] left more = trailing_at at (at + 0) (users_go_on at 0 [] left (omega arith) more) (omega arith)
users_go at (u ∷ us) left more =
    let others : List ℕ = flat_map (flat_map word) us in
    trailing_at (at + 4 * length u + length others) (at + length (flat_map word u ++ others))
    (ap (users_at at (map length (u ∷ us))) (append_assoc (flat_map word u) others left)
    ∙ users_first at (length u) (map length us) (flat_map word u ++ (others ++ left)) (Ok (flat_map word u, others ++ left)) (part_of at (4 * length u) (flat_map word u) (others ++ left) (length-words u))
    ∙ users_go (at + 4 * length u) us left more)
    (omega (arith, length-append (flat_map word u) others, length-words u))

-- the sizes of an image's parts are those of a header
pub record Sized (h : Header) (i : ImageParts) : Type 0 where
  pub source : length i.source ≡ h.source_length
  pub words : length i.words ≡ h.word_count

pub parts_stop : (h : Header) (i : ImageParts) → Sized h i → (j : ℕ) (left : List ℕ) → length left < length (get_or (parts i) j []) → parts_of h (map length i.users) (concat (take j (parts i)) ++ left) ≡ Err (Truncated (h.parts_at + length (concat (take j (parts i)))))
unfolding parts_of
parts_stop h i sized zero left short = truncated_at h.parts_at (h.parts_at + 0) (stop _ (part_short h.parts_at h.source_length left (omega (arith, short, sized.source)))) (omega arith)
parts_stop h i sized (suc zero) left short =
    truncated_at (h.parts_at + h.source_length) (h.parts_at + length (i.source ++ []))
    (ap (λ (l : List ℕ). parts_of h (map length i.users) (l ++ left)) (append-nil i.source)
    ∙ step _ (part_of h.parts_at h.source_length i.source left sized.source) (stop _ (part_short (h.parts_at + h.source_length) (4 * h.word_count) left (omega (arith, short, sized.words, length-words i.words)))))
    (omega (arith, sized.source, length-append i.source []))
parts_stop h i sized (suc (suc c)) left short =
    let words : List ℕ = flat_map word i.words in
    let front : List ℕ = concat (take c (map (flat_map word) i.users)) in
    truncated_at (h.parts_at + h.source_length + 4 * h.word_count + length front) (h.parts_at + length (i.source ++ (words ++ front)))
    (ap (parts_of h (map length i.users)) (append_assoc i.source (words ++ front) left ∙ ap (λ (l : List ℕ). i.source ++ l) (append_assoc words front left))
    ∙ step _ (part_of h.parts_at h.source_length i.source (words ++ (front ++ left)) sized.source)
    (step _ (part_of (h.parts_at + h.source_length) (4 * h.word_count) words (front ++ left) (omega (arith, sized.words, length-words i.words)))
    (stop _ (users_stop (h.parts_at + h.source_length + 4 * h.word_count) i.users c left short))))
    (omega (arith, sized.source, sized.words, length-words i.words, length-append i.source (words ++ front), length-append words front))

-- the bytes of all parts
abbrev pub behind : ImageParts → List ℕ
behind i = i.source ++ (flat_map word i.words ++ flat_map (flat_map word) i.users)

pub parts_go : (h : Header) (i : ImageParts) → Sized h i → (left : List ℕ) → 0 < length left → parts_of h (map length i.users) (behind i ++ left) ≡ Err (Trailing (h.parts_at + length (behind i)))
unfolding parts_of
parts_go h i sized left more =
    let words : List ℕ = flat_map word i.words in
    let users : List ℕ = flat_map (flat_map word) i.users in
    trailing_at (h.parts_at + h.source_length + 4 * h.word_count + length users) (h.parts_at + length (behind i))
    (ap (parts_of h (map length i.users)) (append_assoc i.source (words ++ users) left ∙ ap (λ (l : List ℕ). i.source ++ l) (append_assoc words users left))
    ∙ step _ (part_of h.parts_at h.source_length i.source (words ++ (users ++ left)) sized.source)
    (step _ (part_of (h.parts_at + h.source_length) (4 * h.word_count) words (users ++ left) (omega (arith, sized.words, length-words i.words)))
    (stop _ (users_go (h.parts_at + h.source_length + 4 * h.word_count) i.users left more))))
    (omega (arith, sized.source, sized.words, length-words i.words, length-append i.source (words ++ users), length-append words users))
