-- What is so of bytes is what is answered of them, for each answer and each form; so there is at most one.
use Rattle.std.proofs.Common.{◌≡◌, ◌≢◌, ℕ, zero, suc, ◌+◌, ◌-◌, ◌*◌, ◌^◌, ◌<◌, ◌≤◌, true, ltb, ◌||◌, List, [], ◌∷◌, ◌++◌, length, get_or, take, map, Result, Ok, Err, inl, inr, refl, sym, ap, ◌∙◌, append_assoc, arith}
use Rattle.std.specs.Prelude.{codes}
use Rattle.std.specs.List.{concat, flat_map}
use Rattle.std.proofs.lemmas.Bool.{lt-ltb, cases_lt, or_left, or_right}
use Rattle.std.proofs.lemmas.List.{length-append, length-map, length-take-le, take_at}
use Rattle.std.proofs.lemmas.List.Elements.{recursion_from_All}
use Rattle.layer_map.specs.declared.params.Params.{Params}
use Rattle.boot_image.specs.declared.fault.ImageFault.{ImageFault}
use Rattle.boot_image.specs.declared.fault.ImageFault.TheVariants.{Magic, Truncated, Trailing, Parameter}
use Rattle.boot_image.specs.declared.reading.Header.{Header}
use Rattle.boot_image.specs.Parts.{ImageParts}
use Rattle.boot_image.specs.Format.{fields, most_user_words}
use Rattle.boot_image.specs.Reading.{system_at, parts_of}
use Rattle.cvm_words.specs.Bytes.{word}
use Rattle.cvm_words.proofs.BytesOfWords.{length-words}
use Rattle.boot_image.proofs.AnswersByFound.{Found, answered, answered_parts}
use Rattle.boot_image.proofs.SpellingIsAnswered.{onto, words-onto, system, sizes_of, Fits, system_whole}
use Rattle.boot_image.proofs.AnsweredIsSpelling.{number_short, number_out}
use Rattle.boot_image.proofs.PiecesSpellImages.{parts, fields_front, field_piece, parts_front, part_piece}
use Rattle.boot_image.proofs.FieldsInRange.{least_behind, most_behind, Right, right_take, right_more, behind_form, fits_right, Begun, Limits, begun}
use Rattle.boot_image.proofs.StopsAtFault.{truncated_at, system_stop, Sized, parts_stop, behind, parts_go}

-- the mark, then these numbers, and then other bytes
abbrev pub marked : List ℕ → List ℕ → List ℕ
marked ns rest = codes "CVMI" ++ onto ns rest

-- a value that no image of a reading has behind these numbers
abbrev pub NoneHas : (ImageParts → Type 0) → List ℕ → ℕ → Type 0
NoneHas IsFit first value = (other : ImageParts) → IsFit other → take (suc (length first)) (fields other) ≢ first ++ value ∷ []

-- a reading, by its header
pub record Reads (IsFit : ImageParts → Type 0) (read : List ℕ → Result ImageParts ImageFault) (head : List ℕ → Found) : Type 0 where
  pub by : (bytes : List ℕ) (r : Found) → head bytes ≡ r → read bytes ≡ answered r
  pub mark_short : (bytes : List ℕ) → length bytes < 4 → head bytes ≡ Err (Truncated 0)
  pub mark_other : (bytes : List ℕ) → 4 ≤ length bytes → take 4 bytes ≢ codes "CVMI" → head bytes ≡ Err Magic
  pub form_short : (left : List ℕ) → length left < 4 → head (codes "CVMI" ++ left) ≡ Err (Truncated 4)
  pub form_out : (value : ℕ) (left : List ℕ) → value < 2 ^ 32 → NoneHas IsFit [] value → head (codes "CVMI" ++ (word value ++ left)) ≡ Err (Parameter 1 value)

-- what the header is of an image with these fields, and where it stops
pub record Headed (IsFit : ImageParts → Type 0) (head : List ℕ → Found) (ns : List ℕ) (i : ImageParts) : Type 0 where
  pub header : Header
  pub sized : Sized header i
  pub position : header.parts_at ≡ 4 * suc (length ns)
  pub is : (rest : List ℕ) → head (marked ns rest) ≡ Ok (header, (map length i.users, rest))
  pub short : (j : ℕ) (left : List ℕ) → j < length ns → length left < 4 → head (marked (take j ns) left) ≡ Err (Truncated (4 * suc j))
  pub out : (j : ℕ) (left : List ℕ) (value : ℕ) → j < length ns → value < 2 ^ 32 → NoneHas IsFit (take j ns) value → head (marked (take j ns) (word value ++ left)) ≡ Err (Parameter (suc j) value)

-- the pieces of an image with these fields
abbrev pub pieces_of : List ℕ → ImageParts → List (List ℕ)
pieces_of ns i = codes "CVMI" ∷ (map word ns ++ parts i)

abbrev pub spelling_of : List ℕ → ImageParts → List ℕ
spelling_of ns i = codes "CVMI" ++ (flat_map word ns ++ behind i)

module _ (IsFit : ImageParts → Type 0) (read : List ℕ → Result ImageParts ImageFault) (head : List ℕ → Found) (reads : Reads IsFit read head) (ns : List ℕ) (i : ImageParts) (h : Headed IsFit head ns i) where
  header_fails : (bytes : List ℕ) (e : ImageFault) → head bytes ≡ Err e → read bytes ≡ Err e
  header_fails bytes e is = reads.by bytes (Err e) is

  parts_fail : (rest : List ℕ) (e : ImageFault) → parts_of h.header (map length i.users) rest ≡ Err e → read (marked ns rest) ≡ Err e
  parts_fail rest e is = reads.by (marked ns rest) (Ok (h.header, (map length i.users, rest))) (h.is rest) ∙ answered_parts h.header (map length i.users) rest (Err e) is

  cut_field : (j : ℕ) (left : List ℕ) → j < length ns → length left < 4 → read (concat (take (suc j) (pieces_of ns i)) ++ left) ≡ Err (Truncated (length (concat (take (suc j) (pieces_of ns i)))))
  cut_field j left lt short =
      let front : List ℕ = flat_map word (take j ns) in
      let is : concat (take j (map word ns ++ parts i)) ≡ front = fields_front ns (parts i) j (omega (arith, lt)) in
      truncated_at (4 * suc j) (length (concat (take (suc j) (pieces_of ns i))))
      (ap (λ (l : List ℕ). read (codes "CVMI" ++ (l ++ left))) is ∙ ap (λ (l : List ℕ). read (codes "CVMI" ++ l)) (words-onto (take j ns) left)
      ∙ header_fails (marked (take j ns) left) (Truncated (4 * suc j)) (h.short j left lt short))
      (omega (arith, ap length is, length-words (take j ns), length-take-le j ns (omega (arith, lt))))

  cut_part : (j m : ℕ) (left : List ℕ) → m ≡ length ns + j → length left < length (get_or (map word ns ++ parts i) m []) → read (concat (take (suc m) (pieces_of ns i)) ++ left) ≡ Err (Truncated (length (concat (take (suc m) (pieces_of ns i)))))
  cut_part j m left at short =
      let front : List ℕ = concat (take j (parts i)) in
      let is : concat (take m (map word ns ++ parts i)) ≡ flat_map word ns ++ front = parts_front ns (parts i) j m at in
      let few : length left < length (get_or (parts i) j []) = omega (arith, short, ap length (part_piece ns (parts i) j m at)) in
      truncated_at (h.header.parts_at + length front) (length (concat (take (suc m) (pieces_of ns i))))
      (ap (λ (l : List ℕ). read (codes "CVMI" ++ (l ++ left))) is ∙ ap (λ (l : List ℕ). read (codes "CVMI" ++ l)) (append_assoc (flat_map word ns) front left ∙ words-onto ns (front ++ left))
      ∙ parts_fail (front ++ left) (Truncated (h.header.parts_at + length front)) (parts_stop h.header i h.sized j left few))
      (omega (arith, ap length is, length-append (flat_map word ns) front, length-words ns, h.position))

  pub cut_so : (whole : ℕ) (left : List ℕ) → length left < length (get_or (pieces_of ns i) whole []) → read (concat (take whole (pieces_of ns i)) ++ left) ≡ Err (Truncated (length (concat (take whole (pieces_of ns i)))))
  cut_so zero left short = header_fails left (Truncated 0) (reads.mark_short left short)
  cut_so (suc m) left short =
      elim (cases_lt m (length ns)) [
        | inl lt ↦ cut_field m left lt (omega (arith, short, field_piece ns (parts i) m lt))
        | inr ge ↦ cut_part (m - length ns) m left (omega (arith, ge)) short
      ]

  pub wrong_so : (before : ℕ) (left : List ℕ) (value : ℕ) → before < length ns → value < 2 ^ 32 → ((other : ImageParts) → IsFit other → take (suc before) (fields other) ≢ take before ns ++ value ∷ []) → read (codes "CVMI" ++ (flat_map word (take before ns) ++ (word value ++ left))) ≡ Err (Parameter (suc before) value)
  wrong_so before left value lt small none =
      let many : length (take before ns) ≡ before = length-take-le before ns (omega (arith, lt)) in
      ap (λ (l : List ℕ). read (codes "CVMI" ++ l)) (words-onto (take before ns) (word value ++ left))
      ∙ header_fails _ _ (h.out before left value lt small (λ other fit is. none other fit (ap (λ (k : ℕ). take (suc k) (fields other)) (sym many) ∙ is)))

  pub go_so : (left : List ℕ) → 0 < length left → read (spelling_of ns i ++ left) ≡ Err (Trailing (length (spelling_of ns i)))
  go_so left more =
      let at : h.header.parts_at + length (behind i) ≡ length (spelling_of ns i) = omega (arith, h.position, length-append (flat_map word ns) (behind i), length-words ns) in
      ap (λ (l : List ℕ). read (codes "CVMI" ++ l)) (append_assoc (flat_map word ns) (behind i) left ∙ words-onto ns (behind i ++ left))
      ∙ parts_fail (behind i ++ left) (Trailing (h.header.parts_at + length (behind i))) (parts_go h.header i h.sized left more)
      ∙ ap (λ (n : ℕ). Err (Trailing n)) at

-- ---- a system

room_of : (u : ℕ) (ns : List ℕ) (j : ℕ) → length ns ≡ 6 + u → j < length (u ∷ ns) → length (take j (u ∷ ns)) < 7 + get_or (take j (u ∷ ns)) 0 0
room_of u ns zero many lt = omega arith
room_of u ns (suc j) many lt = omega (arith, many, lt, length-take-le j ns (omega (arith, lt)))

room_more : (u : ℕ) (ns : List ℕ) (j value : ℕ) → length ns ≡ 6 + u → j < length (u ∷ ns) → length (take j (u ∷ ns) ++ value ∷ []) ≤ 7 + get_or (take j (u ∷ ns) ++ value ∷ []) 0 0
room_more u ns zero value many lt = omega arith
room_more u ns (suc j) value many lt = omega (arith, many, lt, length-append (take j ns) (value ∷ []), length-take-le j ns (omega (arith, lt)))

module _ (IsFit : ImageParts → Type 0) (read : List ℕ → Result ImageParts ImageFault) (head : List ℕ → Found) (reads : Reads IsFit read head) (form mu mp : ℕ) (limits : Limits IsFit form mu mp) (goes : (rest : List ℕ) (r : Found) → system_at form mu mp rest ≡ r → head (codes "CVMI" ++ (word form ++ rest)) ≡ r) (p : Params) (source words : List ℕ) (us : List (List ℕ)) (s : Fits mu mp p source words us) where
  abbrev tail : List ℕ
  tail = behind_form p source words us

  many : length tail ≡ 7 + length us
  many = omega (arith, length-map us length)

  right : Right mu mp [] tail
  right = fits_right mu mp p source words us s

  short : (j : ℕ) (left : List ℕ) → j < length (form ∷ tail) → length left < 4 → head (marked (take j (form ∷ tail)) left) ≡ Err (Truncated (4 * suc j))
  short zero left lt few = reads.form_short left few
  short (suc j) left lt few =
      let first : List ℕ = take j tail in
      let counted : length first ≡ j = length-take-le j tail (omega (arith, lt)) in
      truncated_at (4 * (2 + length first)) (4 * suc (suc j))
      (goes (onto first left) _ (system_stop form mu mp limits.users limits.pages first left (Truncated (4 * (2 + length first))) (right_take mu mp [] tail j right) (room_of (length us) _ j (omega (arith, many)) (omega (arith, lt))) (number_short (2 + length first) _ _ left few)))
      (omega (arith, counted))

  none_follows : (j value : ℕ) → j < length tail → NoneHas IsFit (form ∷ take j tail) value → least_behind (take j tail) ≤ value → value ≤ most_behind mu mp (take j tail) → ⊥
  none_follows j value lt none low high =
      let first : List ℕ = take j tail in
      let b : Begun IsFit form (first ++ value ∷ []) = begun IsFit form mu mp limits (first ++ value ∷ []) (right_more mu mp [] first value (right_take mu mp [] tail j right) (low, high)) (room_more (length us) _ j value (omega (arith, many)) lt) in
      none b.example.image b.example.fit (ap (take (suc (suc (length first)))) b.example.is ∙ ap (λ (l : List ℕ). form ∷ l) (take_at (first ++ value ∷ []) b.rest (suc (length first)) (omega (arith, length-append first (value ∷ [])))))

  is_out : (j value : ℕ) → j < length tail → NoneHas IsFit (form ∷ take j tail) value → (ltb value (least_behind (take j tail)) || ltb (most_behind mu mp (take j tail)) value) ≡ true
  is_out j value lt none =
      let least : ℕ = least_behind (take j tail) in
      let most : ℕ = most_behind mu mp (take j tail) in
      elim (cases_lt value least) [
        | inl under ↦ or_left (ltb value least) (ltb most value) (lt-ltb value least under)
        | inr low ↦ elim (cases_lt most value) [ inl over ↦ or_right (ltb value least) (ltb most value) (lt-ltb most value over) | inr high ↦ absurd (none_follows j value lt none low high) ]
      ]

  out : (j : ℕ) (left : List ℕ) (value : ℕ) → j < length (form ∷ tail) → value < 2 ^ 32 → NoneHas IsFit (take j (form ∷ tail)) value → head (marked (take j (form ∷ tail)) (word value ++ left)) ≡ Err (Parameter (suc j) value)
  out zero left value lt small none = reads.form_out value left small none
  out (suc j) left value lt small none =
      let first : List ℕ = take j tail in
      let counted : length first ≡ j = length-take-le j tail (omega (arith, lt)) in
      goes (onto first (word value ++ left)) _ (system_stop form mu mp limits.users limits.pages first (word value ++ left) (Parameter (2 + length first) value) (right_take mu mp [] tail j right) (room_of (length us) _ j (omega (arith, many)) (omega (arith, lt))) (number_out (2 + length first) _ _ value left small (is_out j value (omega (arith, lt)) none)))
      ∙ ap (λ (n : ℕ). Err (Parameter n value)) (omega (arith, counted))

  pub system_headed : Headed IsFit head (form ∷ tail) (system form p source words us)
  system_headed =
      let counts : List ℕ = map length us in
      let counted : length counts ≡ length us = length-map us length in
      record {
        header = record { form = form; params = p; source_length = length source; word_count = length words; parts_at = 36 + 4 * length counts };
        sized = record { source = refl; words = refl };
        position = omega arith;
        is =
            λ rest.
            let behind_users : List ℕ → List ℕ = λ m. codes "CVMI" ++ (word form ++ (m ++ onto (p.pages ∷ p.frames ∷ p.heap ∷ p.stack ∷ length source ∷ length words ∷ counts) rest)) in
            ap (λ (n : ℕ). head (behind_users (word n))) (sym counted)
            ∙ goes _ _ (system_whole form mu mp p (length source) (length words) counts rest limits.users s.params s.pages s.source s.least s.most (omega (arith, counted, s.few)) (sizes_of (most_user_words p.pages) us (recursion_from_All (λ (u : List ℕ). length u ≤ most_user_words p.pages) us s.sizes)));
        short = short;
        out = out;
      }
