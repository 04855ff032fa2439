-- The two readings, of form 1 or 3 and of form 2: what is so of bytes is what each of them answers.
use Rattle.std.proofs.Common.{◌≡◌, ◌≢◌, ℕ, zero, suc, ◌*◌, ◌^◌, ◌<◌, ◌≤◌, true, ltb, ◌||◌, List, [], ◌∷◌, ◌++◌, length, get_or, take, replicate, Result, Ok, Err, inl, inr, refl, sym, ap, subst, ◌∙◌, arith}
use Rattle.std.specs.Prelude.{codes}
use Rattle.std.specs.Str.{bytes_eq}
use Rattle.std.specs.List.{concat, flat_map}
use Rattle.std.proofs.lemmas.Bool.{lt-ltb, le-ltb, false_from_ne_true, cond-true, cond-false, cases_lt, or_right}
use Rattle.std.proofs.lemmas.List.{length-replicate}
use Rattle.std.proofs.lemmas.List.Elements.{All-from_recursion}
use Rattle.std.proofs.lemmas.Slice.Eq.{bytes_eq-Decides}
use Rattle.layer_map.specs.declared.params.Params.{Params}
use Rattle.boot_image.specs.declared.fault.ImageFault.{ImageFault}
use Rattle.boot_image.specs.declared.fault.ImageFault.TheVariants.{Magic, Truncated, Trailing, Parameter, Memory}
use Rattle.boot_image.specs.Parts.{ImageParts}
use Rattle.boot_image.specs.Format.{fields, spelling, bare_params, AreWords, IsOldSystem, IsInRange, IsOldInRange}
use Rattle.boot_image.specs.Answer.{pieces, IsImageAnswer}
use Rattle.boot_image.specs.Reading.{mark_at, form_at, bare_at, header_of, old_header_of, answer, old_answer}
use Rattle.cvm_words.specs.Bytes.{word}
use Rattle.boot_image.proofs.AnswersByFound.{Found, answer_by, old_answer_by}
use Rattle.boot_image.proofs.SpellingIsAnswered.{step, mark_whole, form_one, form_two, bare_whole, bare, bare_same, system, system_same, Fits, header_three, header_two, read_back, old_read_back}
use Rattle.boot_image.proofs.AnsweredIsSpelling.{number_short, number_out}
use Rattle.boot_image.proofs.FieldsInRange.{behind_form, Begun, Limits, begun}
use Rattle.boot_image.proofs.StopsAtFault.{stop}
use Rattle.boot_image.proofs.OneAnswer.{NoneHas, marked, Reads, Headed, cut_so, wrong_so, go_so, system_headed}

-- ---- the mark

mark_short : (bytes : List ℕ) → length bytes < 4 → mark_at bytes ≡ Err (Truncated 0)
unfolding mark_at
mark_short bytes short = cond-true (ltb (length bytes) 4) _ _ (lt-ltb (length bytes) 4 short)

mark_other : (bytes : List ℕ) → 4 ≤ length bytes → take 4 bytes ≢ codes "CVMI" → mark_at bytes ≡ Err Magic
unfolding mark_at
mark_other bytes long other =
    cond-false (ltb (length bytes) 4) _ _ (le-ltb (length bytes) 4 long)
    ∙ cond-false (bytes_eq (take 4 bytes) (codes "CVMI")) _ _ (false_from_ne_true (bytes_eq (take 4 bytes) (codes "CVMI")) (λ same. other ((bytes_eq-Decides (take 4 bytes) (codes "CVMI")).0 same)))

header_mark_short : (bytes : List ℕ) → length bytes < 4 → header_of bytes ≡ Err (Truncated 0)
unfolding header_of
header_mark_short bytes short = stop _ (mark_short bytes short)

header_mark_other : (bytes : List ℕ) → 4 ≤ length bytes → take 4 bytes ≢ codes "CVMI" → header_of bytes ≡ Err Magic
unfolding header_of
header_mark_other bytes long other = stop _ (mark_other bytes long other)

old_mark_short : (bytes : List ℕ) → length bytes < 4 → old_header_of bytes ≡ Err (Truncated 0)
unfolding old_header_of
old_mark_short bytes short = stop _ (mark_short bytes short)

old_mark_other : (bytes : List ℕ) → 4 ≤ length bytes → take 4 bytes ≢ codes "CVMI" → old_header_of bytes ≡ Err Magic
unfolding old_header_of
old_mark_other bytes long other = stop _ (mark_other bytes long other)

-- ---- the form

pub bare_fit : (source : List ℕ) → length source ≤ 1048576 → IsInRange (bare source)
bare_fit source few = record {
  spelled = record { source = few; form = inl (record { form = refl; params = refl; words = refl; users = refl }) };
  bits = All-from_recursion (λ w. w < 2 ^ 32) [] tt;
  user_bits = All-from_recursion AreWords [] tt;
}

three_fit : (p : Params) (source words : List ℕ) (us : List (List ℕ)) → Fits 64 1024 p source words us → IsInRange (system 3 p source words us)
three_fit p source words us s = record {
  spelled = record { source = s.source; form = inr (record { form = refl; params = s.params; least = s.least; most = s.most; users = s.few; sizes = s.sizes }) };
  bits = s.bits;
  user_bits = s.user_bits;
}

two_fit : (p : Params) (source words : List ℕ) (us : List (List ℕ)) → Fits 16 256 p source words us → IsOldInRange (system 2 p source words us)
two_fit p source words us s = record {
  spelled = record { source = s.source; system = record { form = refl; params = s.params; pages = s.pages; least = s.least; most = s.most; users = s.few; sizes = s.sizes } };
  bits = s.bits;
  user_bits = s.user_bits;
}

pub limits : Limits IsInRange 3 64 1024
limits = record { other = refl; users = omega arith; a_page = omega arith; pages = omega arith; fit = three_fit }

pub old_limits : Limits IsOldInRange 2 16 256
old_limits = record { other = refl; users = omega arith; a_page = omega arith; pages = omega arith; fit = two_fit }

-- a form that an image has is none that no image has
has_form : (IsFit : ImageParts → Type 0) (form mu mp : ℕ) → Limits IsFit form mu mp → NoneHas IsFit [] form → ⊥
has_form IsFit form mu mp l none =
    let b : Begun IsFit form [] = begun IsFit form mu mp l [] tt (omega arith) in
    none b.example.image b.example.fit (ap (take 1) b.example.is)

form_short : (left : List ℕ) → length left < 4 → header_of (codes "CVMI" ++ left) ≡ Err (Truncated 4)
unfolding header_of form_at
form_short left short = step _ (mark_whole (codes "CVMI") _ refl refl) (stop _ (stop _ (number_short 1 1 3 left short)))

form_other : (value : ℕ) (left : List ℕ) → value < 2 ^ 32 → NoneHas IsInRange [] value → form_at (word value ++ left) ≡ Err (Parameter 1 value)
unfolding form_at
form_other zero left small none = stop _ (number_out 1 1 3 0 left small refl)
form_other (suc zero) left small none = absurd (none (bare []) (bare_fit [] (omega arith)) refl)
form_other (suc (suc zero)) left small none = form_two left
form_other (suc (suc (suc zero))) left small none = absurd (has_form IsInRange 3 64 1024 limits none)
form_other (suc (suc (suc (suc n)))) left small none =
    let value : ℕ = suc (suc (suc (suc n))) in
    stop _ (number_out 1 1 3 value left small (or_right (ltb value 1) (ltb 3 value) (lt-ltb 3 value (omega arith))))

form_out : (value : ℕ) (left : List ℕ) → value < 2 ^ 32 → NoneHas IsInRange [] value → header_of (codes "CVMI" ++ (word value ++ left)) ≡ Err (Parameter 1 value)
unfolding header_of
form_out value left small none = step _ (mark_whole (codes "CVMI") _ refl refl) (stop _ (form_other value left small none))

old_form_short : (left : List ℕ) → length left < 4 → old_header_of (codes "CVMI" ++ left) ≡ Err (Truncated 4)
unfolding old_header_of
old_form_short left short = step _ (mark_whole (codes "CVMI") _ refl refl) (stop _ (number_short 1 2 2 left short))

not_two : (value : ℕ) → NoneHas IsOldInRange [] value → (ltb value 2 || ltb 2 value) ≡ true
not_two zero none = refl
not_two (suc zero) none = refl
not_two (suc (suc zero)) none = absurd (has_form IsOldInRange 2 16 256 old_limits none)
not_two (suc (suc (suc n))) none = let value : ℕ = suc (suc (suc n)) in or_right (ltb value 2) (ltb 2 value) (lt-ltb 2 value (omega arith))

old_form_out : (value : ℕ) (left : List ℕ) → value < 2 ^ 32 → NoneHas IsOldInRange [] value → old_header_of (codes "CVMI" ++ (word value ++ left)) ≡ Err (Parameter 1 value)
unfolding old_header_of
old_form_out value left small none = step _ (mark_whole (codes "CVMI") _ refl refl) (stop _ (number_out 1 2 2 value left small (not_two value none)))

reads : Reads IsInRange answer header_of
reads = record { by = answer_by; mark_short = header_mark_short; mark_other = header_mark_other; form_short = form_short; form_out = form_out }

old_reads : Reads IsOldInRange old_answer old_header_of
old_reads = record { by = old_answer_by; mark_short = old_mark_short; mark_other = old_mark_other; form_short = old_form_short; form_out = old_form_out }

-- ---- a source alone

text_short : (left : List ℕ) → length left < 4 → header_of (codes "CVMI" ++ (word 1 ++ left)) ≡ Err (Truncated 8)
unfolding header_of bare_at
text_short left short = step _ (mark_whole (codes "CVMI") _ refl refl) (step _ (form_one _) (stop _ (number_short 2 0 1048576 left short)))

text_out : (value : ℕ) (left : List ℕ) → value < 2 ^ 32 → 1048576 < value → header_of (codes "CVMI" ++ (word 1 ++ (word value ++ left))) ≡ Err (Parameter 2 value)
unfolding header_of bare_at
text_out value left small many =
    step _ (mark_whole (codes "CVMI") _ refl refl)
    (step _ (form_one _) (stop _ (number_out 2 0 1048576 value left small (or_right (ltb value 0) (ltb 1048576 value) (lt-ltb 1048576 value many)))))

module _ (source : List ℕ) (few : length source ≤ 1048576) where
  short : (j : ℕ) (left : List ℕ) → j < 2 → length left < 4 → header_of (marked (take j (1 ∷ length source ∷ [])) left) ≡ Err (Truncated (4 * suc j))
  short zero left lt less = form_short left less
  short (suc zero) left lt less = text_short left less
  short (suc (suc j)) left lt less = absurd (omega (arith, lt))

  out : (j : ℕ) (left : List ℕ) (value : ℕ) → j < 2 → value < 2 ^ 32 → NoneHas IsInRange (take j (1 ∷ length source ∷ [])) value → header_of (marked (take j (1 ∷ length source ∷ [])) (word value ++ left)) ≡ Err (Parameter (suc j) value)
  out zero left value lt small none = form_out value left small none
  out (suc zero) left value lt small none =
      elim (cases_lt 1048576 value) [
        | inl many ↦ text_out value left small many
        | inr less ↦
            let text : List ℕ = replicate value 0 in
            let size : length text ≡ value = length-replicate {A = ℕ} value 0 in
            absurd (none (bare text) (bare_fit text (omega (arith, size, less))) (ap (λ (n : ℕ). 1 ∷ n ∷ []) size))
      ]
  out (suc (suc j)) left value lt small none = absurd (omega (arith, lt))

  bare_headed : Headed IsInRange header_of (1 ∷ length source ∷ []) (bare source)
  bare_headed = record {
    header = record { form = 1; params = bare_params; source_length = length source; word_count = 0; parts_at = 12 };
    sized = record { source = refl; words = refl };
    position = refl;
    is = λ rest. bare_whole (length source) rest few;
    short = short;
    out = out;
  }

-- ---- all images

-- what is so of bytes that begin as an image is answered
record IsSo (IsFit : ImageParts → Type 0) (read : List ℕ → Result ImageParts ImageFault) (i : ImageParts) : Type 0 where
  cut : (whole : ℕ) (left : List ℕ) → length left < length (get_or (pieces i) whole []) → read (concat (take whole (pieces i)) ++ left) ≡ Err (Truncated (length (concat (take whole (pieces i)))))
  wrong : (before : ℕ) (left : List ℕ) (value : ℕ) → before < length (fields i) → value < 2 ^ 32 → ((other : ImageParts) → IsFit other → take (suc before) (fields other) ≢ take before (fields i) ++ value ∷ []) → read (codes "CVMI" ++ (flat_map word (take before (fields i)) ++ (word value ++ left))) ≡ Err (Parameter (suc before) value)
  go : (left : List ℕ) → 0 < length left → read (spelling i ++ left) ≡ Err (Trailing (length (spelling i)))

bare_so : (source : List ℕ) → length source ≤ 1048576 → IsSo IsInRange answer (bare source)
bare_so source few =
    let ns : List ℕ = 1 ∷ length source ∷ [] in
    let h : Headed IsInRange header_of ns (bare source) = bare_headed source few in
    record {
      cut = cut_so IsInRange answer header_of reads ns (bare source) h;
      wrong = wrong_so IsInRange answer header_of reads ns (bare source) h;
      go = go_so IsInRange answer header_of reads ns (bare source) h;
    }

three_so : (p : Params) (source words : List ℕ) (us : List (List ℕ)) → Fits 64 1024 p source words us → IsSo IsInRange answer (system 3 p source words us)
three_so p source words us s =
    let ns : List ℕ = 3 ∷ behind_form p source words us in
    let i : ImageParts = system 3 p source words us in
    let h : Headed IsInRange header_of ns i = system_headed IsInRange answer header_of reads 3 64 1024 limits header_three p source words us s in
    record {
      cut = cut_so IsInRange answer header_of reads ns i h;
      wrong = wrong_so IsInRange answer header_of reads ns i h;
      go = go_so IsInRange answer header_of reads ns i h;
    }

two_so : (p : Params) (source words : List ℕ) (us : List (List ℕ)) → Fits 16 256 p source words us → IsSo IsOldInRange old_answer (system 2 p source words us)
two_so p source words us s =
    let ns : List ℕ = 2 ∷ behind_form p source words us in
    let i : ImageParts = system 2 p source words us in
    let h : Headed IsOldInRange old_header_of ns i = system_headed IsOldInRange old_answer old_header_of old_reads 2 16 256 old_limits header_two p source words us s in
    record {
      cut = cut_so IsOldInRange old_answer old_header_of old_reads ns i h;
      wrong = wrong_so IsOldInRange old_answer old_header_of old_reads ns i h;
      go = go_so IsOldInRange old_answer old_header_of old_reads ns i h;
    }

all_so : (i : ImageParts) → IsInRange i → IsSo IsInRange answer i
all_so i fits =
    elim fits.spelled.form [
      | inl b ↦ subst (IsSo IsInRange answer) (sym (bare_same i b)) (bare_so i.source fits.spelled.source)
      | inr s ↦
          let all : Fits 64 1024 i.params i.source i.words i.users = record { params = s.params; pages = s.params.pages; least = s.least; most = s.most; few = s.users; sizes = s.sizes; source = fits.spelled.source; bits = fits.bits; user_bits = fits.user_bits } in
          subst (IsSo IsInRange answer) (sym (system_same 3 i s.form)) (three_so i.params i.source i.words i.users all)
    ]

old_all_so : (i : ImageParts) → IsOldInRange i → IsSo IsOldInRange old_answer i
old_all_so i fits =
    let s : IsOldSystem i = fits.spelled.system in
    let all : Fits 16 256 i.params i.source i.words i.users = record { params = s.params; pages = s.pages; least = s.least; most = s.most; few = s.users; sizes = s.sizes; source = fits.spelled.source; bits = fits.bits; user_bits = fits.user_bits } in
    subst (IsSo IsOldInRange old_answer) (sym (system_same 2 i s.form)) (two_so i.params i.source i.words i.users all)

module _ (IsFit : ImageParts → Type 0) (read : List ℕ → Result ImageParts ImageFault) (head : List ℕ → Found) (by : Reads IsFit read head) (back : (i : ImageParts) → IsFit i → read (spelling i) ≡ Ok i) (so : (i : ImageParts) → IsFit i → IsSo IsFit read i) where
  -- what is so of bytes is answered
  is_read : (bytes : List ℕ) (r : Result ImageParts ImageFault) → IsImageAnswer IsFit bytes r → read bytes ≡ r
  is_read bytes (Ok i) is = ap read is.1 ∙ back i is.0
  is_read bytes (Err Magic) is = by.by bytes (Err Magic) (by.mark_other bytes is.0 is.1)
  is_read bytes (Err (Truncated at)) is = ap read is.spelled ∙ (so is.image is.fit).cut is.whole is.left is.short ∙ ap (λ (n : ℕ). Err (Truncated n)) (sym is.position)
  is_read bytes (Err (Parameter which value)) is = ap read is.spelled ∙ (so is.image is.fit).wrong is.before is.left value is.field is.bits is.wrong ∙ ap (λ (n : ℕ). Err (Parameter n value)) (sym is.position)
  is_read bytes (Err (Trailing at)) is = ap read is.spelled ∙ (so is.image is.fit).go is.left is.more ∙ ap (λ (n : ℕ). Err (Trailing n)) (sym is.position)
  is_read bytes (Err Memory) is = absurd is

pub answer_only : (bytes : List ℕ) (r : Result ImageParts ImageFault) → IsImageAnswer IsInRange bytes r → answer bytes ≡ r
answer_only = is_read IsInRange answer header_of reads read_back all_so

pub old_answer_only : (bytes : List ℕ) (r : Result ImageParts ImageFault) → IsImageAnswer IsOldInRange bytes r → old_answer bytes ≡ r
old_answer_only = is_read IsOldInRange old_answer old_header_of old_reads old_read_back old_all_so
