-- What each step of the reading makes of bytes that begin as an object does: it goes on behind a field that is as it is to be, and
-- stops with the field's fault otherwise.
use Rattle.std.proofs.Common.{◌≡◌, ◌≢◌, ℕ, ◌+◌, ◌*◌, ◌^◌, ◌<◌, ◌≤◌, true, false, ltb, ◌||◌, List, ◌++◌, length, take, Result, Ok, Err, inl, inr, refl, ap, ◌∙◌, arith}
use Rattle.std.specs.Prelude.{codes}
use Rattle.std.specs.Str.{bytes_eq}
use Rattle.std.proofs.lemmas.Bool.{lt-ltb, le-ltb, false_from_ne_true, cond-true, cond-false, cases_order, or_left, or_from, or_right}
use Rattle.std.proofs.lemmas.List.{take_at, drop_at, length-append}
use Rattle.std.proofs.lemmas.Slice.Eq.{bytes_eq-Decides}
use Rattle.object_file.specs.declared.fault.ObjectFault.{ObjectFault}
use Rattle.object_file.specs.declared.fault.ObjectFault.TheVariants.{Magic, Truncated, Trailing, Field}
use Rattle.cvm_words.specs.Bytes.{word}
use Rattle.cvm_words.specs.Reading.{◌>>=◌}
use Rattle.object_file.specs.Reading.{mark_at, number_at, parts_at, header_of}
use Rattle.cvm_words.proofs.BytesOfWords.{length-word, number-word}

-- the two parts, or a fault
abbrev pub Header : Type 0
Header = Result (List ℕ × List ℕ) ObjectFault

abbrev pub failed : ObjectFault → Header
failed fault = Err fault

-- what is left to read behind the mark, behind the form, and behind the source's length
abbrev pub behind_length : ℕ → List ℕ → Header
behind_length n rest = number_at 12 0 4177920 rest >>= λ k. parts_at n k.0 k.1

abbrev pub behind_form : List ℕ → Header
behind_form rest = number_at 8 0 1048576 rest >>= λ n. behind_length n.0 n.1

abbrev pub behind_mark : List ℕ → Header
behind_mark rest = number_at 4 1 1 rest >>= λ form. behind_form form.1

-- ---- the mark

mark_short : (bytes : List ℕ) → length bytes < 4 → mark_at bytes ≡ Err (Truncated 0)
unfolding mark_at
mark_short bytes short = cond-true (ltb (length bytes) 4) _ _ (lt-ltb (length bytes) 4 short)

mark_other : (bytes : List ℕ) → 4 ≤ length bytes → take 4 bytes ≢ codes "CVMO" → mark_at bytes ≡ Err Magic
unfolding mark_at
mark_other bytes long other =
    cond-false (ltb (length bytes) 4) _ _ (le-ltb (length bytes) 4 long)
    ∙ cond-false (bytes_eq (take 4 bytes) (codes "CVMO")) _ _ (false_from_ne_true (bytes_eq (take 4 bytes) (codes "CVMO")) (λ same. other ((bytes_eq-Decides (take 4 bytes) (codes "CVMO")).0 same)))

mark_whole : (mark rest : List ℕ) → length mark ≡ 4 → mark ≡ codes "CVMO" → mark_at (mark ++ rest) ≡ Ok rest
unfolding mark_at
mark_whole mark rest four is =
    let long : ltb (length (mark ++ rest)) 4 ≡ false = le-ltb _ _ (omega (arith, length-append mark rest)) in
    let same : bytes_eq mark (codes "CVMO") ≡ true = (bytes_eq-Decides mark (codes "CVMO")).1 is in
    rw (long, take_at mark rest 4 four, drop_at mark rest 4 four, same) refl

-- ---- a field

number_short : (at least most : ℕ) (bytes : List ℕ) → length bytes < 4 → number_at at least most bytes ≡ Err (Truncated at)
unfolding number_at
number_short at least most bytes short = cond-true (ltb (length bytes) 4) _ _ (lt-ltb (length bytes) 4 short)

number_whole : (at least most n : ℕ) (rest : List ℕ) → n < 2 ^ 32 → least ≤ n → n ≤ most → number_at at least most (word n ++ rest) ≡ Ok (n, rest)
unfolding number_at
number_whole at least most n rest small low high =
    let long : ltb (length (word n ++ rest)) 4 ≡ false = le-ltb _ _ (omega (arith, length-append (word n) rest, length-word n)) in
    let fits : (ltb n least || ltb most n) ≡ false = or_from (ltb n least) (ltb most n) (le-ltb n least low) (le-ltb most n high) in
    rw (long, number-word n rest small, drop_at (word n) rest 4 (length-word n), fits) refl

number_out : (at least most n : ℕ) (rest : List ℕ) → n < 2 ^ 32 → (ltb n least || ltb most n) ≡ true → number_at at least most (word n ++ rest) ≡ Err (Field at n)
unfolding number_at
number_out at least most n rest small out =
    let long : ltb (length (word n ++ rest)) 4 ≡ false = le-ltb _ _ (omega (arith, length-append (word n) rest, length-word n)) in
    rw (long, number-word n rest small, out) refl

-- ---- the fields one after another

pub header_short : (bytes : List ℕ) → length bytes < 4 → header_of bytes ≡ failed (Truncated 0)
unfolding header_of
header_short bytes short = ap (λ (r : Result (List ℕ) ObjectFault). r >>= behind_mark) (mark_short bytes short)

pub header_other : (bytes : List ℕ) → 4 ≤ length bytes → take 4 bytes ≢ codes "CVMO" → header_of bytes ≡ failed Magic
unfolding header_of
header_other bytes long other = ap (λ (r : Result (List ℕ) ObjectFault). r >>= behind_mark) (mark_other bytes long other)

pub header_mark : (rest : List ℕ) → header_of (codes "CVMO" ++ rest) ≡ behind_mark rest
unfolding header_of
header_mark rest = ap (λ (r : Result (List ℕ) ObjectFault). r >>= behind_mark) (mark_whole (codes "CVMO") rest refl refl)

-- a number was read, and what is left is read by it
abbrev then_form : Result (ℕ × List ℕ) ObjectFault → Header
then_form r = r >>= λ form. behind_form form.1

abbrev then_length : Result (ℕ × List ℕ) ObjectFault → Header
then_length r = r >>= λ n. behind_length n.0 n.1

abbrev then_count : ℕ → Result (ℕ × List ℕ) ObjectFault → Header
then_count n r = r >>= λ k. parts_at n k.0 k.1

pub form_short : (bytes : List ℕ) → length bytes < 4 → behind_mark bytes ≡ failed (Truncated 4)
form_short bytes short = ap then_form (number_short 4 1 1 bytes short)

pub form_whole : (rest : List ℕ) → behind_mark (word 1 ++ rest) ≡ behind_form rest
form_whole rest = ap then_form (number_whole 4 1 1 1 rest (omega arith) (omega arith) (omega arith))

not_one : (n : ℕ) → n ≢ 1 → (ltb n 1 || ltb 1 n) ≡ true
not_one n other =
    elim (cases_order n 1) [
      | inl same ↦ absurd (other same)
      | inr apart ↦ elim apart [ inl low ↦ or_left (ltb n 1) (ltb 1 n) (lt-ltb n 1 low) | inr high ↦ or_right (ltb n 1) (ltb 1 n) (lt-ltb 1 n high) ]
    ]

pub form_out : (n : ℕ) (rest : List ℕ) → n < 2 ^ 32 → n ≢ 1 → behind_mark (word n ++ rest) ≡ failed (Field 4 n)
form_out n rest small other = ap then_form (number_out 4 1 1 n rest small (not_one n other))

pub length_short : (bytes : List ℕ) → length bytes < 4 → behind_form bytes ≡ failed (Truncated 8)
length_short bytes short = ap then_length (number_short 8 0 1048576 bytes short)

pub length_whole : (n : ℕ) (rest : List ℕ) → n ≤ 1048576 → behind_form (word n ++ rest) ≡ behind_length n rest
length_whole n rest few = ap then_length (number_whole 8 0 1048576 n rest (omega arith) (omega arith) few)

pub length_out : (n : ℕ) (rest : List ℕ) → n < 2 ^ 32 → 1048576 < n → behind_form (word n ++ rest) ≡ failed (Field 8 n)
length_out n rest small many = ap then_length (number_out 8 0 1048576 n rest small (or_right (ltb n 0) (ltb 1048576 n) (lt-ltb 1048576 n many)))

pub count_short : (n : ℕ) (bytes : List ℕ) → length bytes < 4 → behind_length n bytes ≡ failed (Truncated 12)
count_short n bytes short = ap (then_count n) (number_short 12 0 4177920 bytes short)

pub count_whole : (n k : ℕ) (rest : List ℕ) → k ≤ 4177920 → behind_length n (word k ++ rest) ≡ parts_at n k rest
count_whole n k rest few = ap (then_count n) (number_whole 12 0 4177920 k rest (omega arith) (omega arith) few)

pub count_out : (n k : ℕ) (rest : List ℕ) → k < 2 ^ 32 → 4177920 < k → behind_length n (word k ++ rest) ≡ failed (Field 12 k)
count_out n k rest small many = ap (then_count n) (number_out 12 0 4177920 k rest small (or_right (ltb k 0) (ltb 4177920 k) (lt-ltb 4177920 k many)))

-- ---- the two parts

pub source_short : (n k : ℕ) (bytes : List ℕ) → length bytes < n → parts_at n k bytes ≡ failed (Truncated 16)
unfolding parts_at
source_short n k bytes short = cond-true (ltb (length bytes) n) _ _ (lt-ltb (length bytes) n short)

pub words_short : (k : ℕ) (source bytes : List ℕ) → length bytes < 4 * k → parts_at (length source) k (source ++ bytes) ≡ failed (Truncated (16 + length source))
unfolding parts_at
words_short k source bytes short =
    let long : ltb (length (source ++ bytes)) (length source) ≡ false = le-ltb _ _ (omega (arith, length-append source bytes)) in
    let cut : ltb (length bytes) (4 * k) ≡ true = lt-ltb _ _ short in
    rw (long, drop_at source bytes (length source) refl, cut) refl

pub parts_go_on : (k : ℕ) (source words left : List ℕ) → length words ≡ 4 * k → 0 < length left → parts_at (length source) k (source ++ (words ++ left)) ≡ failed (Trailing (16 + length source + 4 * k))
unfolding parts_at
parts_go_on k source words left even more =
    let size : length (words ++ left) ≡ length words + length left = length-append words left in
    let long : ltb (length (source ++ (words ++ left))) (length source) ≡ false = le-ltb _ _ (omega (arith, length-append source (words ++ left))) in
    let whole : ltb (length (words ++ left)) (4 * k) ≡ false = le-ltb _ _ (omega arith) in
    let on : ltb (4 * k) (length (words ++ left)) ≡ true = lt-ltb _ _ (omega arith) in
    rw (long, drop_at source (words ++ left) (length source) refl, whole, on) refl

pub parts_whole : (k : ℕ) (source words : List ℕ) → length words ≡ 4 * k → parts_at (length source) k (source ++ words) ≡ Ok (source, words)
unfolding parts_at
parts_whole k source words even =
    let long : ltb (length (source ++ words)) (length source) ≡ false = le-ltb _ _ (omega (arith, length-append source words)) in
    let whole : ltb (length words) (4 * k) ≡ false = le-ltb _ _ (omega arith) in
    let ends : ltb (4 * k) (length words) ≡ false = le-ltb _ _ (omega arith) in
    rw (long, take_at source words (length source) refl, drop_at source words (length source) refl, whole, ends) refl
