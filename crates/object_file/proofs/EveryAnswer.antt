-- Of each list of bytes there is an answer: the bytes are taken apart from the left, field by field and part by part, until one isn't
-- as it is to be. So what the reading gives is so of the bytes.
use Rattle.std.proofs.Common.{◌≡◌, ℕ, zero, suc, ◌+◌, ◌*◌, ◌^◌, ◌<◌, ◌≤◌, List, [], ◌∷◌, ◌++◌, length, get_or, take, drop, replicate, Result, Ok, Err, inl, inr, refl, sym, ap, subst, ◌∙◌, arith}
use Rattle.std.specs.Prelude.{codes}
use Rattle.std.specs.Str.{bytes_eq}
use Rattle.std.specs.List.{concat, flat_map, AllByRecursion}
use Rattle.std.proofs.lemmas.Bool.{cases_lt, cases_eq, cases_Bool, both_ways}
use Rattle.std.proofs.lemmas.List.{append-nil, length-take, take-append-drop, length-replicate}
use Rattle.std.proofs.lemmas.List.Elements.{All-from_recursion}
use Rattle.std.proofs.lemmas.Slice.Eq.{bytes_eq-Decides}
use Rattle.object_file.specs.declared.fault.ObjectFault.{ObjectFault}
use Rattle.object_file.specs.declared.fault.ObjectFault.TheVariants.{Magic, Truncated, Trailing, Field, Memory}
use Rattle.object_file.specs.Parts.{ObjectParts}
use Rattle.cvm_words.specs.Bytes.{word, words_of_bytes}
use Rattle.cvm_words.specs.Reading.{GivesOkUnless}
use Rattle.object_file.specs.Format.{pieces, spelling, IsInRange}
use Rattle.object_file.specs.Answer.{IsObjectAnswer, IsOutOfRange, UnlessMemory}
use Rattle.object_file.specs.Reading.{header_of, object_of_parts, answer}
use Rattle.cvm_words.proofs.BytesOfWords.{length-word, length-words, IsBytes, IsBytes-drop, IsBytes-take, Front, front, Made, made}
use Rattle.object_file.proofs.ReadingSteps.{failed}
use Rattle.object_file.proofs.AnswersAreUnique.{onto, concat-append, length-front_2, length-front_3, length-front_4, length-front_5, answer_by, read_so}

-- an answer that is so of the bytes
abbrev pub Answered : List ℕ → Type 0
Answered bytes = (r : Result ObjectParts ObjectFault) × IsObjectAnswer bytes r

small_zeros : (k : ℕ) → AllByRecursion (λ w. w < 2 ^ 32) (replicate k 0)
small_zeros zero = tt
small_zeros (suc k) = (omega arith, small_zeros k)

-- an object with a source and so many words
abbrev some_words : List ℕ → ℕ → ObjectParts
some_words source k = record { source = source; words = replicate k 0 }

some_in_range : (source : List ℕ) (k : ℕ) → length source ≤ 1048576 → k ≤ 4177920 → IsInRange (some_words source k)
some_in_range source k few many = record {
  source = few;
  words = omega (arith, length-replicate {A = ℕ} k 0, many);
  bits = All-from_recursion (λ w. w < 2 ^ 32) (replicate k 0) (small_zeros k);
}

-- an object with a source of so many bytes and so many words
abbrev some : ℕ → ℕ → ObjectParts
some n k = some_words (replicate n 0) k

sized_in_range : (n k : ℕ) → n ≤ 1048576 → k ≤ 4177920 → IsInRange (some n k)
sized_in_range n k few many = some_in_range (replicate n 0) k (omega (arith, length-replicate {A = ℕ} n 0, few)) many

cut : (o : ObjectParts) (fits : IsInRange o) (whole : ℕ) (bytes left : List ℕ) (at : ℕ) → bytes ≡ concat (take whole (pieces o)) ++ left → length left < length (get_or (pieces o) whole []) → at ≡ length (concat (take whole (pieces o))) → Answered bytes
cut o fits whole bytes left at is short position = (Err (Truncated at), record { object = o; in_range = fits; whole = whole; left = left; spelled = is; short = short; position = position })

wrong : (o : ObjectParts) (fits : IsInRange o) (whole : ℕ) (bytes left : List ℕ) (at value : ℕ) → bytes ≡ concat (take whole (pieces o)) ++ (word value ++ left) → value < 2 ^ 32 → IsOutOfRange whole value → at ≡ length (concat (take whole (pieces o))) → Answered bytes
wrong o fits whole bytes left at value is small out position = (Err (Field at value), record { object = o; in_range = fits; whole = whole; left = left; spelled = is; bits = small; out = out; position = position })

-- the fields of an object whose parts have these sizes
fields_of : (o : ObjectParts) (n k : ℕ) (rest : List ℕ) → length o.source ≡ n → length o.words ≡ k → codes "CVMO" ++ (word 1 ++ (word n ++ (word k ++ rest))) ≡ onto (take 4 (pieces o)) rest
fields_of o n k rest e f = ap (λ (m : ℕ). codes "CVMO" ++ (word 1 ++ (word m ++ (word k ++ rest)))) (sym e) ∙ ap (λ (m : ℕ). codes "CVMO" ++ (word 1 ++ (word (length o.source) ++ (word m ++ rest)))) (sym f)

-- behind the source and the words
answered_behind_parts : (o : ObjectParts) (fits : IsInRange o) (bytes left : List ℕ) → bytes ≡ spelling o ++ left → Answered bytes
answered_behind_parts o fits bytes [] is = (Ok o, (fits, is ∙ append-nil (spelling o)))
answered_behind_parts o fits bytes (b ∷ left) is = (Err (Trailing (length (spelling o))), record { object = o; in_range = fits; left = b ∷ left; spelled = is; more = omega arith; position = refl })

-- behind the source
answered_behind_source : (source : List ℕ) (k : ℕ) (bytes rest : List ℕ) → length source ≤ 1048576 → k ≤ 4177920 → IsBytes rest → bytes ≡ codes "CVMO" ++ (word 1 ++ (word (length source) ++ (word k ++ (source ++ rest)))) → Answered bytes
answered_behind_source source k bytes rest few many fits is =
    elim (cases_lt (length rest) (4 * k)) [
      | inl short ↦
          let o : ObjectParts = some_words source k in
          let spelled : bytes ≡ concat (take 5 (pieces o)) ++ rest = is ∙ fields_of o (length source) k (source ++ rest) refl (length-replicate {A = ℕ} k 0) ∙ sym (concat-append (take 5 (pieces o)) rest) in
          cut o (some_in_range source k few many) 5 bytes rest (16 + length source) spelled (omega (arith, length-words (replicate k 0), length-replicate {A = ℕ} k 0)) (sym (length-front_5 o))
      | inr long ↦
          let m : Made k (take (4 * k) rest) = made k (take (4 * k) rest) (IsBytes-take (4 * k) rest fits) (omega (arith, length-take (4 * k) rest)) in
          let o : ObjectParts = record { source = source; words = m.words } in
          let in_range : IsInRange o = record { source = few; words = omega (arith, m.counted); bits = All-from_recursion (λ w. w < 2 ^ 32) m.words m.small } in
          let parted : rest ≡ flat_map word m.words ++ drop (4 * k) rest = sym (take-append-drop (4 * k) rest) ∙ ap (λ (l : List ℕ). l ++ drop (4 * k) rest) m.is in
          let spelled : bytes ≡ spelling o ++ drop (4 * k) rest =
          is ∙ fields_of o (length source) k (source ++ rest) refl m.counted ∙ ap (λ (l : List ℕ). onto (take 4 (pieces o)) (source ++ l)) parted
          ∙ sym (concat-append (pieces o) (drop (4 * k) rest)) in
          answered_behind_parts o in_range bytes (drop (4 * k) rest) spelled
    ]

-- behind the four fields
answered_behind_fields : (n k : ℕ) (bytes rest : List ℕ) → n ≤ 1048576 → k ≤ 4177920 → IsBytes rest → bytes ≡ codes "CVMO" ++ (word 1 ++ (word n ++ (word k ++ rest))) → Answered bytes
answered_behind_fields n k bytes rest few many fits is =
    elim (cases_lt (length rest) n) [
      | inl short ↦
          let o : ObjectParts = some n k in
          let spelled : bytes ≡ concat (take 4 (pieces o)) ++ rest = is ∙ fields_of o n k rest (length-replicate {A = ℕ} n 0) (length-replicate {A = ℕ} k 0) ∙ sym (concat-append (take 4 (pieces o)) rest) in
          cut o (sized_in_range n k few many) 4 bytes rest 16 spelled (omega (arith, length-replicate {A = ℕ} n 0)) (sym (length-front_4 o))
      | inr long ↦
          let size : length (take n rest) ≡ n = omega (arith, length-take n rest) in
          let parted : codes "CVMO" ++ (word 1 ++ (word n ++ (word k ++ rest))) ≡ codes "CVMO" ++ (word 1 ++ (word (length (take n rest)) ++ (word k ++ (take n rest ++ drop n rest)))) =
          ap (λ (l : List ℕ). codes "CVMO" ++ (word 1 ++ (word n ++ (word k ++ l)))) (sym (take-append-drop n rest))
          ∙ ap (λ (m : ℕ). codes "CVMO" ++ (word 1 ++ (word m ++ (word k ++ (take n rest ++ drop n rest))))) (sym size) in
          answered_behind_source (take n rest) k bytes (drop n rest) (omega arith) many (IsBytes-drop n rest fits) (is ∙ parted)
    ]

-- behind the source's length
answered_behind_length : (n : ℕ) (bytes rest : List ℕ) → n ≤ 1048576 → IsBytes rest → bytes ≡ codes "CVMO" ++ (word 1 ++ (word n ++ rest)) → Answered bytes
answered_behind_length n bytes rest few fits is =
    let o : ObjectParts = some n 0 in
    let in_range : IsInRange o = sized_in_range n 0 few (omega arith) in
    let spelled : bytes ≡ concat (take 3 (pieces o)) ++ rest =
    is ∙ ap (λ (m : ℕ). codes "CVMO" ++ (word 1 ++ (word m ++ rest))) (sym (length-replicate {A = ℕ} n 0)) ∙ sym (concat-append (take 3 (pieces o)) rest) in
    elim (cases_lt (length rest) 4) [
      | inl short ↦ cut o in_range 3 bytes rest 12 spelled (omega (arith, length-word 0)) (sym (length-front_3 o))
      | inr long ↦
          let f : Front rest = front rest fits long in
          elim (cases_lt 4177920 f.number) [
            | inl many ↦ wrong o in_range 3 bytes f.rest 12 f.number (spelled ∙ ap (λ (l : List ℕ). concat (take 3 (pieces o)) ++ l) f.is) f.small many (sym (length-front_3 o))
            | inr fewer ↦ answered_behind_fields n f.number bytes f.rest few fewer f.fits (is ∙ ap (λ (l : List ℕ). codes "CVMO" ++ (word 1 ++ (word n ++ l))) f.is)
          ]
    ]

-- behind the form
answered_behind_form : (bytes rest : List ℕ) → IsBytes rest → bytes ≡ codes "CVMO" ++ (word 1 ++ rest) → Answered bytes
answered_behind_form bytes rest fits is =
    let o : ObjectParts = some 0 0 in
    let in_range : IsInRange o = sized_in_range 0 0 (omega arith) (omega arith) in
    let spelled : bytes ≡ concat (take 2 (pieces o)) ++ rest = is ∙ sym (concat-append (take 2 (pieces o)) rest) in
    elim (cases_lt (length rest) 4) [
      | inl short ↦ cut o in_range 2 bytes rest 8 spelled (omega (arith, length-word 0)) (sym (length-front_2 o))
      | inr long ↦
          let f : Front rest = front rest fits long in
          elim (cases_lt 1048576 f.number) [
            | inl many ↦ wrong o in_range 2 bytes f.rest 8 f.number (spelled ∙ ap (λ (l : List ℕ). concat (take 2 (pieces o)) ++ l) f.is) f.small many (sym (length-front_2 o))
            | inr few ↦ answered_behind_length f.number bytes f.rest few f.fits (is ∙ ap (λ (l : List ℕ). codes "CVMO" ++ (word 1 ++ l)) f.is)
          ]
    ]

-- behind the mark
answered_behind_mark : (bytes rest : List ℕ) → IsBytes rest → bytes ≡ codes "CVMO" ++ rest → Answered bytes
answered_behind_mark bytes rest fits is =
    let o : ObjectParts = some 0 0 in
    let in_range : IsInRange o = sized_in_range 0 0 (omega arith) (omega arith) in
    elim (cases_lt (length rest) 4) [
      | inl short ↦ cut o in_range 1 bytes rest 4 is (omega (arith, length-word 1)) refl
      | inr long ↦
          let f : Front rest = front rest fits long in
          elim (cases_eq f.number 1) [
            | inl one ↦ answered_behind_form bytes f.rest f.fits (is ∙ ap (λ (l : List ℕ). codes "CVMO" ++ l) (f.is ∙ ap (λ (n : ℕ). word n ++ f.rest) one))
            | inr other ↦ wrong o in_range 1 bytes f.rest 4 f.number (is ∙ ap (λ (l : List ℕ). codes "CVMO" ++ l) f.is) f.small other refl
          ]
    ]

-- each list of bytes has an answer
pub some_answer : (bytes : List ℕ) → IsBytes bytes → Answered bytes
some_answer bytes fits =
    elim (cases_lt (length bytes) 4) [
      | inl short ↦ cut (some 0 0) (sized_in_range 0 0 (omega arith) (omega arith)) 0 bytes bytes 0 refl short refl
      | inr long ↦
          elim (cases_Bool (bytes_eq (take 4 bytes) (codes "CVMO"))) [
            | inl same ↦
                answered_behind_mark bytes (drop 4 bytes) (IsBytes-drop 4 bytes fits)
                (sym (take-append-drop 4 bytes) ∙ ap (λ (l : List ℕ). l ++ drop 4 bytes) ((bytes_eq-Decides (take 4 bytes) (codes "CVMO")).0 same))
            | inr apart ↦ (Err Magic, (long, λ same. both_ways (bytes_eq (take 4 bytes) (codes "CVMO")) apart ((bytes_eq-Decides (take 4 bytes) (codes "CVMO")).1 same)))
          ]
    ]

-- what the reading gives is so of the bytes
pub answer_so : (bytes : List ℕ) → IsBytes bytes → IsObjectAnswer bytes (answer bytes)
answer_so bytes fits =
    let a : Answered bytes = some_answer bytes fits in
    subst (λ (r : Result ObjectParts ObjectFault). IsObjectAnswer bytes r) (sym (read_so bytes a.0 a.1)) a.1

-- ---- what `read` answers

unless : (r : Result ObjectParts ObjectFault) (P : Type 0) → P → UnlessMemory r P
unless (Ok o) P h = h
unless (Err Magic) P h = h
unless (Err (Truncated at)) P h = h
unless (Err (Field at value)) P h = h
unless (Err (Trailing at)) P h = h
unless (Err Memory) P h = tt

-- a fault of the fields is answered
pub fault_so : (bytes : List ℕ) → IsBytes bytes → (e : ObjectFault) → header_of bytes ≡ failed e → UnlessMemory (Err e) (IsObjectAnswer bytes (Err e))
fault_so bytes fits e is = unless (Err e) (IsObjectAnswer bytes (Err e)) (subst (λ (r : Result ObjectParts ObjectFault). IsObjectAnswer bytes r) (answer_by bytes (failed e) is) (answer_so bytes fits))

gives_fault : (e : ObjectFault) (a : Result ObjectParts ObjectFault) → a ≡ Err e → GivesOkUnless Memory (Err e) a
gives_fault e (Ok o) is = absurd cc
gives_fault e (Err f) is = sym is

pub fault_only : (bytes : List ℕ) (e : ObjectFault) → header_of bytes ≡ failed e → (a : Result ObjectParts ObjectFault) → IsObjectAnswer bytes a → GivesOkUnless Memory (Err e) a
fault_only bytes e is a so = gives_fault e a (sym (read_so bytes a so) ∙ answer_by bytes (failed e) is)

-- the object of the two parts that were found
abbrev pub found : List ℕ → List ℕ → ObjectParts
found source words = record { source = source; words = words_of_bytes words }

answer_found : (bytes source words : List ℕ) → header_of bytes ≡ Ok (source, words) → answer bytes ≡ Ok (found source words)
unfolding object_of_parts
answer_found bytes source words is = answer_by bytes (Ok (source, words)) is

pub object_so : (bytes : List ℕ) → IsBytes bytes → (source words : List ℕ) → header_of bytes ≡ Ok (source, words) → IsObjectAnswer bytes (Ok (found source words))
object_so bytes fits source words is = subst (λ (r : Result ObjectParts ObjectFault). IsObjectAnswer bytes r) (answer_found bytes source words is) (answer_so bytes fits)

gives_object : (o : ObjectParts) (a : Result ObjectParts ObjectFault) → a ≡ Ok o → GivesOkUnless Memory (Ok o) a
gives_object o (Ok p) is = cc
gives_object o (Err f) is = absurd cc

pub object_only : (bytes source words : List ℕ) → header_of bytes ≡ Ok (source, words) → (a : Result ObjectParts ObjectFault) → IsObjectAnswer bytes a → GivesOkUnless Memory (Ok (found source words)) a
object_only bytes source words is a so = gives_object (found source words) a (sym (read_so bytes a so) ∙ answer_found bytes source words is)

gives_memory : (o : ObjectParts) (a : Result ObjectParts ObjectFault) → a ≡ Ok o → GivesOkUnless Memory (Err Memory) a
gives_memory o (Ok p) is = refl
gives_memory o (Err f) is = absurd cc

-- memory runs out only where the bytes are an object
pub memory_only : (bytes source words : List ℕ) → header_of bytes ≡ Ok (source, words) → (a : Result ObjectParts ObjectFault) → IsObjectAnswer bytes a → GivesOkUnless Memory (Err Memory) a
memory_only bytes source words is a so = gives_memory (found source words) a (sym (read_so bytes a so) ∙ answer_found bytes source words is)
