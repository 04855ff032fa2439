-- What is so of bytes is what the reading gives, for each answer; so there is at most one.
use Rattle.std.proofs.Common.{◌≡◌, ℕ, zero, suc, ◌+◌, ◌*◌, ◌^◌, ◌<◌, List, [], ◌∷◌, ◌++◌, length, get_or, take, Result, Ok, Err, refl, sym, ap, ◌∙◌, append_assoc, arith}
use Rattle.std.specs.List.{concat, flat_map}
use Rattle.std.proofs.lemmas.List.{length-append, append-nil}
use Rattle.std.proofs.lemmas.List.Elements.{recursion_from_All}
use Rattle.object_file.specs.declared.fault.ObjectFault.{ObjectFault}
use Rattle.object_file.specs.declared.fault.ObjectFault.TheVariants.{Magic, Truncated, Trailing, Field, Memory}
use Rattle.object_file.specs.Parts.{ObjectParts}
use Rattle.cvm_words.specs.Bytes.{word, words_of_bytes}
use Rattle.object_file.specs.Format.{pieces, spelling, IsInRange}
use Rattle.object_file.specs.Answer.{IsObjectAnswer, IsOutOfRange}
use Rattle.cvm_words.specs.Reading.{◌>>=◌}
use Rattle.object_file.specs.Reading.{parts_at, header_of, object_of_parts, answer}
use Rattle.cvm_words.proofs.BytesOfWords.{length-word, length-words, words_of-words}
use Rattle.object_file.proofs.ReadingSteps.{Header, failed, behind_length, behind_form, behind_mark, header_short, header_other, header_mark, form_short, form_whole, form_out, length_short, length_whole, length_out, count_short, count_whole, count_out, source_short, words_short, parts_go_on, parts_whole}

-- lists, one after another, and then a last one
abbrev pub onto : List (List ℕ) → List ℕ → List ℕ
onto [] last = last
onto (x ∷ xs) last = x ++ onto xs last

pub concat-append : (xs : List (List ℕ)) (last : List ℕ) → concat xs ++ last ≡ onto xs last
concat-append [] last = refl
concat-append (x ∷ xs) last = append_assoc x (concat xs) last ∙ ap (λ (l : List ℕ). x ++ l) (concat-append xs last)

-- the bytes behind the first pieces of an object in range are read as what follows these
behind_1 : (o : ObjectParts) (left : List ℕ) → header_of (concat (take 1 (pieces o)) ++ left) ≡ behind_mark left
behind_1 o left = ap header_of (concat-append (take 1 (pieces o)) left) ∙ header_mark left

behind_2 : (o : ObjectParts) (left : List ℕ) → header_of (concat (take 2 (pieces o)) ++ left) ≡ behind_form left
behind_2 o left = ap header_of (concat-append (take 2 (pieces o)) left) ∙ header_mark (word 1 ++ left) ∙ form_whole left

behind_3 : (o : ObjectParts) (left : List ℕ) → IsInRange o → header_of (concat (take 3 (pieces o)) ++ left) ≡ behind_length (length o.source) left
behind_3 o left fits =
    ap header_of (concat-append (take 3 (pieces o)) left) ∙ header_mark (word 1 ++ (word (length o.source) ++ left)) ∙ form_whole (word (length o.source) ++ left)
    ∙ length_whole (length o.source) left fits.source

fields_whole : (o : ObjectParts) (left : List ℕ) → IsInRange o → header_of (onto (take 4 (pieces o)) left) ≡ parts_at (length o.source) (length o.words) left
fields_whole o left fits =
    header_mark (word 1 ++ (word (length o.source) ++ (word (length o.words) ++ left))) ∙ form_whole (word (length o.source) ++ (word (length o.words) ++ left))
    ∙ length_whole (length o.source) (word (length o.words) ++ left) fits.source ∙ count_whole (length o.source) (length o.words) left fits.words

behind_4 : (o : ObjectParts) (left : List ℕ) → IsInRange o → header_of (concat (take 4 (pieces o)) ++ left) ≡ parts_at (length o.source) (length o.words) left
behind_4 o left fits = ap header_of (concat-append (take 4 (pieces o)) left) ∙ fields_whole o left fits

behind_5 : (o : ObjectParts) (left : List ℕ) → IsInRange o → header_of (concat (take 5 (pieces o)) ++ left) ≡ parts_at (length o.source) (length o.words) (o.source ++ left)
behind_5 o left fits = ap header_of (concat-append (take 5 (pieces o)) left) ∙ fields_whole o (o.source ++ left) fits

behind_6 : (o : ObjectParts) (left : List ℕ) → IsInRange o → header_of (spelling o ++ left) ≡ parts_at (length o.source) (length o.words) (o.source ++ (flat_map word o.words ++ left))
behind_6 o left fits = ap header_of (concat-append (pieces o) left) ∙ fields_whole o (o.source ++ (flat_map word o.words ++ left)) fits

-- where the pieces end
pub length-front_2 : (o : ObjectParts) → length (concat (take 2 (pieces o))) ≡ 8
length-front_2 o = omega (arith, length-append (word 1) [], length-word 1)

pub length-front_3 : (o : ObjectParts) → length (concat (take 3 (pieces o))) ≡ 12
length-front_3 o = omega (arith, length-append (word 1) (word (length o.source) ++ []), length-append (word (length o.source)) [], length-word 1, length-word (length o.source))

length-four : (o : ObjectParts) (last : List ℕ) → length (onto (take 4 (pieces o)) last) ≡ 16 + length last
length-four o last =
    omega (
      arith,
      length-append (word 1) (word (length o.source) ++ (word (length o.words) ++ last)),
      length-append (word (length o.source)) (word (length o.words) ++ last),
      length-append (word (length o.words)) last,
      length-word 1,
      length-word (length o.source),
      length-word (length o.words),
    )

pub length-front_4 : (o : ObjectParts) → length (concat (take 4 (pieces o))) ≡ 16
length-front_4 o = length-four o []

pub length-front_5 : (o : ObjectParts) → length (concat (take 5 (pieces o))) ≡ 16 + length o.source
length-front_5 o = length-four o (o.source ++ []) ∙ ap (λ (l : List ℕ). 16 + length l) (append-nil o.source)

pub length-spelling : (o : ObjectParts) → length (spelling o) ≡ 16 + length o.source + 4 * length o.words
length-spelling o =
    let four = length-four o (o.source ++ (flat_map word o.words ++ [])) in
    omega (arith, four, length-append o.source (flat_map word o.words ++ []), length-append (flat_map word o.words) [], length-words o.words)

-- ---- each answer

failed_at : (bytes : List ℕ) (at position : ℕ) → header_of bytes ≡ failed (Truncated position) → at ≡ position → header_of bytes ≡ failed (Truncated at)
failed_at bytes at position is same = is ∙ ap (λ (n : ℕ). failed (Truncated n)) (sym same)

field_at : (bytes : List ℕ) (at position value : ℕ) → header_of bytes ≡ failed (Field position value) → at ≡ position → header_of bytes ≡ failed (Field at value)
field_at bytes at position value is same = is ∙ ap (λ (n : ℕ). failed (Field n value)) (sym same)

-- bytes that end within a piece
ends : (o : ObjectParts) (fits : IsInRange o) (whole : ℕ) (bytes left : List ℕ) (at : ℕ) → bytes ≡ concat (take whole (pieces o)) ++ left → length left < length (get_or (pieces o) whole []) → at ≡ length (concat (take whole (pieces o))) → header_of bytes ≡ failed (Truncated at)
ends o fits zero bytes left at is short position = failed_at bytes at 0 (ap header_of is ∙ header_short left short) position
ends o fits (suc zero) bytes left at is short position =
    failed_at bytes at 4 (ap header_of is ∙ behind_1 o left ∙ form_short left (omega (arith, length-word 1))) position
ends o fits (suc (suc zero)) bytes left at is short position =
    failed_at bytes at 8 (ap header_of is ∙ behind_2 o left ∙ length_short left (omega (arith, length-word (length o.source)))) (position ∙ length-front_2 o)
ends o fits (suc (suc (suc zero))) bytes left at is short position =
    failed_at bytes at 12 (ap header_of is ∙ behind_3 o left fits ∙ count_short (length o.source) left (omega (arith, length-word (length o.words)))) (position ∙ length-front_3 o)
ends o fits (suc (suc (suc (suc zero)))) bytes left at is short position =
    failed_at bytes at 16 (ap header_of is ∙ behind_4 o left fits ∙ source_short (length o.source) (length o.words) left short) (position ∙ length-front_4 o)
ends o fits (suc (suc (suc (suc (suc zero))))) bytes left at is short position =
    failed_at bytes at (16 + length o.source) (ap header_of is ∙ behind_5 o left fits ∙ words_short (length o.words) o.source left (omega (arith, length-words o.words))) (position ∙ length-front_5 o)
ends o fits (suc (suc (suc (suc (suc (suc whole)))))) bytes left at is short position = absurd (omega arith)

-- bytes with a number that may not stand in its field
out : (o : ObjectParts) (fits : IsInRange o) (whole : ℕ) (bytes left : List ℕ) (at value : ℕ) → bytes ≡ concat (take whole (pieces o)) ++ (word value ++ left) → value < 2 ^ 32 → IsOutOfRange whole value → at ≡ length (concat (take whole (pieces o))) → header_of bytes ≡ failed (Field at value)
out o fits zero bytes left at value is small bad position = absurd bad
out o fits (suc zero) bytes left at value is small bad position = field_at bytes at 4 value (ap header_of is ∙ behind_1 o (word value ++ left) ∙ form_out value left small bad) position
out o fits (suc (suc zero)) bytes left at value is small bad position =
    field_at bytes at 8 value (ap header_of is ∙ behind_2 o (word value ++ left) ∙ length_out value left small bad) (position ∙ length-front_2 o)
out o fits (suc (suc (suc zero))) bytes left at value is small bad position =
    field_at bytes at 12 value (ap header_of is ∙ behind_3 o (word value ++ left) fits ∙ count_out (length o.source) value left small bad) (position ∙ length-front_3 o)
out o fits (suc (suc (suc (suc whole)))) bytes left at value is small bad position = absurd bad

abbrev pub then_object : Header → Result ObjectParts ObjectFault
then_object r = r >>= λ parts. Ok (object_of_parts parts)

pub answer_by : (bytes : List ℕ) (r : Header) → header_of bytes ≡ r → answer bytes ≡ then_object r
unfolding answer
answer_by bytes r is = ap then_object is

-- the object of a spelling is read
spelled : (o : ObjectParts) → IsInRange o → answer (spelling o) ≡ Ok o
unfolding object_of_parts
spelled o fits =
    let header : header_of (spelling o) ≡ Ok (o.source, flat_map word o.words) =
    ap header_of (sym (append-nil (spelling o))) ∙ behind_6 o [] fits
    ∙ ap (λ (l : List ℕ). parts_at (length o.source) (length o.words) (o.source ++ l)) (append-nil (flat_map word o.words))
    ∙ parts_whole (length o.words) o.source (flat_map word o.words) (length-words o.words) in
    let words : words_of_bytes (flat_map word o.words) ≡ o.words = words_of-words o.words (recursion_from_All (λ w. w < 2 ^ 32) o.words fits.bits) in
    answer_by (spelling o) (Ok (o.source, flat_map word o.words)) header ∙ ap (λ (ws : List ℕ). Ok (record { source = o.source; words = ws })) words

-- what is so of bytes is what the reading gives
pub read_so : (bytes : List ℕ) (r : Result ObjectParts ObjectFault) → IsObjectAnswer bytes r → answer bytes ≡ r
read_so bytes (Ok o) is = ap answer is.1 ∙ spelled o is.0
read_so bytes (Err Magic) is = answer_by bytes (failed Magic) (header_other bytes is.0 is.1)
read_so bytes (Err (Truncated at)) is = answer_by bytes (failed (Truncated at)) (ends is.object is.in_range is.whole bytes is.left at is.spelled is.short is.position)
read_so bytes (Err (Field at value)) is = answer_by bytes (failed (Field at value)) (out is.object is.in_range is.whole bytes is.left at value is.spelled is.bits is.out is.position)
read_so bytes (Err (Trailing at)) is =
    let o = is.object in
    answer_by bytes (failed (Trailing at))
    (ap header_of is.spelled ∙ behind_6 o is.left is.in_range ∙ parts_go_on (length o.words) o.source (flat_map word o.words) is.left (length-words o.words) is.more
    ∙ ap (λ (n : ℕ). failed (Trailing n)) (sym (is.position ∙ length-spelling o)))
read_so bytes (Err Memory) is = absurd is

-- so there is at most one answer
pub one_answer : (bytes : List ℕ) (a b : Result ObjectParts ObjectFault) → IsObjectAnswer bytes a → IsObjectAnswer bytes b → a ≡ b
one_answer bytes a b is so = sym (read_so bytes a is) ∙ read_so bytes b so
