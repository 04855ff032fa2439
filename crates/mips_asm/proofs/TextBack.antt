-- A text that was written for words is assembled to them.
use Rattle.std.proofs.Common.{◌≡◌, ◌≤◌, ◌+◌, ◌==◌, ◌||◌, ℕ, Bool, false, cond, suc, List, [], ◌∷◌, ◌++◌, length, map, Option, Some, None, Ok, All, refl, ap, ◌∙◌, append_assoc, arith}
use Rattle.std.specs.Prelude.{nat_lt}
use Rattle.std.specs.Option.{option_or}
use Rattle.std.specs.List.{slice_split, prefix_len}
use Rattle.std.proofs.lemmas.Bool.Decides.{nat_tests}
use Rattle.std.proofs.lemmas.List.Splits.{slice_split_at}
use Rattle.mips_table.specs.Decoding.{decoding}
use Rattle.mips_asm.specs.declared.fault.AsmFault.TheVariants.{TooLong}
use Rattle.mips_asm.specs.Text.{asm_lines, is_good_byte}
use Rattle.mips_asm.specs.Line.{LineMeaning, nothing, word, line_meaning, statement, width}
use Rattle.mips_asm.specs.Assembled.{labels, has, label_position, labels_resolved, meaning_fault, meaning_words, twice_fault, fault_or, first_fault, words_of_lines, assembled}
use Rattle.mips_asm.specs.Passes.{repeats_in, line_fault_at, fault_from, line_words_from}
use Rattle.mips_asm.specs.Listing.{line_for, line_of, listing}
use Rattle.mips_asm.specs.Back.{ReadsBack}
use Rattle.mips_asm.proofs.PassesCount.{first_fault_is, words_are}

-- the text of one word
abbrev pub text_of : ℕ → List ℕ
text_of value = line_for value (decoding value)

-- each word of a list reads back
abbrev pub AllBack : List ℕ → Type 0
AllBack [] = Unit {0}
AllBack (v ∷ vs) = ReadsBack v × AllBack vs

pub all_back : (vs : List ℕ) → All ReadsBack vs → AllBack vs
all_back [] all = tt
all_back (v ∷ vs) all = (all 0 v (omega arith), all_back vs (λ k d inside. all (suc k) d (omega arith)))

-- the lines of a text
lines_are : (vs : List ℕ) → AllBack vs → asm_lines (listing vs) ≡ map text_of vs ++ ([] ∷ [])
unfolding line_of
lines_are [] back = refl
lines_are (v ∷ vs) back =
    ap (slice_split (λ c. c == 10)) (append_assoc (text_of v) (10 ∷ []) (listing vs))
    ∙ slice_split_at (λ c. c == 10) (text_of v) 10 (listing vs) back.0.one_line refl ∙ ap (λ l. text_of v ∷ l) (lines_are vs back.1)

-- an empty line has nothing
empty_means : line_meaning [] ≡ nothing
unfolding line_meaning statement
empty_means = refl

-- a line that means a word has no fault
no_fault_at : (position : List ℕ → Option ℕ) (seen : List ℕ → Bool) (start number at : ℕ) (line : List ℕ) (m : LineMeaning) → line_meaning line ≡ m → labels line ≡ []
    → meaning_fault (start + prefix_len is_good_byte line) number (labels_resolved position at m) ≡ None → line_fault_at position seen start number at line ≡ None
no_fault_at position seen start number at line m means unlabelled none =
    ap (λ n. option_or (meaning_fault (start + prefix_len is_good_byte line) number (labels_resolved position at n)) (twice_fault number (repeats_in seen (labels line)))) means
    ∙ ap (λ ls. option_or (meaning_fault (start + prefix_len is_good_byte line) number (labels_resolved position at m)) (twice_fault number (repeats_in seen ls))) unlabelled
    ∙ ap (λ o. option_or o None) none

few : (n : ℕ) → n ≤ 65536 → nat_lt 65536 n ≡ false
few n small = grind (arith, nat_tests)

no_fault : (position : List ℕ → Option ℕ) (seen : List ℕ → Bool) (start number at : ℕ) (vs : List ℕ) → AllBack vs → at + length vs ≤ 65536
    → fault_from position seen start number at (map text_of vs ++ ([] ∷ [])) ≡ None
no_fault position seen start number at [] back small =
    ap (λ o. option_or o (fault_from position (λ q. seen q || has (labels []) q) (start + 1) (number + 1) (at + width (line_meaning [])) []))
    (no_fault_at position seen start number at [] nothing empty_means refl refl)
    ∙ ap (λ m. cond (nat_lt 65536 (at + width m)) (Some TooLong) None) empty_means ∙ ap (λ b. cond b (Some TooLong) None) (few (at + 0) (omega arith))
no_fault position seen start number at (v ∷ vs) back small =
    let line = text_of v in
    let rest = map text_of vs ++ ([] ∷ []) in
    let after = λ (q : List ℕ). seen q || has (labels line) q in
    ap (λ o. option_or o (fault_from position after (start + (length line + 1)) (number + 1) (at + width (line_meaning line)) rest))
    (no_fault_at position seen start number at line (word v) back.0.means back.0.unlabelled refl)
    ∙ ap (λ m. fault_from position after (start + (length line + 1)) (number + 1) (at + width m) rest) back.0.means
    ∙ no_fault position after (start + (length line + 1)) (number + 1) (at + 1) vs back.1 (omega arith)

words_back : (position : List ℕ → Option ℕ) (at : ℕ) (vs : List ℕ) → AllBack vs → line_words_from position at (map text_of vs ++ ([] ∷ [])) ≡ vs
words_back position at [] back = ap (λ m. meaning_words (labels_resolved position at m) ++ []) empty_means
words_back position at (v ∷ vs) back =
    let rest = map text_of vs ++ ([] ∷ []) in
    ap (λ m. meaning_words (labels_resolved position at m) ++ line_words_from position (at + width (line_meaning (text_of v))) rest) back.0.means
    ∙ ap (λ l. v ∷ l) (words_back position (at + width (line_meaning (text_of v))) vs back.1)

pub assembled_back : (vs : List ℕ) → All ReadsBack vs → length vs ≤ 65536 → assembled (listing vs) ≡ Ok vs
unfolding assembled
assembled_back vs all small =
    let back = all_back vs all in
    let lines = asm_lines (listing vs) in
    let are = lines_are vs back in
    let position = label_position lines in
    let none : first_fault lines [] lines ≡ None
    = first_fault_is lines [] lines ∙ ap (fault_from position (has []) 0 1 0) are ∙ no_fault position (has []) 0 1 0 vs back (omega arith) in
    let all_words : words_of_lines lines [] lines ≡ vs = words_are lines [] lines ∙ ap (line_words_from position 0) are ∙ words_back position 0 vs back in
    ap (λ o. fault_or o (words_of_lines lines [] lines)) none ∙ ap Ok all_words
