-- The definition looks back at the lines before, and the passes count on: both say the same.
use Rattle.std.proofs.Common.{◌≡◌, ◌+◌, ◌||◌, ℕ, Bool, true, false, List, [], ◌∷◌, ◌++◌, length, length-append, bytes_eq, refl, ap, ◌∙◌, arith}
use Rattle.std.specs.Prelude.{flat_map}
use Rattle.std.specs.Option.{option_or}
use Rattle.std.specs.List.{prefix_len}
use Rattle.std.proofs.lemmas.List.Folds.{list_any-append}
use Rattle.std.proofs.lemmas.List.Sums.{sum_by_push}
use Rattle.std.proofs.lemmas.Grind.{flat_map-append}
use mathlib.Core.Path.{fun_ext}
use Rattle.mips_asm.specs.Line.{line_meaning, width}
use Rattle.mips_asm.specs.Text.{is_good_byte}
use Rattle.mips_asm.specs.Assembled.{labels, word_count, bytes_in, has, label_position, repeats, labels_resolved, meaning_fault, meaning_words, twice_fault, line_fault, first_fault, words_of_lines}
use Rattle.mips_asm.specs.Passes.{repeats_in, line_fault_at, fault_from, line_words_from}

or_false : (a : Bool) → (a || false) ≡ a
or_false true = refl
or_false false = refl

-- one more name
has_push : (names : List (List ℕ)) (n q : List ℕ) → has (names ++ (n ∷ [])) q ≡ (has names q || bytes_eq n q)
has_push names n q = list_any-append (λ k. bytes_eq k q) names (n ∷ []) ∙ ap (λ b. has names q || b) (or_false (bytes_eq n q))

-- the names of one more line
has_line : (before : List (List ℕ)) (line q : List ℕ) → has (flat_map labels (before ++ (line ∷ []))) q ≡ (has (flat_map labels before) q || has (labels line) q)
has_line before line q =
    ap (λ l. has l q) (flat_map-append labels before (line ∷ []))
    ∙ list_any-append (λ k. bytes_eq k q) (flat_map labels before) (flat_map labels (line ∷ []))
    ∙ ap (λ l. has (flat_map labels before) q || has l q) (append_nil (labels line))
  where
    append_nil : (ns : List (List ℕ)) → ns ++ [] ≡ ns
    append_nil [] = refl
    append_nil (n ∷ ns) = ap (λ l. n ∷ l) (append_nil ns)

repeats_are : (before names : List (List ℕ)) → repeats before names ≡ repeats_in (has before) names
repeats_are before [] = refl
repeats_are before (n ∷ ns) =
    ap (λ b. has before n || b) (repeats_are (before ++ (n ∷ [])) ns) ∙ ap (λ s. has before n || repeats_in s ns) (fun_ext (has_push before n))

-- the fault of a line
line_fault_is : (lines before : List (List ℕ)) (line : List ℕ)
    → line_fault lines before line ≡ line_fault_at (label_position lines) (has (flat_map labels before)) (bytes_in before) (length before + 1) (word_count before) line
line_fault_is lines before line =
    ap (λ t. option_or (meaning_fault (bytes_in before + prefix_len is_good_byte line) (length before + 1) (labels_resolved (label_position lines) (word_count before) (line_meaning line))) (twice_fault (length before + 1) t))
    (repeats_are (flat_map labels before) (labels line))

-- what is counted before the next line
next_number : (before : List (List ℕ)) (line : List ℕ) → length (before ++ (line ∷ [])) + 1 ≡ length before + 1 + 1
next_number before line = omega (arith, length-append before (line ∷ []))

pub first_fault_is : (lines before rest : List (List ℕ))
    → first_fault lines before rest ≡ fault_from (label_position lines) (has (flat_map labels before)) (bytes_in before) (length before + 1) (word_count before) rest
first_fault_is lines before [] = refl
first_fault_is lines before (line ∷ rest) =
    let more = before ++ (line ∷ []) in
    let position = label_position lines in
    let here = line_fault_at position (has (flat_map labels before)) (bytes_in before) (length before + 1) (word_count before) line in
    ap (λ o. option_or o (first_fault lines more rest)) (line_fault_is lines before line)
    ∙ ap (option_or here) (first_fault_is lines more rest)
    ∙ ap (λ s. option_or here (fault_from position s (bytes_in more) (length more + 1) (word_count more) rest)) (fun_ext (has_line before line))
    ∙ ap (λ n. option_or here (fault_from position (λ q. has (flat_map labels before) q || has (labels line) q) n (length more + 1) (word_count more) rest)) (sum_by_push (λ l. length l + 1) before line)
    ∙ ap (λ n. option_or here (fault_from position (λ q. has (flat_map labels before) q || has (labels line) q) (bytes_in before + (length line + 1)) n (word_count more) rest)) (next_number before line)
    ∙ ap (λ n. option_or here (fault_from position (λ q. has (flat_map labels before) q || has (labels line) q) (bytes_in before + (length line + 1)) (length before + 1 + 1) n rest))
    (sum_by_push (λ l. width (line_meaning l)) before line)

pub words_are : (lines before rest : List (List ℕ)) → words_of_lines lines before rest ≡ line_words_from (label_position lines) (word_count before) rest
words_are lines before [] = refl
words_are lines before (line ∷ rest) =
    let here = meaning_words (labels_resolved (label_position lines) (word_count before) (line_meaning line)) in
    ap (λ ws. here ++ ws) (words_are lines (before ++ (line ∷ [])) rest)
    ∙ ap (λ n. here ++ line_words_from (label_position lines) n rest) (sum_by_push (λ l. width (line_meaning l)) before line)
