-- How a text falls into lines, and a line into labels and a statement.
use Rattle.std.specs.Prelude.{◌≡◌, ℕ, ◌||◌, ◌==◌, Bool, not, List, [], ◌∷◌, take, if◌then◌else◌}
use Rattle.std.specs.List.{slice_split, prefix_len}
use Rattle.std.specs.Int.{is_in_range}
pub use Rattle.cvm_text.specs.Blanks.{trim_start, trim_end, trim}
use Rattle.mips_asm.specs.Number.{is_name}

-- the bytes that a text may have, LF apart
abbrev pub is_good_byte : ℕ → Bool
is_good_byte c = is_in_range 32 126 c || c == 9 || c == 13

-- the lines: what stands between the LFs. An LF at the end leaves an empty line behind it, which has neither words nor faults.
abbrev pub asm_lines : List ℕ → List (List ℕ)
asm_lines text = slice_split (λ c. c == 10) text

-- the bytes before the comment
abbrev pub content : List ℕ → List ℕ
content line = take (prefix_len (λ c. not (c == 35)) line) line

-- the parts between the colons: those that lead and are names, with blanks before them, are the labels, but for the last part, which no colon follows
abbrev pub labels_in : List (List ℕ) → List (List ℕ)
labels_in [] = []
labels_in (p ∷ []) = []
labels_in (p ∷ (q ∷ ps)) = if is_name (trim_start p) then trim_start p ∷ labels_in (q ∷ ps) else []

-- the rest from the first part on that is no label
abbrev pub after_labels : List (List ℕ) → List (List ℕ)
after_labels [] = []
after_labels (p ∷ []) = p ∷ []
after_labels (p ∷ (q ∷ ps)) = if is_name (trim_start p) then after_labels (q ∷ ps) else p ∷ (q ∷ ps)

-- what stands between the colons of a line
abbrev pub colon_parts : List ℕ → List (List ℕ)
colon_parts line = slice_split (λ c. c == 58) line

-- the first label of a line's content, and what stands behind its colon
abbrev pub TakesLabel : List ℕ → List ℕ → List ℕ → Type 0
TakesLabel text label rest = labels_in (colon_parts text) ≡ label ∷ labels_in (colon_parts rest)

-- the same stands behind the labels of two contents
abbrev pub EndAlike : List ℕ → List ℕ → Type 0
EndAlike text rest = after_labels (colon_parts text) ≡ after_labels (colon_parts rest)
