-- What the passes over the lines keep: the position of the line, and the labels so far.
use Rattle.std.specs.Prelude.{◌≡◌, ℕ, ◌+◌, ◌||◌, ◌<◌, ◌^◌, Bool, false, cond, List, [], ◌∷◌, ◌++◌, length, Option, Some, None, IfSome, if◌then◌else◌, bytes_eq}
use Rattle.std.specs.Prelude.{nat_lt}
use Rattle.std.specs.Option.{option_or}
use Rattle.std.specs.Borrow.{Bor}
use Rattle.indexmap.specs.IndexMap.{IndexMap, get_by}
use Rattle.mips_asm.specs.declared.fault.AsmFault.{AsmFault}
use Rattle.mips_asm.specs.declared.fault.AsmFault.TheVariants.{TooLong}
use Rattle.std.specs.List.{prefix_len}
use Rattle.mips_asm.specs.Text.{is_good_byte}
use Rattle.mips_asm.specs.Line.{line_meaning, width}
use Rattle.mips_asm.specs.Assembled.{labels, has, labels_resolved, meaning_fault, meaning_words, twice_fault}

-- the position that a map gives a name
abbrev pub label_of : {S : Type 0} → IndexMap (Bor (List ℕ)) ℕ S → List ℕ → Option ℕ
label_of m q = get_by (λ k. bytes_eq q k.now) m

-- the positions in a map are far below the limit of their type
abbrev pub Near : {S : Type 0} → IndexMap (Bor (List ℕ)) ℕ S → Type 0
Near m = (q : List ℕ) → IfSome (label_of m q) (λ p. p < 2 ^ 62)

-- these names get this position where a map gave them none, and nothing else changes
abbrev pub SetsLabels : {S T : Type 0} → IndexMap (Bor (List ℕ)) ℕ S → IndexMap (Bor (List ℕ)) ℕ T → List (List ℕ) → ℕ → Type 0
SetsLabels old new names at = (q : List ℕ) → label_of new q ≡ option_or (label_of old q) (cond (has names q) (Some at) None)

-- whether one of the names is seen, or stands earlier in the list
abbrev pub repeats_in : (List ℕ → Bool) → List (List ℕ) → Bool
repeats_in seen [] = false
repeats_in seen (n ∷ ns) = seen n || repeats_in (λ q. seen q || bytes_eq n q) ns

-- the fault of a line
abbrev pub line_fault_at : (List ℕ → Option ℕ) → (List ℕ → Bool) → ℕ → ℕ → ℕ → List ℕ → Option AsmFault
line_fault_at position seen start number at line =
    option_or (meaning_fault (start + prefix_len is_good_byte line) number (labels_resolved position at (line_meaning line)))
    (twice_fault number (repeats_in seen (labels line)))

-- the first fault of these lines, where the first of them starts at this byte and has this number and position, and these labels are seen
abbrev pub fault_from : (List ℕ → Option ℕ) → (List ℕ → Bool) → ℕ → ℕ → ℕ → List (List ℕ) → Option AsmFault
fault_from position seen start number at [] = if nat_lt 65536 at then Some TooLong else None
fault_from position seen start number at (line ∷ rest) =
    option_or (line_fault_at position seen start number at line)
    (fault_from position (λ q. seen q || has (labels line) q) (start + (length line + 1)) (number + 1) (at + width (line_meaning line)) rest)

-- the words of these lines, where the first of them has this position
abbrev pub line_words_from : (List ℕ → Option ℕ) → ℕ → List (List ℕ) → List ℕ
line_words_from position at [] = []
line_words_from position at (line ∷ rest) = meaning_words (labels_resolved position at (line_meaning line)) ++ line_words_from position
    (at + width (line_meaning line)) rest
