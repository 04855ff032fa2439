-- The answer for a text: its words, or its first fault.
use Rattle.std.specs.Prelude.{ℕ, ℤ, pos, ◌+◌, ◌%◌, ◌^◌, ◌||◌, ◌+ℤ◌, neg_ℤ, Bool, false, List, [], ◌∷◌}
use Rattle.std.specs.Prelude.{◌++◌, length, take, replicate, Option, Some, None, Result, Ok, Err, if◌then◌else◌, bytes_eq, nat_lt, flat_map}
use Rattle.std.specs.Option.{option_or}
use Rattle.std.specs.List.{list_any, prefix_len, sum_by}
use Rattle.mips_asm.specs.declared.fault.AsmFault.{AsmFault}
use Rattle.mips_asm.specs.declared.fault.AsmFault.TheVariants.{BadByte, UnknownMnemonic, BadOperand, OutOfRange, UnknownLabel, LabelTwice, TooLong}
use Rattle.mips_asm.specs.Text.{asm_lines, content, colon_parts, labels_in, is_good_byte}
use Rattle.mips_asm.specs.Operand.{adds, signed_operand}
use Rattle.mips_asm.specs.Line.{LineMeaning, bad_byte, unknown, bad_operand, unknown_label, out_of_range, word}
use Rattle.mips_asm.specs.Line.{zeros, branch, jump, line_meaning, width, with_reading}

-- the labels at the start of a line, those before a bad byte where it has one
abbrev pub labels : List ℕ → List (List ℕ)
labels line = labels_in (colon_parts (content (take (prefix_len is_good_byte line) line)))

-- how many words these lines count
abbrev pub word_count : List (List ℕ) → ℕ
word_count lines = sum_by (λ line. width (line_meaning line)) lines

-- how many bytes these lines take, each with its LF
abbrev pub bytes_in : List (List ℕ) → ℕ
bytes_in lines = sum_by (λ line. length line + 1) lines

-- whether a name is among these
abbrev pub has : List (List ℕ) → List ℕ → Bool
has names name = list_any (λ n. bytes_eq n name) names

-- the position of a label in words, where the first of these lines has the position `at`: that of the first line that sets it
abbrev pub position_from : ℕ → List (List ℕ) → List ℕ → Option ℕ
position_from at [] name = None
position_from at (line ∷ lines) name = if has (labels line) name then Some at else position_from (at + width (line_meaning line)) lines name

-- the position of a label of a text with these lines
abbrev pub label_position : List (List ℕ) → List ℕ → Option ℕ
label_position lines name = position_from 0 lines name

-- whether one of the names was there before, among these or earlier in the list
abbrev pub repeats : List (List ℕ) → List (List ℕ) → Bool
repeats before [] = false
repeats before (n ∷ ns) = has before n || repeats (before ++ (n ∷ [])) ns

-- the offset of a branch at the word `at` to the word `to`, from the word after the branch
abbrev pub branch_offset : ℕ → ℕ → ℤ
branch_offset at to = pos to +ℤ neg_ℤ (pos (at + 1))

-- a branch at a position, whose label has this position
abbrev pub branch_to : ℕ → ℕ → Option ℕ → LineMeaning
branch_to w at None = unknown_label
branch_to w at (Some to) = with_reading (word w) (Some (signed_operand (branch_offset at to)))

-- a jump to a label that has this position
abbrev pub jump_to : ℕ → Option ℕ → LineMeaning
jump_to w None = unknown_label
jump_to w (Some to) = with_reading (word w) (Some (adds (to % 2 ^ 26)))

-- what a line at a position gives where the positions of the labels are known
abbrev pub labels_resolved : (List ℕ → Option ℕ) → ℕ → LineMeaning → LineMeaning
labels_resolved position at (branch w l) = branch_to w at (position l)
labels_resolved position at (jump w l) = jump_to w (position l)
labels_resolved position at m = m

-- the fault in what a line gives, for the line with this number, whose first bad byte stands at this position of the text
abbrev pub meaning_fault : ℕ → ℕ → LineMeaning → Option AsmFault
meaning_fault bad number bad_byte = Some (BadByte bad)
meaning_fault bad number unknown = Some (UnknownMnemonic number)
meaning_fault bad number bad_operand = Some (BadOperand number)
meaning_fault bad number (out_of_range z n) = Some (OutOfRange number z)
meaning_fault bad number unknown_label = Some (UnknownLabel number)
meaning_fault bad number m = None

-- the words in what a line gives
abbrev pub meaning_words : LineMeaning → List ℕ
meaning_words (word w) = w ∷ []
meaning_words (zeros n) = replicate n 0
meaning_words m = []

-- the fault of a line that sets a label again
abbrev pub twice_fault : ℕ → Bool → Option AsmFault
twice_fault number twice = if twice then Some (LabelTwice number) else None

-- the fault of a line after the lines `before`, in a text with these lines
abbrev pub line_fault : List (List ℕ) → List (List ℕ) → List ℕ → Option AsmFault
line_fault lines before line =
    option_or (meaning_fault (bytes_in before + prefix_len is_good_byte line) (length before + 1)
    (labels_resolved (label_position lines) (word_count before) (line_meaning line)))
    (twice_fault (length before + 1) (repeats (flat_map labels before) (labels line)))

-- the first fault of the lines `rest` after the lines `before`; after the last line, that there are too many words
abbrev pub first_fault : List (List ℕ) → List (List ℕ) → List (List ℕ) → Option AsmFault
first_fault lines before [] = if nat_lt 65536 (word_count before) then Some TooLong else None
first_fault lines before (line ∷ rest) = option_or (line_fault lines before line) (first_fault lines (before ++ (line ∷ [])) rest)

-- the words of the lines `rest` after the lines `before`
abbrev pub words_of_lines : List (List ℕ) → List (List ℕ) → List (List ℕ) → List ℕ
words_of_lines lines before [] = []
words_of_lines lines before (line ∷ rest) =
    meaning_words (labels_resolved (label_position lines) (word_count before) (line_meaning line)) ++ words_of_lines lines (before ++ (line ∷ [])) rest

-- the first fault, or else the words
abbrev pub fault_or : Option AsmFault → List ℕ → Result (List ℕ) AsmFault
fault_or (Some f) ws = Err f
fault_or None ws = Ok ws

-- the answer for a text
unfoldable pub assembled : List ℕ → Result (List ℕ) AsmFault
assembled text = fault_or (first_fault (asm_lines text) [] (asm_lines text)) (words_of_lines (asm_lines text) [] (asm_lines text))
