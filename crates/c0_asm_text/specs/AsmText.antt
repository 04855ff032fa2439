-- What the text of an asm function says. Each of its lines is blank, a comment, or one instruction of the assembler that an asm
-- function may have; it has neither label nor directive.
use Rattle.std.specs.Prelude.{ℕ, ◌+◌, Bool, not, ◌&&◌, ◌==◌, List, [], ◌∷◌, ◌++◌, slice_index, Option, Some, None, is_some, Result, Ok, Err, if◌then◌else◌}
use Rattle.std.specs.List.{list_any}
use Rattle.mips_asm.specs.declared.fault.AsmFault.{AsmFault}
use Rattle.mips_asm.specs.Text.{asm_lines, content, trim_start}
use Rattle.mips_asm.specs.Assembled.{assembled}
use Rattle.c0_meaning.specs.Asm.{is_allowed_word}

-- whether a line has no label and no directive: no `:` before its comment, and no `.` at its start
abbrev pub is_plain_line : List ℕ → Bool
is_plain_line line = not (list_any (λ c. c == 58) (content line)) && not (slice_index (trim_start line) 0 == 46)

-- what a line that assembles by itself to these words says
abbrev pub allowed : List ℕ → Option (List ℕ)
allowed [] = Some []
allowed (w ∷ []) = if is_allowed_word w then Some (w ∷ []) else None
allowed (w ∷ (v ∷ ws)) = None

-- what a line says by itself
abbrev pub of_assembled : Result (List ℕ) AsmFault → Option (List ℕ)
of_assembled (Ok ws) = allowed ws
of_assembled (Err f) = None

-- the words of a line, none or one, if the line is allowed
unfoldable pub line_words : List ℕ → Option (List ℕ)
line_words line = if is_plain_line line then of_assembled (assembled line) else None

-- these words, if the line has them
abbrev pub words_if : Option (List ℕ) → List ℕ
words_if None = []
words_if (Some ws) = ws

-- the words of the lines that are allowed
abbrev pub allowed_words : List (List ℕ) → List ℕ
allowed_words [] = []
allowed_words (line ∷ rest) = words_if (line_words line) ++ allowed_words rest

-- the first line that isn't allowed, where the first of them has this number
abbrev pub first_bad : ℕ → List (List ℕ) → Option ℕ
first_bad number [] = None
first_bad number (line ∷ rest) = if is_some (line_words line) then first_bad (number + 1) rest else Some number

-- the words of a text
abbrev pub text_words : List ℕ → List ℕ
text_words text = allowed_words (asm_lines text)

-- the first line of a text that isn't allowed; that of the brace before the text is 1
abbrev pub bad_line : List ℕ → Option ℕ
bad_line text = first_bad 1 (asm_lines text)
