-- What contracts see of a line that was read.
use Rattle.std.specs.Prelude.{ℕ, List, [], ◌∷◌, Option, Some, None}
use Rattle.c0_asm_text.specs.declared.line.Line.{Line}
use Rattle.c0_asm_text.specs.declared.line.Line.TheVariants.{Blank, Word, NotAllowed}
use Rattle.std.specs.Borrow.{Bor}
use Rattle.mips_asm.specs.Text.{asm_lines}

-- the words of a line, if it is allowed
abbrev pub allowed_line_view : Line → Option (List ℕ)
allowed_line_view Blank = Some []
allowed_line_view (Word w) = Some (w ∷ [])
allowed_line_view NotAllowed = None

-- the lines of what is left of a text, if anything is
abbrev pub lines_left : Option (Bor (List ℕ)) → List (List ℕ)
lines_left None = []
lines_left (Some rest) = asm_lines rest.now
