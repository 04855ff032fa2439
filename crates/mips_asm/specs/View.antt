-- What the code's values mean.
use Rattle.std.specs.Prelude.{ℕ, List}
use Rattle.std.specs.Borrow.{Bor}
use Rattle.mips_asm.specs.declared.form.Form.{Form as CodeForm}
use Rattle.std.specs.Prelude.{[], ◌==◌, Option, Some, None}
use Rattle.std.specs.List.{slice_split}
use Rattle.mips_asm.specs.declared.line.Line.{Line}
use Rattle.mips_asm.specs.declared.line.Line.TheVariants.{BadByte, Unknown, BadOperand, OutOfRange, UnknownLabel, Nothing, Word, Zeros, Branch, Jump}
use Rattle.mips_asm.specs.Line.{LineMeaning, bad_byte, unknown, bad_operand, out_of_range, unknown_label, nothing, word, zeros, branch, jump}
use Rattle.mips_asm.specs.declared.operand.Reading.{Reading as CodeReading}
use Rattle.mips_asm.specs.declared.operand.Reading.TheVariants.{Adds, Out, BranchLabel, JumpLabel}
use Rattle.mips_asm.specs.Form.{Form}
use Rattle.mips_asm.specs.Operand.{OperandReading, adds, out, branch_label, jump_label}

-- a form
abbrev pub code_form_view : CodeForm → Form
code_form_view f = (f.inst, f.operands.now)

-- a text
abbrev pub text_view : Bor (List ℕ) → List ℕ
text_view t = t.now

-- what an operand's text says
abbrev pub reading_view : CodeReading → OperandReading
reading_view (Adds n) = adds n
reading_view (Out z) = out z
reading_view (BranchLabel text) = branch_label text.now
reading_view (JumpLabel text) = jump_label text.now

-- what a line gives
abbrev pub line_view : Line → LineMeaning
line_view BadByte = bad_byte
line_view Unknown = unknown
line_view BadOperand = bad_operand
line_view (OutOfRange value words) = out_of_range value words
line_view UnknownLabel = unknown_label
line_view Nothing = nothing
line_view (Word w) = word w
line_view (Zeros n) = zeros n
line_view (Branch w text) = branch w text.now
line_view (Jump w text) = jump w text.now

-- the texts of operands that are left
abbrev pub parts_left : Option (Bor (List ℕ)) → List (List ℕ)
parts_left None = []
parts_left (Some t) = slice_split (λ x. x == 44) t.now
