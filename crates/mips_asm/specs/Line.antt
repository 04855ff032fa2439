-- The meaning of a line, its labels apart.
use Rattle.std.specs.Prelude.{ℕ, ℤ, pos, negsuc, ◌+◌, ◌^◌, ◌%◌, ◌&&◌, ◌||◌, ◌==◌, Bool, true, false, List}
use Rattle.std.specs.Prelude.{[], ◌∷◌, length, drop, take, slice_index, codes, bytes_eq, Option, Some, None, is_some, if◌then◌else◌, nat_le}
use Rattle.std.specs.Int.{w32}
use Rattle.std.proofs.Common.{of_z}
use Rattle.std.specs.Int.Signed.{le_z}
use Rattle.std.specs.Char.{is_ascii_whitespace}
use Rattle.std.specs.List.{list_all, slice_split, prefix_len}
use Rattle.mips_table.specs.Encoding.{encoding}
use Rattle.mips_asm.specs.declared.form.Operand.{Operand}
use Rattle.mips_asm.specs.declared.form.Operand.TheVariants.{Code}
use Rattle.mips_asm.specs.Number.{number_value, in_name}
use Rattle.mips_asm.specs.Text.{trim, trim_start, content, colon_parts, after_labels, is_good_byte}
use Rattle.mips_asm.specs.Form.{Form, form_of}
use Rattle.mips_asm.specs.Operand.{OperandReading, adds, out, branch_label, jump_label, reading}

-- what a line gives, before the positions of the labels are known
pub data LineMeaning : Type 0 where
  -- a byte that no text may have: no word
  bad_byte : LineMeaning
  -- no mnemonic, or operands without its form: no word
  unknown : LineMeaning
  bad_operand : LineMeaning
  -- a value out of range, and the words that the line counts
  out_of_range : ℤ → ℕ → LineMeaning
  -- a label that is never set
  unknown_label : LineMeaning
  nothing : LineMeaning
  word : ℕ → LineMeaning
  zeros : ℕ → LineMeaning
  -- the word with the offset or index 0, and the label
  branch : ℕ → List ℕ → LineMeaning
  jump : ℕ → List ℕ → LineMeaning

-- one more operand
abbrev pub with_reading : LineMeaning → Option OperandReading → LineMeaning
with_reading m None = bad_operand
with_reading (word w) (Some (adds n)) = word ((w + n) % 2 ^ 32)
with_reading (word w) (Some (out z)) = out_of_range z 1
with_reading (word w) (Some (branch_label l)) = branch w l
with_reading (word w) (Some (jump_label l)) = jump w l
with_reading m (Some r) = m

-- a trap's code may be left out
abbrev pub may_be_left_out : Operand → Bool
may_be_left_out Code = true
may_be_left_out _ = false

-- the operands of these kinds, in order
abbrev pub with_operands : LineMeaning → List Operand → List (List ℕ) → LineMeaning
with_operands m [] [] = m
with_operands m [] (t ∷ ts) = bad_operand
with_operands m (k ∷ ks) [] = if may_be_left_out k then with_operands m ks [] else bad_operand
with_operands m (k ∷ ks) (t ∷ ts) = with_operands (with_reading m (reading k (trim t))) ks ts

-- the texts of the operands: none in a blank rest, else the parts between the commas
abbrev pub operand_texts : List ℕ → List (List ℕ)
operand_texts rest = if list_all is_ascii_whitespace rest then [] else slice_split (λ c. c == 44) rest

-- what `.word` gives
abbrev pub word_directive : Option ℤ → LineMeaning
word_directive None = bad_operand
word_directive (Some z) = if le_z (negsuc 2147483647) z && le_z z (pos 4294967295) then word (of_z w32 z) else out_of_range z 1

-- what `.zero` gives
abbrev pub zero_directive : Option ℤ → LineMeaning
zero_directive None = bad_operand
zero_directive (Some (pos n)) = if nat_le n 65536 then zeros n else out_of_range (pos n) 0
zero_directive (Some (negsuc n)) = out_of_range (negsuc n) 0

-- the mnemonic's length: the longest name, with `.` before it in a directive
abbrev pub mnemonic_len : List ℕ → ℕ
mnemonic_len s = if slice_index s 0 == 46 then 1 + prefix_len in_name (drop 1 s) else prefix_len in_name s

-- an instruction that has this word where its operands are 0, and these operands
abbrev pub word_meaning : ℕ → List Operand → List ℕ → LineMeaning
word_meaning w ks rest = with_operands (word w) ks (operand_texts rest)

-- an instruction of a form
abbrev pub instruction : Option Form → List ℕ → LineMeaning
instruction None rest = unknown
instruction (Some f) rest = word_meaning (encoding f.0) f.1 rest

-- a mnemonic or directive, and what stands after it
abbrev pub named : List ℕ → List ℕ → LineMeaning
named mnemonic rest =
    if bytes_eq mnemonic (codes ".word") then word_directive (number_value (trim rest))
    else if bytes_eq mnemonic (codes ".zero") then zero_directive (number_value (trim rest))
    else instruction (form_of mnemonic) rest

-- a statement with no blank before it
unfoldable pub statement : List ℕ → LineMeaning
statement s = if length s == 0 then nothing else named (take (mnemonic_len s) s) (drop (mnemonic_len s) s)

-- whether there is such a mnemonic or directive
abbrev pub is_known : List ℕ → Bool
is_known mnemonic = bytes_eq mnemonic (codes ".word") || bytes_eq mnemonic (codes ".zero") || is_some (form_of mnemonic)

-- a statement with a colon in it: no operand has one
abbrev pub left_colon : List ℕ → LineMeaning
left_colon p = if is_known (take (mnemonic_len (trim_start p)) (trim_start p)) then bad_operand else unknown

-- what stands after the labels, cut at its colons
abbrev pub of_parts : List (List ℕ) → LineMeaning
of_parts [] = nothing
of_parts (p ∷ []) = statement (trim_start p)
of_parts (p ∷ (q ∷ ps)) = left_colon p

-- what a line gives
unfoldable pub line_meaning : List ℕ → LineMeaning
line_meaning line = if list_all is_good_byte line then of_parts (after_labels (colon_parts (content line))) else bad_byte

-- how many words a line counts for the addresses
abbrev pub width : LineMeaning → ℕ
width (word w) = 1
width (zeros n) = n
width (branch w l) = 1
width (jump w l) = 1
width unknown_label = 1
width (out_of_range z n) = n
width m = 0
