-- What the text of an operand says.
use Rattle.std.specs.Prelude.{ℕ, ℤ, pos, negsuc, ◌+◌, ◌-◌, ◌*◌, ◌^◌, ◌&&◌, ◌==◌, List, length, drop}
use Rattle.std.specs.Prelude.{take, slice_index, slice_range, Option, Some, None, not, option_map, option_and_then, if◌then◌else◌, nat_lt, nat_le}
use Rattle.std.specs.Int.{w16}
use Rattle.std.proofs.Common.{of_z}
use Rattle.std.specs.Int.Signed.{le_z}
use Rattle.std.specs.List.{prefix_len}
use Rattle.mips_asm.specs.declared.form.Operand.{Operand}
use Rattle.mips_asm.specs.declared.form.Operand.TheVariants.{Register, Special, Amount, Code, Signed, Unsigned, Branch, Jump, Memory}
use Rattle.mips_asm.specs.declared.form.Field.{Field}
use Rattle.mips_asm.specs.declared.form.Field.TheVariants.{Rs, Rt, Rd}
use Rattle.mips_asm.specs.Number.{number_value, is_name, decimal_number}
use Rattle.mips_asm.specs.Text.{trim}

-- what an operand's text says: a number to add to the word, a value out of range, or a label to branch or jump to
pub data OperandReading : Type 0 where
  adds : ℕ → OperandReading
  out : ℤ → OperandReading
  branch_label : List ℕ → OperandReading
  jump_label : List ℕ → OperandReading

-- where a register's field begins in the word
abbrev pub first_bit : Field → ℕ
first_bit Rs = 21
first_bit Rt = 16
first_bit Rd = 11

-- a letter and the decimal number of a register below a limit
abbrev pub numbered : ℕ → ℕ → List ℕ → Option ℕ
numbered letter limit text =
    if slice_index text 0 == letter then option_and_then (λ r. if nat_lt r limit then Some r else None) (decimal_number (drop 1 text)) else None

-- `r0` to `r31`
abbrev pub register : List ℕ → Option ℕ
register text = numbered 114 32 text

-- a number of 16 bits with a sign
abbrev pub signed_operand : ℤ → OperandReading
signed_operand z = if le_z (negsuc 32767) z && le_z z (pos 32767) then adds (of_z w16 z) else out z

-- a number below a limit, whose field begins at a bit
abbrev pub unsigned : ℕ → ℕ → ℤ → OperandReading
unsigned limit position (pos n) = if nat_lt n limit then adds (n * 2 ^ position) else out (pos n)
unsigned limit position (negsuc n) = out (negsuc n)

-- the register of an address beside its number
abbrev pub and_register : ℕ → OperandReading → OperandReading
and_register r (adds n) = adds (n + r * 2 ^ 21)
and_register r read = read

-- a number and the register in parentheses after it
abbrev pub with_base : Option ℤ → Option ℕ → Option OperandReading
with_base None r = None
with_base (Some z) None = None
with_base (Some z) (Some r) = Some (and_register r (signed_operand z))

-- the length of what stands before the first byte of a kind
abbrev pub len_before : ℕ → List ℕ → ℕ
len_before byte text = prefix_len (λ c. not (c == byte)) text

-- a text in parentheses
abbrev pub in_parentheses : List ℕ → Option (List ℕ)
in_parentheses text = if nat_le 2 (length text) && slice_index text (length text - 1) == 41 then Some (slice_range text 1 (length text - 1)) else None

-- a number, and a register in parentheses
abbrev pub memory : List ℕ → Option OperandReading
memory text = with_base (number_value (trim (take (len_before 40 text) text)))
    (option_and_then (λ t. register (trim t)) (in_parentheses (drop (len_before 40 text) text)))

-- what the text of an operand says, if it has the operand's form
abbrev pub reading : Operand → List ℕ → Option OperandReading
reading (Register field) text = option_map (λ r. adds (r * 2 ^ first_bit field)) (register text)
reading Special text = option_map (λ k. adds (k * 2 ^ 11)) (numbered 99 9 text)
reading Amount text = option_map (unsigned 32 6) (number_value text)
reading Code text = option_map (unsigned (2 ^ 20) 6) (number_value text)
reading Signed text = option_map signed_operand (number_value text)
reading Unsigned text = option_map (unsigned (2 ^ 16) 0) (number_value text)
reading Branch text = if is_name text then Some (branch_label text) else option_map signed_operand (number_value text)
reading Jump text = if is_name text then Some (jump_label text) else option_map (unsigned (2 ^ 26) 0) (number_value text)
reading Memory text = memory text
