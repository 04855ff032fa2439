-- The numbers of a fault.
use Rattle.std.specs.Prelude.{ℕ, ℤ, Option, Some, None}
use Rattle.mips_asm.specs.declared.fault.AsmFault.{AsmFault}
use Rattle.mips_asm.specs.declared.fault.AsmFault.TheVariants.{BadByte, UnknownMnemonic, BadOperand, OutOfRange, UnknownLabel, LabelTwice, TooLong, Memory}

-- the number that is printed for a fault
abbrev pub asm_fault_number : AsmFault → ℕ
asm_fault_number (BadByte at) = 1
asm_fault_number (UnknownMnemonic line) = 2
asm_fault_number (BadOperand line) = 3
asm_fault_number (OutOfRange line value) = 4
asm_fault_number (UnknownLabel line) = 5
asm_fault_number (LabelTwice line) = 6
asm_fault_number TooLong = 7
asm_fault_number Memory = 8

-- the byte of the text that a fault names
abbrev pub asm_fault_position : AsmFault → Option ℕ
asm_fault_position (BadByte at) = Some at
asm_fault_position other = None

-- the line of the text that a fault names
abbrev pub asm_fault_line : AsmFault → Option ℕ
asm_fault_line (BadByte at) = None
asm_fault_line (UnknownMnemonic line) = Some line
asm_fault_line (BadOperand line) = Some line
asm_fault_line (OutOfRange line value) = Some line
asm_fault_line (UnknownLabel line) = Some line
asm_fault_line (LabelTwice line) = Some line
asm_fault_line TooLong = None
asm_fault_line Memory = None

-- the number that its operand can't have
abbrev pub asm_fault_value : AsmFault → Option ℤ
asm_fault_value (OutOfRange line value) = Some value
asm_fault_value other = None
