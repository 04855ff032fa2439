-- The words of instructions, by their fields: opcode 31..26, rs 25..21, rt 20..16, rd 15..11, sa 10..6, funct 5..0, imm 15..0, index 25..0, code 25..6.
use Rattle.std.specs.Prelude.{ℕ, ◌+◌, ◌*◌, ◌/◌, ◌%◌, ◌^◌}
use Rattle.mips_table.specs.declared.fields.Fields.{Fields}

-- a word of three registers, a shift amount and a function number
abbrev pub r_word : ℕ → ℕ → ℕ → ℕ → ℕ → ℕ → ℕ
r_word opcode rs rt rd sa funct = opcode * 2 ^ 26 + rs * 2 ^ 21 + rt * 2 ^ 16 + rd * 2 ^ 11 + sa * 2 ^ 6 + funct

-- a word of two registers and an immediate
abbrev pub i_word : ℕ → ℕ → ℕ → ℕ → ℕ
i_word opcode rs rt imm = opcode * 2 ^ 26 + rs * 2 ^ 21 + rt * 2 ^ 16 + imm

-- a word of a jump index
abbrev pub j_word : ℕ → ℕ → ℕ
j_word opcode index = opcode * 2 ^ 26 + index

-- a word of a system call's code, with opcode 0
abbrev pub code_word : ℕ → ℕ → ℕ
code_word code funct = code * 2 ^ 6 + funct

-- the fields of a word
abbrev pub word_fields : ℕ → Fields
word_fields word = record {
  opcode = word / 2 ^ 26;
  rs = word / 2 ^ 21 % 2 ^ 5;
  rt = word / 2 ^ 16 % 2 ^ 5;
  rd = word / 2 ^ 11 % 2 ^ 5;
  sa = word / 2 ^ 6 % 2 ^ 5;
  funct = word % 2 ^ 6;
  imm = word % 2 ^ 16;
  index = word % 2 ^ 26;
  code = word / 2 ^ 6 % 2 ^ 20;
}
