-- The code of asm functions behind the test of the stack and before the return: registers 2 to 7 are set, and then the body's words run.
use Rattle.std.specs.Prelude.{ℕ, ◌+◌, nat_lt, if◌then◌else◌, List, [], ◌∷◌, ◌++◌, map, Option, Some, None}
use Rattle.mips_table.specs.declared.inst.Inst.{Inst}
use Rattle.mips_table.specs.declared.inst.Inst.TheVariants.{Addu, Sll}
use Rattle.mips_table.specs.Decoding.{decoding}

-- register 4 + i becomes argument i, which register 20 + i has, or 0 where there are not so many
abbrev pub argument_code : (count i : ℕ) → Inst
argument_code count i = Addu (4 + i) (if nat_lt i count then 20 + i else 0) 0

-- registers 2 and 3 become 0, and registers 4 to 7 become the arguments, of which there are so many, and 0
abbrev pub arguments_code : ℕ → List Inst
arguments_code count =
    Addu 2 0 0 ∷ Addu 3 0 0 ∷ argument_code count 0 ∷ argument_code count 1 ∷ argument_code count 2 ∷ argument_code count 3 ∷ []

-- this instruction, or none that does anything
abbrev pub inst_or_none : Option Inst → Inst
inst_or_none (Some i) = i
inst_or_none None = Sll 0 0 0

-- the instruction of a word
abbrev pub instruction_of : ℕ → Inst
instruction_of word = inst_or_none (decoding word)

-- the instructions of words
abbrev pub asm_body_code : List ℕ → List Inst
asm_body_code words = map instruction_of words

-- the arguments are set, of which there are so many, and the words run
abbrev pub asm_code : ℕ → List ℕ → List Inst
asm_code count words = arguments_code count ++ asm_body_code words
