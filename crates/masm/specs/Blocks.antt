-- Blocks of code: a body under a condition, and a loop, as instructions and as words.
use Rattle.std.specs.Prelude.{ℕ, ◌+◌, ◌-◌, ◌/◌, ◌%◌, List, [], ◌∷◌, ◌++◌, length}
use Rattle.mips_table.specs.declared.inst.Inst.{Inst}
use Rattle.mips_table.specs.declared.inst.Inst.TheVariants.{Beq, Ori, Lui}
use Rattle.mips_table.specs.Encoding.{encoding}

-- the 16 bits of a number that is taken off
abbrev pub minus : ℕ → ℕ
minus n = 65536 - n

-- a number in a register
abbrev pub load_immediate_code : (r v : ℕ) → List Inst
load_immediate_code r v = Lui r (v / 65536) ∷ Ori r r (v % 65536) ∷ []

-- the body is run where the register isn't 0
abbrev pub when_code : ℕ → List Inst → List Inst
when_code r body = Beq r 0 (length body) ∷ body

-- the instruction back to a loop's first word, with so many words between
abbrev pub back_code : ℕ → Inst
back_code inside = Beq 0 0 (65536 - (inside + 2))

-- the test is run, and then, as long as the register isn't 0, the body and the test
abbrev pub loop_code : List Inst → ℕ → List Inst → List Inst
loop_code test r body = test ++ Beq r 0 (length body + 1) ∷ (body ++ back_code (length test + length body) ∷ [])

-- the words of a body under a condition
abbrev pub when_words : ℕ → List ℕ → List ℕ
when_words r body = encoding (Beq r 0 (length body)) ∷ body

-- the words of a loop
abbrev pub loop_words : List ℕ → ℕ → List ℕ → List ℕ
loop_words test r body = test ++ encoding (Beq r 0 (length body + 1)) ∷ (body ++ encoding (back_code (length test + length body)) ∷ [])
