-- What the code of asm functions does, as a statement about runs of it, wherever it stands.
use Rattle.std.specs.Prelude.{◌≡◌, ℕ, ◌+◌, ◌^◌, ◌<◌, ◌≤◌, ◌⊎◌, IsTrue, List, length, map, All}
use Rattle.mips_table.specs.Device.{Idle}
use Rattle.mips_table.specs.Encoding.{InRange, encoding}
use Rattle.mips_table.specs.Code.{Contents, Behind, World, at_with, Reaches, CodeAt}
use Rattle.masm.specs.declared.registers.TheConstants.{ANSWER, ARGUMENTS}
use Rattle.cvm_words.specs.Words.{word_of}
use Rattle.c0_meaning.specs.Value.{Values, empty, part, int, count}
use Rattle.c0_meaning.specs.Asm.{are_allowed_words}
use Rattle.c0_meaning.specs.AsmBody.{asm_result}
use Rattle.c0_asm_body.specs.Code.{asm_body_code, asm_code}

-- these are ints, and the registers from r on have their words
abbrev pub HoldInts : (ℕ → ℕ) → ℕ → Values → Type 0
HoldInts regs r empty = Unit {0}
HoldInts regs r (part (int a) vs) = (regs r ≡ word_of a) × (regs r < 2 ^ 32) × HoldInts regs (r + 1) vs
HoldInts regs r (part v vs) = ⊥

-- register 2 has the body's result on these arguments, and of all else only registers 3 to 7 have changed
pub record IsDone (words : List ℕ) (args : Values) (c c' : Contents) : Type 0 where
  pub answer : c'.regs ANSWER ≡ word_of (asm_result words args)
  pub regs : (r : ℕ) → (r ≤ 1) ⊎ (8 ≤ r) → c'.regs r ≡ c.regs r
  pub memory : c'.memory ≡ c.memory
  pub hi : c'.hi ≡ c.hi
  pub lo : c'.lo ≡ c.lo
  pub special : c'.special ≡ c.special

-- The code of words that an asm body may have, with at most four arguments before it, is done within a step for each word and six more, and
-- takes at least the steps of the words.
abbrev pub AsmRuns : World → Type 0
AsmRuns w = (words : List ℕ) (args : Values) (n : ℕ) (c : Contents) (d : Behind) → IsTrue (are_allowed_words words) → count args ≤ 4 →
    HoldInts c.regs ARGUMENTS args →
    CodeAt w n (asm_code (count args) words) → d.pending ≡ Idle →
    (c' : Contents) × IsDone words args c c' × (r : Reaches w (6 + length words) (at_with n c d)
    (at_with (n + length (asm_code (count args) words)) c' d)) × (length words ≤ r.steps)

-- words that an asm body may have are those of their instructions, which are in range
pub record AreEncoded (words : List ℕ) : Type 0 where
  pub same : map encoding (asm_body_code words) ≡ words
  pub range : All InRange (asm_body_code words)
