-- What the emitters say of a test's code, whose branches lead nowhere yet.
use Rattle.std.specs.Prelude.{◌≡◌, ℕ, ◌+◌, ◌%◌, ◌^◌, Bool, true, false, not, ◌==◌, if◌then◌else◌}
use Rattle.std.specs.Prelude.{List, [], ◌∷◌, ◌++◌, length, map, Some, None, Result, OnOk, Vec}
use Rattle.mips_table.specs.declared.inst.Inst.{Inst}
use Rattle.mips_table.specs.Encoding.{encoding}
use Rattle.c0_expr_code.specs.Jumps.{Unpatched}
use Rattle.c0_expr_code.specs.Test.{ImmediateTest, below_code, negative_branch, positive_branch}

-- open code stands behind other words, and where its branches stand behind where others do
pub record StandsUnpatched (old new marked marks : List ℕ) (x : Unpatched) : Type 0 where
  pub words : new ≡ old ++ map encoding x.code
  pub places : marks ≡ marked ++ map (λ j. length old + j) x.jumps

-- open code was appended to the code, and where its branches stand to where others do, unless memory was wanting
abbrev pub AppendsTest : {A B T E : Type 0} → (old new : Vec ℕ A) → (marked marks : Vec ℕ B) → Unpatched → Result T E → Type 0
AppendsTest old new marked marks x result = OnOk result (StandsUnpatched old.items new.items marked.items marks.items x)

-- the test of a register against a constant, where there is one
abbrev pub test_with : ImmediateTest → Bool → (far q : ℕ) → List Inst
test_with (Some f) s far q = f s far q
test_with None s far q = []

-- whether there is one
abbrev pub is_test_immediate : ImmediateTest → Bool
is_test_immediate (Some f) = true
is_test_immediate None = false

-- the test of whether a register is below a constant, by its sign where that is 0
abbrev pub lower_code : (k : ℕ) → Bool → (q : ℕ) → List Inst
lower_code k s q = if k == 0 then negative_branch s q 0 ∷ [] else below_code k s 0 q

-- the test of whether a register is above a constant
abbrev pub higher_code : (k : ℕ) → Bool → (q : ℕ) → List Inst
higher_code k s q = if k == 0 then positive_branch s q 0 ∷ [] else below_code ((k + 1) % 2 ^ 32) (not s) 0 q
