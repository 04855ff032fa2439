-- A test's code before its target is known: its branches to the target have no distance yet, and are patched later.
use Rattle.std.specs.Prelude.{ℕ, ◌+◌, ◌-◌, ◌*◌, ◌/◌, ◌%◌, ◌^◌, Bool, true, false, List, [], ◌∷◌, ◌++◌, length, map, slice_index, slice_set}
use Rattle.mips_table.specs.declared.inst.Inst.{Inst}
use Rattle.c0_expr_code.specs.Test.{Testing}

-- code with distances 0, and where the branches to the target stand in it
pub record Unpatched : Type 0 where
  pub code : List Inst
  pub jumps : List ℕ

-- a test's, by s and the free registers
abbrev pub UnpatchedTest : Type 0
UnpatchedTest = Bool → (r : ℕ) → Unpatched

-- code whose last instruction is the branch
abbrev pub last_unpatched : List Inst → Unpatched
last_unpatched is = record { code = is; jumps = (length is - 1) ∷ [] }

-- behind other code
abbrev pub behind_unpatched : List Inst → Unpatched → Unpatched
behind_unpatched is x = record { code = is ++ x.code; jumps = map (λ j. length is + j) x.jumps }

-- both go to the target
abbrev pub joined_unpatched : Unpatched → Unpatched → Unpatched
joined_unpatched x y = record { code = x.code ++ y.code; jumps = x.jumps ++ map (λ j. length x.code + j) y.jumps }

-- both tests: where the first alone decides for s both go to the target, and else the first goes over the second
abbrev pub both_unpatched : (decides s : Bool) → Testing → UnpatchedTest → UnpatchedTest → (r : ℕ) → Unpatched
both_unpatched true true one x y r = joined_unpatched (x true r) (y true r)
both_unpatched true false one x y r = behind_unpatched (one true (length (y false r).code % 2 ^ 16) r) (y false r)
both_unpatched false true one x y r = behind_unpatched (one false (length (y true r).code % 2 ^ 16) r) (y true r)
both_unpatched false false one x y r = joined_unpatched (x false r) (y false r)

-- the word of a branch at a word of the code, which is to lead to another one
abbrev pub aimed_word : (to at word : ℕ) → ℕ
aimed_word to at word = word / 2 ^ 16 * 2 ^ 16 + (to + (2 ^ 64 - (at + 1))) % 2 ^ 16

-- words, of which the branches at these words are to lead to another one
abbrev pub patched : (to : ℕ) → List ℕ → List ℕ → List ℕ
patched to [] words = words
patched to (j ∷ js) words = patched to js (slice_set words j (aimed_word to j (slice_index words j)))
