-- The environment in which a function's body is read.
use Rattle.std.specs.Prelude.{◌≡◌, ℕ, List, [], Option, Some, None, slice_get}
use Rattle.c0_tree.specs.Tree.{CFunction, CUnit}
use Rattle.c0_meaning.specs.Env.{Env, env_of}
use Rattle.c0_meaning.specs.Offsets.{offsets}
use Rattle.c0_meaning.specs.Sound.{shapes}
use Rattle.c0_meaning.specs.TypeAt.{env_in}
use Rattle.c0_meaning.specs.TypedState.{types_of, variable_types}
use Rattle.c0_meaning.specs.Words.{shape_fields}
use Rattle.c0_typed.specs.Typed.{words_ahead}

-- this is so of the function of a number of a unit, if it is there
abbrev pub OfFunction : CUnit → ℕ → (CFunction → Type 0) → Type 0
OfFunction u number P = (f : CFunction) → slice_get u.functions number ≡ Some f → P f

-- these are the words before each of its variables
abbrev pub HasOffsets : CUnit → ℕ → List ℕ → Type 0
HasOffsets u number words = OfFunction u number (λ f. words ≡ offsets (shapes u) (variable_types f))

-- what names stand for in a function of a unit, if it is there
abbrev pub env_at : CUnit → Option CFunction → Env
env_at u (Some f) = env_in u f
env_at u None = env_of [] u []

-- the words before the field of a number in the struct of a name
abbrev pub words_to_field : CUnit → (owner : List ℕ) → ℕ → ℕ
words_to_field u owner n = words_ahead (shapes u) (types_of (shape_fields (shapes u) owner)) n
