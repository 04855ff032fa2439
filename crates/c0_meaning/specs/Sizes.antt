-- The words of a unit's structs as a table, and where declarations stand one after another.
use Rattle.std.specs.Prelude.{◌≡◌, ℕ, zero, suc, ◌+◌, min, List, [], ◌∷◌, map}
use Rattle.c0_tree.specs.Tree.{CUnit}
use Rattle.c0_tree.specs.Primitives.{CPrimitive}
use Rattle.c0_meaning.specs.Ty.{Ty, named}
use Rattle.c0_meaning.specs.Env.{Shape}
use Rattle.c0_meaning.specs.Words.{words}
use Rattle.c0_meaning.specs.Sound.{shapes, IsSizedUnit}
use Rattle.c0_meaning.specs.Unit.{IsWellFormed}

-- how many words are told apart: one more than a type may have
abbrev pub WORDS_CAP : ℕ
WORDS_CAP = 1048577

-- the words of a type, up to the cap
abbrev pub capped : List Shape → Ty → ℕ
capped structs t = min (words structs t) WORDS_CAP

-- the words of each struct, by its number, up to the cap
abbrev pub struct_sizes : List Shape → List ℕ
struct_sizes structs = map (λ s. capped structs (named s.text)) structs

-- a unit that is well formed for some table of primitives, and the words of its structs
pub record IsMeasured (u : CUnit) (sizes : List ℕ) : Type 0 where
  pub table : List CPrimitive
  pub well_formed : IsWellFormed table u
  pub told : sizes ≡ struct_sizes (shapes u)

-- the words before the one of a number, of values of these types one after another
abbrev pub words_before : List Shape → List Ty → ℕ → ℕ
words_before structs [] i = 0
words_before structs (t ∷ ts) zero = 0
words_before structs (t ∷ ts) (suc i) = words structs t + words_before structs ts i

-- a law: in a well formed unit each declared type has few words, and its names are resolved
abbrev pub UnitsAreSized : Type 0
UnitsAreSized = (primitives : List CPrimitive) (u : CUnit) → IsWellFormed primitives u → IsSizedUnit u
