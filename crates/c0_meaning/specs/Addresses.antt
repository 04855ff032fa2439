-- Where parts of values begin, in words from where the value begins; and that parts of one type don't begin at one place.
use Rattle.std.specs.Prelude.{◌≡◌, ℕ, ◌+◌, ◌*◌, ◌≤◌, List, [], ◌∷◌, unwrap_or, slice_get}
use Rattle.c0_tree.specs.Primitives.{CPrimitive}
use Rattle.c0_tree.specs.Tree.{CUnit}
use Rattle.c0_meaning.specs.Ty.{Ty, int, named, array}
use Rattle.c0_meaning.specs.Env.{Shape}
use Rattle.c0_meaning.specs.Words.{shape_fields, words}
use Rattle.c0_meaning.specs.Sound.{shapes}
use Rattle.c0_meaning.specs.Sizes.{words_before}
use Rattle.c0_meaning.specs.Unit.{IsWellFormed}
use Rattle.c0_meaning.specs.TypedState.{types_of, LeadsFrom}

-- the type of a number among types
abbrev pub nth_type : List Ty → ℕ → Ty
nth_type types i = unwrap_or (slice_get types i) int

-- the words before the part at a path, in a value of a type
abbrev pub words_to : List Shape → Ty → List ℕ → ℕ
words_to structs t [] = 0
words_to structs (named x) (i ∷ path) =
    let types = types_of (shape_fields structs x) in words_before structs types i + words_to structs (nth_type types i) path
words_to structs (array t n) (i ∷ path) = i * words structs t + words_to structs t path
words_to structs _ (i ∷ path) = 0

-- the words before the part at a path, in values of these types one after another
abbrev pub words_to_part : List Shape → List Ty → List ℕ → ℕ
words_to_part structs types [] = 0
words_to_part structs types (i ∷ path) = words_before structs types i + words_to structs (nth_type types i) path

-- A law: of variables or objects of a unit that is well formed, different parts of one type that has a word begin at different words. So two
-- pointers of a type are equal exactly where their addresses are.
abbrev pub PartsAreApart : Type 0
PartsAreApart = (primitives : List CPrimitive) (u : CUnit) (types : List Ty) (p q : List ℕ) (t : Ty) → IsWellFormed primitives u
    → LeadsFrom (shapes u) types p t → LeadsFrom (shapes u) types q t → 1 ≤ words (shapes u) t
    → words_to_part (shapes u) types p ≡ words_to_part (shapes u) types q → p ≡ q
