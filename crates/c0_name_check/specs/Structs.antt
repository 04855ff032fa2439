-- Types by a map from the names of structs to their numbers, and by the words of each struct: so a type is checked while the structs
-- themselves are written.
use Rattle.std.specs.Prelude.{◌≡◌, ℕ, ◌*◌, min, get_or, nat_lt, List, [], ◌∷◌, ◌++◌, Option, Some, None}
use Rattle.std.specs.declared.vec.Vec.{Vec}
use Rattle.indexmap.specs.IndexMap.{IndexMap}
use Rattle.c0_tree.specs.declared.tree.Span.{Span}
use Rattle.c0_tree.specs.declared.tree.Kind.TheVariants.{Struct}
use Rattle.c0_tree.specs.Tree.{CName, CTy, int, bool, pointer, named, array}
use Rattle.c0_meaning.specs.Ty as ty
use Rattle.c0_meaning.specs.Env.{Shape}
use Rattle.c0_meaning.specs.Fault.{Fault, fault, UNKNOWN_NAME, TYPE_TOO_LARGE, EMPTY_ARRAY}
use Rattle.c0_meaning.specs.Sizes.{WORDS_CAP}
use Rattle.c0_meaning.specs.Words.{words}
use Rattle.c0_meaning.specs.DeclaredTypes.{MAX_TYPE_WORDS, fault_if, has_empty_array}
use Rattle.c0_meaning.specs.Resolved.{standing_for}
use Rattle.c0_name_check.specs.Names.{look, number_named}

-- the fault of a struct's name at this span, if it has no number
abbrev pub unknown_name : Option ℕ → Span → List Fault
unknown_name None span = fault UNKNOWN_NAME span ∷ []
unknown_name (Some n) span = []

-- the names in a type that have no number
abbrev pub unknown_by : (List ℕ → Option ℕ) → CTy → List Fault
unknown_by number int = []
unknown_by number bool = []
unknown_by number (pointer t) = unknown_by number t
unknown_by number (named x) = unknown_name (number x.text) x.span
unknown_by number (array t n) = unknown_by number t

-- a struct's name with its number
abbrev pub numbered_struct : CName → Option ℕ → CName
numbered_struct x None = x
numbered_struct x (Some n) = standing_for Struct n x

-- a type whose names have their numbers
abbrev pub numbered_type : (List ℕ → Option ℕ) → CTy → CTy
numbered_type number int = int
numbered_type number bool = bool
numbered_type number (pointer t) = pointer (numbered_type number t)
numbered_type number (named x) = named (numbered_struct x (number x.text))
numbered_type number (array t n) = array (numbered_type number t) n

-- the words of the struct of a number
abbrev pub listed_words : List ℕ → Option ℕ → ℕ
listed_words sizes None = 0
listed_words sizes (Some n) = get_or sizes n 0

-- the words of a type, up to the cap
abbrev pub capped_words : (List ℕ → Option ℕ) → List ℕ → CTy → ℕ
capped_words number sizes int = 1
capped_words number sizes bool = 1
capped_words number sizes (pointer t) = 1
capped_words number sizes (named x) = listed_words sizes (number x.text)
capped_words number sizes (array t n) = min (capped_words number sizes t * n) WORDS_CAP

-- the faults of a declared type
abbrev pub type_faults_by : (List ℕ → Option ℕ) → List ℕ → CTy → Span → List Fault
type_faults_by number sizes t span =
    unknown_by number t
    ++ (fault_if (has_empty_array t) EMPTY_ARRAY span ++ fault_if (nat_lt MAX_TYPE_WORDS (capped_words number sizes t)) TYPE_TOO_LARGE span)

-- the map tells the numbers of these structs, and the list their words up to the cap
pub record KnowsStructs {A S : Type 0} (names : IndexMap (Vec ℕ A) ℕ S) (sizes : List ℕ) (structs : List Shape) : Type 0 where
  pub numbers : (text : List ℕ) → look names text ≡ number_named (λ s. s.text) text 0 structs
  pub words : (text : List ℕ) (n : ℕ) → look names text ≡ Some n → get_or sizes n 0 ≡ min (words structs (ty.named text)) WORDS_CAP

-- what is so of the structs that map and list tell
abbrev pub OfStructs : {A S : Type 0} → IndexMap (Vec ℕ A) ℕ S → List ℕ → (List Shape → Type 0) → Type 0
OfStructs names sizes is = (structs : List Shape) → KnowsStructs names sizes structs → is structs
