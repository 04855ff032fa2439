-- How many words a type takes, and which structs hold themselves.
use Rattle.std.specs.Prelude.{◌≡◌, ℕ, zero, suc, ◌+◌, ◌*◌, Bool, false, ◌||◌, ◌&&◌, ◌↔◌, IsTrue, if◌then◌else◌, List, [], ◌∷◌, length, map}
use Rattle.std.specs.Str.{bytes_eq}
use Rattle.c0_meaning.specs.Ty.{Ty, int, bool, pointer, named, array}
use Rattle.c0_meaning.specs.Env.{Typed, Shape, first_named, fields_of}

-- whether a value of the type has the struct of this name in it, itself or as the element of arrays: not behind a pointer
abbrev pub is_made_of : List ℕ → Ty → Bool
is_made_of x int = false
is_made_of x bool = false
is_made_of x (pointer t) = false
is_made_of x (named y) = bytes_eq y x
is_made_of x (array t n) = is_made_of x t

-- the fields of the struct of a name: a struct that isn't defined has none
abbrev pub shape_fields : List Shape → List ℕ → List Typed
shape_fields structs x = fields_of (first_named (λ s. s.text) x 0 structs)

-- whether one of these fields is, or is an array of, the struct of this name
abbrev pub have_field : List Typed → List ℕ → Bool
have_field [] x = false
have_field (d ∷ rest) x = is_made_of x d.ty || have_field rest x

-- whether the struct of a name has a field that is, or is an array of, the struct of another
abbrev pub has_field_of : List Shape → List ℕ → List ℕ → Bool
has_field_of structs owner x = have_field (shape_fields structs owner) x

-- a struct holds another: by a field, or by a field that holds it
pub data StructHolds (structs : List Shape) : List ℕ → List ℕ → Type 0 where
  by_field : {owner x : List ℕ} → IsTrue (has_field_of structs owner x) → StructHolds structs owner x
  by_part : {owner part x : List ℕ} → IsTrue (has_field_of structs owner part) → StructHolds structs part x → StructHolds structs owner x

-- whether a struct holds another through structs that have one of these names
abbrev pub holds_through : List Shape → List (List ℕ) → List ℕ → List ℕ → Bool
holds_through structs [] owner x = has_field_of structs owner x
holds_through structs (part ∷ parts) owner x =
    holds_through structs parts owner x || (holds_through structs parts owner part && holds_through structs parts part x)

-- whether the struct of a name holds the struct of another
unfoldable pub holds : List Shape → List ℕ → List ℕ → Bool
holds structs owner x = holds_through structs (map (λ s. s.text) structs) owner x

-- the words of a type, where those of each struct are given: a scalar has 1, an array its length times its element's
abbrev pub words_with : (List ℕ → ℕ) → Ty → ℕ
words_with struct_words int = 1
words_with struct_words bool = 1
words_with struct_words (pointer t) = 1
words_with struct_words (named x) = struct_words x
words_with struct_words (array t n) = n * words_with struct_words t

-- the words of declarations one after another, where those of each struct are given
abbrev pub all_words_with : (List ℕ → ℕ) → List Typed → ℕ
all_words_with struct_words [] = 0
all_words_with struct_words (d ∷ rest) = words_with struct_words d.ty + all_words_with struct_words rest

-- the words of the struct of a name, where structs are opened so deep: those of its fields, and 0 for a struct that holds itself
abbrev pub words_within : ℕ → List Shape → List ℕ → ℕ
words_within zero structs x = 0
words_within (suc depth) structs x = if holds structs x x then 0 else all_words_with (words_within depth structs) (shape_fields structs x)

-- the words of the struct of a name: no struct that doesn't hold itself is deeper than there are structs
unfoldable pub struct_words : List Shape → List ℕ → ℕ
struct_words structs x = words_within (length structs) structs x

-- the words of a type
abbrev pub words : List Shape → Ty → ℕ
words structs t = words_with (struct_words structs) t

-- the words of declarations one after another
abbrev pub all_words : List Shape → List Typed → ℕ
all_words structs decls = all_words_with (struct_words structs) decls

-- the test is the relation
abbrev pub HoldsAsTested : Type 0
HoldsAsTested = (structs : List Shape) (owner x : List ℕ) → IsTrue (holds structs owner x) ↔ StructHolds structs owner x

-- A struct that doesn't hold itself has the words of its fields, and one that holds itself has none. With the words of a scalar and of
-- an array this fixes the words of every type. A struct that isn't defined has no fields.
pub record WordsAreThose : Type 0 where
  pub scalar : (structs : List Shape) (t : Ty) → (words structs int ≡ 1) × (words structs bool ≡ 1) × (words structs (pointer t) ≡ 1)
  pub element : (structs : List Shape) (t : Ty) (n : ℕ) → words structs (array t n) ≡ n * words structs t
  pub fields : (structs : List Shape) (x : List ℕ) → (StructHolds structs x x → ⊥) → words structs (named x) ≡ all_words structs (shape_fields structs x)
  pub cycle : (structs : List Shape) (x : List ℕ) → StructHolds structs x x → words structs (named x) ≡ 0
