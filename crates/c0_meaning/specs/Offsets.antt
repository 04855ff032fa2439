-- Where values of some types begin that stand one after another: globals, the fields of a struct, the variables of a function.
use Rattle.std.specs.Prelude.{◌≡◌, ℕ, ◌+◌, ◌<◌, List, [], ◌∷◌, length, take, map, Some, slice_get}
use Rattle.c0_tree.specs.Tree.{CDecl, CStruct, CUnit}
use Rattle.c0_meaning.specs.Ty.{Ty}
use Rattle.c0_meaning.specs.Env.{Typed, Shape, typed_of}
use Rattle.c0_meaning.specs.Words.{words, all_words}
use Rattle.c0_meaning.specs.Sizes.{words_before}
use Rattle.c0_meaning.specs.Sound.{shapes}
use Rattle.c0_meaning.specs.TypedState.{types_of}

-- where each of these values begins, the first of them at a word
abbrev pub offsets_from : List Shape → ℕ → List Ty → List ℕ
offsets_from structs at [] = []
offsets_from structs at (t ∷ ts) = at ∷ offsets_from structs (at + words structs t) ts

-- where each of these declarations begins, the first of them at a word
abbrev pub decl_offsets : List Shape → ℕ → List CDecl → List ℕ
decl_offsets structs at decls = offsets_from structs at (types_of (map typed_of decls))

-- where each begins, counted from the first of them
abbrev pub offsets : List Shape → List Ty → List ℕ
offsets structs ts = offsets_from structs 0 ts

-- where the fields of a struct begin
abbrev pub struct_offsets : List Shape → CStruct → List ℕ
struct_offsets structs s = offsets structs (types_of (map typed_of s.fields))

-- where the fields of each struct begin, by the struct's number
abbrev pub field_offsets : CUnit → List (List ℕ)
field_offsets u = map (struct_offsets (shapes u)) u.structs

-- Each begins behind the words before it, and all of them together take the words of all.
pub record OffsetsAreThose : Type 0 where
  pub at : (structs : List Shape) (ts : List Ty) (n : ℕ) → n < length ts → slice_get (offsets structs ts) n ≡ Some (words_before structs ts n)
  pub before : (structs : List Shape) (decls : List Typed) (n : ℕ) → words_before structs (types_of decls) n ≡ all_words structs (take n decls)
