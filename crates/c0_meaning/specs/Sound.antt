-- What sizes need of a unit: its structs are defined, small and resolved.
use Rattle.std.specs.Prelude.{◌≡◌, ℕ, ◌+◌, ◌≤◌, false, List, map, length}
use Rattle.std.specs.List.{All}
use Rattle.c0_tree.specs.Tree.{CTy, CStruct, CFunction, CUnit}
use Rattle.c0_meaning.specs.Ty.{ty_of}
use Rattle.c0_meaning.specs.Ty as ty
use Rattle.c0_meaning.specs.Env.{Shape, shape_of, typed_of}
use Rattle.c0_meaning.specs.Words.{shape_fields, holds, words, all_words}
use Rattle.c0_meaning.specs.DeclaredTypes.{MAX_TYPE_WORDS}
use Rattle.c0_meaning.specs.Resolved.{IsResolved}
use Rattle.c0_meaning.specs.Limits.{MAX_FUNCTION_NODES, locals_of}

-- the shapes of a unit's structs
abbrev pub shapes : CUnit → List Shape
shapes u = map shape_of u.structs

-- the words of a unit's globals
abbrev pub global_words : CUnit → ℕ
global_words u = all_words (shapes u) (map typed_of u.globals)

-- a type of few words, its names resolved
pub record IsSized (structs : List Shape) (t : CTy) : Type 0 where
  pub resolved : IsResolved structs t
  pub small : words structs (ty_of t) ≤ MAX_TYPE_WORDS

-- a struct that is the first of its name, doesn't hold itself, and has few words and fields of few words
pub record IsSizedStruct (structs : List Shape) (s : CStruct) : Type 0 where
  pub first : shape_fields structs s.name.text ≡ map typed_of s.fields
  pub loose : holds structs s.name.text s.name.text ≡ false
  pub small : words structs (ty.named s.name.text) ≤ MAX_TYPE_WORDS
  pub fields : All (λ d. IsSized structs d.ty) s.fields

-- each struct is so
abbrev pub AreSized : List CStruct → Type 0
AreSized structs = All (IsSizedStruct (map shape_of structs)) structs

-- a function whose parameters and locals have few words and are few
pub record IsSizedFunction (structs : List Shape) (f : CFunction) : Type 0 where
  pub params : All (λ d. IsSized structs d.ty) f.params
  pub locals : All (λ d. IsSized structs d.ty) (locals_of f.body)
  pub few : length f.params + length (locals_of f.body) ≤ MAX_FUNCTION_NODES

-- a unit whose structs, globals and functions are so
pub record IsSizedUnit (u : CUnit) : Type 0 where
  pub structs : AreSized u.structs
  pub globals : All (λ d. IsSized (shapes u) d.ty) u.globals
  pub functions : All (IsSizedFunction (shapes u)) u.functions
