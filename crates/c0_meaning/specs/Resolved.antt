-- The tree with each name's kind and number, outside of statements and expressions.
use Rattle.std.specs.Prelude.{◌≡◌, ℕ, suc, List, [], ◌∷◌, Option, Some, None}
use Rattle.c0_tree.specs.declared.tree.Kind.{Kind}
use Rattle.c0_tree.specs.declared.tree.Kind.TheVariants.{Struct, Field}
use Rattle.c0_tree.specs.Tree.{CName, CTy, int, bool, pointer, named, array, CDecl, CStruct}
use Rattle.c0_meaning.specs.Env.{Shape, first_named}

-- a name that stands for one of a kind
abbrev pub standing_for : Kind → ℕ → CName → CName
standing_for kind number x = record { text = x.text; span = x.span; kind = kind; number = number }

-- a name that was looked up: it stays as it is where nothing has the name
abbrev pub looked_up : {A : Type 0} → Kind → Option (ℕ × A) → CName → CName
looked_up kind None x = x
looked_up kind (Some found) x = standing_for kind found.0 x

-- a type with its names resolved
abbrev pub resolved_type : List Shape → CTy → CTy
resolved_type structs int = int
resolved_type structs bool = bool
resolved_type structs (pointer t) = pointer (resolved_type structs t)
resolved_type structs (named x) = named (looked_up Struct (first_named (λ s. s.text) x.text 0 structs) x)
resolved_type structs (array t n) = array (resolved_type structs t) n

-- declarations of a kind, of which the first has this number
abbrev pub resolved_decls : List Shape → Kind → ℕ → List CDecl → List CDecl
resolved_decls structs kind k [] = []
resolved_decls structs kind k (d ∷ rest) =
    record { ty = resolved_type structs d.ty; ty_span = d.ty_span; name = standing_for kind k d.name } ∷ resolved_decls structs kind (suc k) rest

-- structs, of which the first has this number
abbrev pub resolved_structs : List Shape → ℕ → List CStruct → List CStruct
resolved_structs structs k [] = []
resolved_structs structs k (s ∷ rest) =
    record { name = standing_for Struct k s.name; fields = resolved_decls structs Field 0 s.fields } ∷ resolved_structs structs (suc k) rest

-- each name in a type is a struct's, and has its kind and number
abbrev pub IsResolved : List Shape → CTy → Type 0
IsResolved structs int = Unit {0}
IsResolved structs bool = Unit {0}
IsResolved structs (pointer t) = IsResolved structs t
IsResolved structs (named x) = (x.kind ≡ Struct) × ((s : Shape) × (first_named (λ s. s.text) x.text 0 structs ≡ Some (x.number, s)))
IsResolved structs (array t n) = IsResolved structs t
