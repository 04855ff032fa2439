-- Names that are set twice in a space.
use Rattle.std.specs.Prelude.{ℕ, Bool, nat_lt, if◌then◌else◌, List, [], ◌∷◌, ◌++◌, map, bytes_eq}
use Rattle.std.specs.List.{list_any}
use Rattle.c0_tree.specs.Tree.{CName, CDecl, CStruct, CFunction}
use Rattle.c0_tree.specs.Primitives.{CPrimitive}
use Rattle.c0_meaning.specs.Fault.{Fault, fault, NAME_TWICE}

-- whether a text is among these
abbrev pub is_among : List (List ℕ) → List ℕ → Bool
is_among texts x = list_any (λ t. bytes_eq t x) texts

-- the faults of names that are set one after another, where these texts are set before: a name that is set before in its space
abbrev pub twice_faults : List (List ℕ) → List CName → List Fault
twice_faults before [] = []
twice_faults before (x ∷ rest) = (if is_among before x.text then fault NAME_TWICE x.span ∷ [] else []) ++ twice_faults (before ++ x.text ∷ []) rest

-- two lists of names, each in source order, as one list in source order
abbrev pub in_source_order : List CName → List CName → List CName
in_source_order [] = λ others. others
in_source_order (x ∷ rest) = placed x (in_source_order rest)
  where
    placed : CName → (List CName → List CName) → List CName → List CName
    placed x after [] = x ∷ after []
    placed x after (y ∷ others) = if nat_lt y.span.start x.span.start then y ∷ placed x after others else x ∷ after (y ∷ others)

-- the names of globals and functions, in source order
abbrev pub unit_names : List CDecl → List CFunction → List CName
unit_names globals functions = in_source_order (map (λ d. d.name) globals) (map (λ f. f.name) functions)

-- structs have names of their own
abbrev pub struct_name_faults : List CStruct → List Fault
struct_name_faults structs = twice_faults [] (map (λ s. s.name) structs)

-- globals, functions and primitives share one space, in which the primitives stand first
abbrev pub unit_name_faults : List CPrimitive → List CDecl → List CFunction → List Fault
unit_name_faults primitives globals functions = twice_faults (map (λ p. p.name) primitives) (unit_names globals functions)

-- the parameters and locals of a function share one space, and so do the fields of a struct
abbrev pub decl_name_faults : List CDecl → List Fault
decl_name_faults decls = twice_faults [] (map (λ d. d.name) decls)
