-- The faults of a type that is declared, or that `new` names.
use Rattle.std.specs.Prelude.{ℕ, Bool, false, ◌||◌, ◌==◌, nat_lt, if◌then◌else◌, List, [], ◌∷◌, ◌++◌, is_some}
use Rattle.c0_tree.specs.declared.tree.Span.{Span}
use Rattle.c0_tree.specs.Tree.{CTy, int, bool, pointer, named, array, CDecl}
use Rattle.c0_meaning.specs.Ty.{Ty, ty_of, same_ty, is_scalar}
use Rattle.c0_meaning.specs.Ty as ty
use Rattle.c0_meaning.specs.Env.{Shape, first_named}
use Rattle.c0_meaning.specs.Fault.{Fault, fault, UNKNOWN_NAME, WRONG_TYPE, TYPE_TOO_LARGE, EMPTY_ARRAY}
use Rattle.c0_meaning.specs.Words.{words}

-- how many words a declared type, or a struct, has at most
abbrev pub MAX_TYPE_WORDS : ℕ
MAX_TYPE_WORDS = 1048576

-- the fault, where something is wrong
abbrev pub fault_if : Bool → ℕ → Span → List Fault
fault_if wrong number span = if wrong then fault number span ∷ [] else []

-- the names in a type that no struct has, also behind a pointer
abbrev pub unknown_structs : List Shape → CTy → List Fault
unknown_structs structs int = []
unknown_structs structs bool = []
unknown_structs structs (pointer t) = unknown_structs structs t
unknown_structs structs (named x) = if is_some (first_named (λ s. s.text) x.text 0 structs) then [] else fault UNKNOWN_NAME x.span ∷ []
unknown_structs structs (array t n) = unknown_structs structs t

-- whether a length 0 is written in a type, also behind a pointer
abbrev pub has_empty_array : CTy → Bool
has_empty_array int = false
has_empty_array bool = false
has_empty_array (pointer t) = has_empty_array t
has_empty_array (named x) = false
has_empty_array (array t n) = (n == 0) || has_empty_array t

-- whether a type has too many words: what is behind a pointer isn't measured
abbrev pub is_too_large : List Shape → Ty → Bool
is_too_large structs t = nat_lt MAX_TYPE_WORDS (words structs t)

-- the faults of a declared type, which stands at this span
abbrev pub type_faults : List Shape → CTy → Span → List Fault
type_faults structs t span =
    unknown_structs structs t
    ++ (fault_if (has_empty_array t) EMPTY_ARRAY span
    ++ fault_if (is_too_large structs (ty_of t)) TYPE_TOO_LARGE span)

-- the faults in the types of declarations
abbrev pub declared_faults : List Shape → List CDecl → List Fault
declared_faults structs [] = []
declared_faults structs (d ∷ rest) = type_faults structs d.ty d.ty_span ++ declared_faults structs rest

-- whether a type is one of a parameter or result: a scalar, and of an asm function int alone
abbrev pub may_pass : Bool → Ty → Bool
may_pass is_asm t = if is_asm then same_ty t ty.int else is_scalar t

-- the fault of a type that is no type of a parameter or result
abbrev pub pass_fault : Bool → CTy → Span → List Fault
pass_fault is_asm t span = if may_pass is_asm (ty_of t) then [] else fault WRONG_TYPE span ∷ []

-- the faults of parameters whose types can't be passed
abbrev pub pass_faults : Bool → List CDecl → List Fault
pass_faults is_asm [] = []
pass_faults is_asm (d ∷ rest) = pass_fault is_asm d.ty d.ty_span ++ pass_faults is_asm rest
