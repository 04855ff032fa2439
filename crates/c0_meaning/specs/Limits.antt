-- How large functions and units may be, and with which function the run of a unit begins, that it must have.
use Rattle.std.specs.Prelude.{ℕ, ◌+◌, Bool, true, false, not, ◌&&◌, ◌==◌, nat_lt, if◌then◌else◌, List, [], ◌∷◌, ◌++◌, length, map, codes, position, unwrap_or}
use Rattle.std.specs.Str.{bytes_eq}
use Rattle.std.specs.List.{list_any}
use Rattle.c0_tree.specs.declared.tree.Span.{Span}
use Rattle.c0_tree.specs.declared.primitive.Program.{Program}
use Rattle.c0_tree.specs.declared.primitive.Program.TheVariants.{Kernel, User}
use Rattle.c0_tree.specs.Tree.{CDecl, CBody, code, asm, CFunction, CUnit}
use Rattle.c0_tree.specs.Size.{function_nodes}
use Rattle.c0_meaning.specs.Ty.{int, ty_of, same_ty}
use Rattle.c0_meaning.specs.Env.{Shape, shape_of, typed_of}
use Rattle.c0_meaning.specs.Fault.{Fault, TOO_MANY_NODES, UNIT_TOO_LARGE, GLOBALS_TOO_LARGE, NO_DISPATCH, NO_MAIN, TOO_MANY_PARAMETERS}
use Rattle.c0_meaning.specs.Words.{all_words}
use Rattle.c0_meaning.specs.DeclaredTypes.{fault_if}

-- how many nodes a function has at most
abbrev pub MAX_FUNCTION_NODES : ℕ
MAX_FUNCTION_NODES = 2000

-- how many nodes all functions have together at most
abbrev pub MAX_UNIT_NODES : ℕ
MAX_UNIT_NODES = 100000

-- how many words all globals have together at most
abbrev pub MAX_GLOBAL_WORDS : ℕ
MAX_GLOBAL_WORDS = 262144

-- whether a body is an asm text
abbrev pub is_asm : CBody → Bool
is_asm (code locals stmts answer) = false
is_asm (asm text span words) = true

-- the words that an asm body holds
abbrev pub words_held : CBody → List ℕ
words_held (code locals stmts answer) = []
words_held (asm text span words) = words

-- the locals: an asm body has none
abbrev pub locals_of : CBody → List CDecl
locals_of (code locals stmts answer) = locals
locals_of (asm text span words) = []

-- the nodes of a function, where asm bodies hold their words
abbrev pub nodes_of : CFunction → ℕ
nodes_of f = function_nodes (length (words_held f.body)) f

-- the nodes of functions together
abbrev pub all_nodes : List CFunction → ℕ
all_nodes [] = 0
all_nodes (f ∷ rest) = nodes_of f + all_nodes rest

-- how many parameters a function has at most: an asm function has its arguments in registers
abbrev pub max_parameters : Bool → ℕ
max_parameters in_asm = if in_asm then 4 else 8

-- the words of a function's frame: its parameters, its locals, and three more
abbrev pub words_of_frame : List Shape → CFunction → ℕ
words_of_frame structs f = all_words structs (map typed_of f.params) + all_words structs (map typed_of (locals_of f.body)) + 3

-- whether these are three parameters of type int
abbrev pub are_three_ints : List CDecl → Bool
are_three_ints (a ∷ b ∷ c ∷ []) = same_ty (ty_of a.ty) int && (same_ty (ty_of b.ty) int && same_ty (ty_of c.ty) int)
are_three_ints _ = false

-- whether this is `int dispatch(int, int, int)` with a code body
abbrev pub is_dispatch : CFunction → Bool
is_dispatch f = bytes_eq f.name.text (codes "dispatch") && (are_three_ints f.params && (same_ty (ty_of f.answer) int && not (is_asm f.body)))

-- whether this is `int main()` with a code body
abbrev pub is_main : CFunction → Bool
is_main f = bytes_eq f.name.text (codes "main") && ((length f.params == 0) && (same_ty (ty_of f.answer) int && not (is_asm f.body)))

-- whether this is the function with which the run of a unit begins
abbrev pub is_first : Program → CFunction → Bool
is_first Kernel = is_dispatch
is_first User = is_main

-- the number of the first function that is so; 0 where none is
abbrev pub first_number : Program → CUnit → ℕ
first_number program u = unwrap_or (position (is_first program) u.functions) 0

-- the span of a whole source
abbrev pub whole_span : ℕ → Span
whole_span length = record { start = 0; end = length }

-- the faults of a function's size
abbrev pub size_faults : CFunction → List Fault
size_faults f =
    fault_if (nat_lt (max_parameters (is_asm f.body)) (length f.params)) TOO_MANY_PARAMETERS f.name.span
    ++ fault_if (nat_lt MAX_FUNCTION_NODES (nodes_of f)) TOO_MANY_NODES f.name.span

-- the faults of a unit's size
abbrev pub unit_size_faults : CUnit → List Fault
unit_size_faults u =
    fault_if (nat_lt MAX_UNIT_NODES (all_nodes u.functions)) UNIT_TOO_LARGE (whole_span u.length)
    ++ fault_if (nat_lt MAX_GLOBAL_WORDS (all_words (map shape_of u.structs) (map typed_of u.globals))) GLOBALS_TOO_LARGE (whole_span u.length)

-- what is wrong with a unit that has no function with which its run begins
abbrev pub none_first : Program → ℕ
none_first Kernel = NO_DISPATCH
none_first User = NO_MAIN

-- the fault of such a unit
abbrev pub first_faults : Program → CUnit → List Fault
first_faults program u = fault_if (not (list_any (is_first program) u.functions)) (none_first program) (whole_span u.length)
