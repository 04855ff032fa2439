-- The faults of a unit in parts, as the checker meets them: those outside of bodies, and those of each body.
use Rattle.std.specs.Prelude.{ℕ, suc, ◌+◌, Bool, ◌&&◌, List, [], ◌∷◌, ◌++◌, length, map, nat_lt}
use Rattle.c0_tree.specs.declared.tree.Kind.TheVariants.{Local, Global, Function}
use Rattle.c0_tree.specs.Tree.{CBody, CFunction, CDecl, CUnit}
use Rattle.c0_tree.specs.declared.tree.Span.{Span}
use Rattle.c0_tree.specs.Primitives.{CPrimitive}
use Rattle.c0_meaning.specs.Ty.{Ty, ty_of}
use Rattle.c0_meaning.specs.Env.{Shape, Env, shape_of, typed_of}
use Rattle.c0_meaning.specs.Fault.{Fault, TOO_MANY_PARAMETERS, TOO_MANY_NODES, GLOBALS_TOO_LARGE}
use Rattle.c0_meaning.specs.DeclaredTypes.{fault_if, type_faults, declared_faults, pass_fault, pass_faults}
use Rattle.c0_meaning.specs.Names.{decl_name_faults, struct_name_faults, unit_name_faults}
use Rattle.c0_meaning.specs.Limits.{is_asm, locals_of, words_held, max_parameters, whole_span, MAX_FUNCTION_NODES, MAX_GLOBAL_WORDS}
use Rattle.c0_meaning.specs.Resolved.{standing_for, resolved_type, resolved_decls, resolved_structs}
use Rattle.c0_meaning.specs.Unit.{faults_in, structs_faults, resolved_body}
use Rattle.c0_meaning.specs.Words.{all_words}
use Rattle.c0_tree.specs.Plain.{is_short, is_plain_body}
use Rattle.c0_tree.specs.Size.{body_nodes}
use Rattle.c0_asm_text.specs.AsmText.{text_words, bad_line}
use Rattle.c0_types.specs.Source.{read_body, asm_fault, asm_line_fault}

-- the faults of a function's heading: of its result, of its parameters, and of their number
abbrev pub heading_faults : List Shape → CFunction → List Fault
heading_faults structs f =
    type_faults structs f.answer f.answer_span
    ++ (pass_fault (is_asm f.body) f.answer f.answer_span
    ++ (declared_faults structs f.params
    ++ (pass_faults (is_asm f.body) f.params
    ++ fault_if (nat_lt (max_parameters (is_asm f.body)) (length f.params)) TOO_MANY_PARAMETERS f.name.span)))

-- the faults of the headings of functions
abbrev pub headings_faults : List Shape → List CFunction → List Fault
headings_faults structs [] = []
headings_faults structs (f ∷ rest) = heading_faults structs f ++ headings_faults structs rest

-- a function with the names of its heading resolved
abbrev pub headed : List Shape → ℕ → CFunction → CFunction
headed structs number f = record {
  answer = resolved_type structs f.answer;
  answer_span = f.answer_span;
  name = standing_for Function number f.name;
  params = resolved_decls structs Local 0 f.params;
  body = f.body;
}

-- functions with the names of their headings resolved, of which the first has this number
abbrev pub headed_functions : List Shape → ℕ → List CFunction → List CFunction
headed_functions structs k [] = []
headed_functions structs k (f ∷ rest) = headed structs k f ∷ headed_functions structs (suc k) rest

-- the faults of a unit outside of bodies, but for those of its size and a missing `dispatch`
abbrev pub outer_faults : List CPrimitive → CUnit → List Fault
outer_faults primitives u =
    (struct_name_faults u.structs ++ structs_faults (map shape_of u.structs) u.structs)
    ++ (unit_name_faults primitives u.globals u.functions
    ++ (fault_if (nat_lt MAX_GLOBAL_WORDS (all_words (map shape_of u.structs) (map typed_of u.globals))) GLOBALS_TOO_LARGE (whole_span u.length)
    ++ (declared_faults (map shape_of u.structs) u.globals
    ++ headings_faults (map shape_of u.structs) u.functions)))

-- a unit with its names outside of bodies resolved
abbrev pub outer_unit : CUnit → CUnit
outer_unit u = record {
  length = u.length;
  structs = resolved_structs (map shape_of u.structs) 0 u.structs;
  globals = resolved_decls (map shape_of u.structs) Global 0 u.globals;
  functions = headed_functions (map shape_of u.structs) 0 u.functions;
}

-- an environment with these parameters and locals
abbrev pub with_locals : Env → List CDecl → Env
with_locals env decls = record {
  structs = env.structs;
  globals = env.globals;
  functions = env.functions;
  primitives = env.primitives;
  locals = map typed_of decls;
}

-- the nodes of a function with so many parameters and this body
abbrev pub nodes_with : ℕ → CBody → ℕ
nodes_with params b = 1 + params + body_nodes (length (words_held b)) b

-- the faults of a body, of a function with this name's span, these parameters and a result of this type, in the environment of its unit
abbrev pub inner_faults : Env → Span → List CDecl → Ty → CBody → List Fault
inner_faults env name params result b =
    decl_name_faults (params ++ locals_of b)
    ++ (declared_faults env.structs (locals_of b)
    ++ (fault_if (nat_lt MAX_FUNCTION_NODES (nodes_with (length params) (read_body b))) TOO_MANY_NODES name
    ++ (faults_in (with_locals env (params ++ locals_of b)) result b
    ++ asm_fault b)))

-- the faults of an asm body, of a function with this name's span and these parameters
abbrev pub text_faults : Span → List CDecl → List ℕ → Span → List Fault
text_faults name params text span =
    decl_name_faults (params ++ [])
    ++ (fault_if (nat_lt MAX_FUNCTION_NODES (1 + length params + length (text_words text))) TOO_MANY_NODES name ++ asm_line_fault (bad_line text) span)

-- the faults of a function's body, in the environment of its unit
abbrev pub faults_of_body : Env → CFunction → List Fault
faults_of_body env f = inner_faults env f.name.span f.params (ty_of f.answer) f.body

-- the faults of the bodies of functions
abbrev pub bodies_faults : Env → List CFunction → List Fault
bodies_faults env [] = []
bodies_faults env (f ∷ rest) = faults_of_body env f ++ bodies_faults env rest

-- a body of a function with these parameters: its asm text is read, or its names are resolved
abbrev pub inner_body : Env → List CDecl → CBody → CBody
inner_body env params b = resolved_body (with_locals env (params ++ locals_of b)) (length params) (read_body b)

-- a function with its body so
abbrev pub bodied : Env → CFunction → CFunction
bodied env f = record { answer = f.answer; answer_span = f.answer_span; name = f.name; params = f.params; body = inner_body env f.params f.body }

-- the nodes of a function once its asm text is read
abbrev pub nodes_read : CFunction → ℕ
nodes_read f = nodes_with (length f.params) (read_body f.body)

-- the nodes of functions once their asm texts are read
abbrev pub functions_nodes : List CFunction → ℕ
functions_nodes [] = 0
functions_nodes (f ∷ rest) = nodes_read f + functions_nodes rest

-- whether the lists of a function are short, and its numbers small
abbrev pub is_plain_function : CFunction → Bool
is_plain_function f = is_short f.params && is_plain_body f.body
