-- The faults of a whole unit, and what a unit without faults meets.
use Rattle.std.specs.Prelude.{◌≡◌, ℕ, suc, true, List, [], ◌∷◌, ◌++◌, length, map, IsTrue}
use Rattle.std.specs.List.{All, list_all}
use Rattle.c0_tree.specs.declared.tree.Kind.TheVariants.{Global, Local, Function}
use Rattle.c0_tree.specs.Tree.{CStruct, CBody, code, asm, CFunction, CUnit}
use Rattle.c0_tree.specs.Plain.{is_plain}
use Rattle.c0_tree.specs.declared.primitive.Program.{Program}
use Rattle.c0_tree.specs.declared.primitive.Program.TheVariants.{Kernel}
use Rattle.c0_tree.specs.Primitives.{CPrimitive, primitives_of}
use Rattle.c0_meaning.specs.Ty.{ty_of}
use Rattle.c0_meaning.specs.Ty as ty
use Rattle.c0_meaning.specs.Env.{Shape, shape_of, Env, env_of}
use Rattle.c0_meaning.specs.Fault.{Fault, STRUCT_HOLDS_ITSELF, TYPE_TOO_LARGE}
use Rattle.c0_meaning.specs.Words.{holds}
use Rattle.c0_meaning.specs.DeclaredTypes.{fault_if, type_faults, declared_faults, is_too_large, pass_fault, pass_faults}
use Rattle.c0_meaning.specs.Names.{struct_name_faults, unit_name_faults, decl_name_faults}
use Rattle.c0_meaning.specs.Limits.{is_asm, locals_of, words_held, size_faults, unit_size_faults, first_faults}
use Rattle.c0_meaning.specs.Resolved.{standing_for, resolved_type, resolved_decls, resolved_structs}
use Rattle.c0_meaning.specs.Expression.{resolved}
use Rattle.c0_meaning.specs.Statement.{tested_faults, stmts_faults, stmts_resolved}
use Rattle.c0_meaning.specs.Asm.{are_allowed_words}

-- the faults of a struct: it holds itself, it is too large, a field's name stands twice, a field's type is wrong
abbrev pub struct_faults : List Shape → CStruct → List Fault
struct_faults structs s =
    fault_if (holds structs s.name.text s.name.text) STRUCT_HOLDS_ITSELF s.name.span
    ++ (fault_if (is_too_large structs (ty.named s.name.text)) TYPE_TOO_LARGE s.name.span
    ++ (decl_name_faults s.fields
    ++ declared_faults structs s.fields))

-- the faults of structs
abbrev pub structs_faults : List Shape → List CStruct → List Fault
structs_faults structs [] = []
structs_faults structs (s ∷ rest) = struct_faults structs s ++ structs_faults structs rest

-- the faults of a function, its statements and its returned expression apart
abbrev pub signature_faults : List Shape → CFunction → List Fault
signature_faults structs f =
    type_faults structs f.answer f.answer_span
    ++ (pass_fault (is_asm f.body) f.answer f.answer_span
    ++ (declared_faults structs f.params
    ++ (pass_faults (is_asm f.body) f.params
    ++ (declared_faults structs (locals_of f.body)
    ++ (decl_name_faults (f.params ++ locals_of f.body)
    ++ size_faults f)))))

-- the faults of a body in its environment, where its result has this type: those of an asm text are no matter of the tree
abbrev pub faults_in : Env → ty.Ty → CBody → List Fault
faults_in env result (code locals stmts answer) = stmts_faults (type_faults env.structs) env stmts ++ tested_faults env result answer
faults_in env result (asm text span words) = []

-- the faults of a function's body
abbrev pub body_faults : List CPrimitive → CUnit → CFunction → List Fault
body_faults primitives u f = faults_in (env_of primitives u (f.params ++ locals_of f.body)) (ty_of f.answer) f.body

-- the faults of functions
abbrev pub functions_faults : List CPrimitive → CUnit → List CFunction → List Fault
functions_faults primitives u [] = []
functions_faults primitives u (f ∷ rest) =
    (signature_faults (map shape_of u.structs) f ++ body_faults primitives u f) ++ functions_faults primitives u rest

-- the faults of a unit whose asm bodies hold their words, how their texts read and the missing first function apart
abbrev pub unit_faults : List CPrimitive → CUnit → List Fault
unit_faults primitives u =
    struct_name_faults u.structs
    ++ (structs_faults (map shape_of u.structs) u.structs
    ++ (unit_name_faults primitives u.globals u.functions
    ++ (declared_faults (map shape_of u.structs) u.globals
    ++ (functions_faults primitives u u.functions
    ++ unit_size_faults u))))

-- the faults of a kernel's unit, or of a user program's
abbrev pub program_faults : Program → CUnit → List Fault
program_faults program u = unit_faults (primitives_of program) u ++ first_faults program u

-- a body with its names resolved, in its environment, where the first local has this number
abbrev pub resolved_body : Env → ℕ → CBody → CBody
resolved_body env first (code locals stmts answer) =
    code (resolved_decls env.structs Local first locals) (stmts_resolved (resolved_type env.structs) env stmts) (resolved env answer)
resolved_body env first (asm text span words) = asm text span words

-- a function of this number with its names resolved
abbrev pub resolved_function : List CPrimitive → CUnit → ℕ → CFunction → CFunction
resolved_function primitives u number f = record {
  answer = resolved_type (map shape_of u.structs) f.answer;
  answer_span = f.answer_span;
  name = standing_for Function number f.name;
  params = resolved_decls (map shape_of u.structs) Local 0 f.params;
  body = resolved_body (env_of primitives u (f.params ++ locals_of f.body)) (length f.params) f.body;
}

-- functions, of which the first has this number
abbrev pub resolved_functions : List CPrimitive → CUnit → ℕ → List CFunction → List CFunction
resolved_functions primitives u k [] = []
resolved_functions primitives u k (f ∷ rest) = resolved_function primitives u k f ∷ resolved_functions primitives u (suc k) rest

-- a unit with its names resolved
abbrev pub resolved_unit : List CPrimitive → CUnit → CUnit
resolved_unit primitives u = record {
  length = u.length;
  structs = resolved_structs (map shape_of u.structs) 0 u.structs;
  globals = resolved_decls (map shape_of u.structs) Global 0 u.globals;
  functions = resolved_functions primitives u 0 u.functions;
}

-- the words of asm bodies are of instructions that they may have
abbrev pub AreWordsAllowed : List CFunction → Type 0
AreWordsAllowed functions = All (λ f. IsTrue (are_allowed_words (words_held f.body))) functions

-- whether they are is found by a test of each function
abbrev pub AllowedAsTested : Type 0
AllowedAsTested = (functions : List CFunction) → list_all (λ f. are_allowed_words (words_held f.body)) functions ≡ true → AreWordsAllowed functions

-- a unit that is well formed for a table of primitives: no fault stands in it, apart from a missing first function, its names are
-- resolved, and its asm bodies hold words that they may have
pub record IsWellFormed (primitives : List CPrimitive) (u : CUnit) : Type 0 where
  pub plain : is_plain u ≡ true
  pub typed : unit_faults primitives u ≡ []
  pub resolved : resolved_unit primitives u ≡ u
  pub allowed : AreWordsAllowed u.functions

-- a kernel's unit, or a user program's, that is typed, its names resolved
pub record IsCheckedAs (program : Program) (u : CUnit) : Type 0 where
  pub well_formed : IsWellFormed (primitives_of program) u
  pub first : first_faults program u ≡ []

-- a kernel's unit that is so
abbrev pub IsChecked : CUnit → Type 0
IsChecked = IsCheckedAs Kernel

-- a unit without faults that holds small numbers, short lists and allowed words, its names resolved, is checked
abbrev pub FaultlessIsChecked : Type 0
FaultlessIsChecked =
    (program : Program) (u : CUnit) → is_plain u ≡ true → program_faults program u ≡ [] → resolved_unit (primitives_of program) u ≡ u
    → AreWordsAllowed u.functions
    → IsCheckedAs program u
