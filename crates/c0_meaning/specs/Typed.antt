-- The rules that a unit has to meet. They know no fault and no order.
use Rattle.std.specs.Prelude.{◌≡◌, ◌↔◌, ℕ, ◌≤◌, false, List, [], ◌∷◌, ◌++◌, length, map, IsTrue, is_some, slice_get, Some, codes}
use Rattle.std.specs.List.{All}
use Rattle.c0_tree.specs.Tree.{CTy, int, bool, pointer, named, array, CDecl, CStruct, CBody, code, asm, CFunction, CUnit}
use Rattle.c0_tree.specs.declared.primitive.Program.{Program}
use Rattle.c0_tree.specs.declared.primitive.Program.TheVariants.{Kernel, User}
use Rattle.c0_tree.specs.Primitives.{CPrimitive, primitives_of}
use Rattle.c0_meaning.specs.Ty as ty
use Rattle.c0_meaning.specs.Ty.{ty_of}
use Rattle.c0_meaning.specs.Env.{Env, Shape, shape_of, typed_of, env_of, first_named}
use Rattle.c0_meaning.specs.Words.{StructHolds, words, all_words}
use Rattle.c0_meaning.specs.DeclaredTypes.{MAX_TYPE_WORDS, has_empty_array, may_pass, type_faults}
use Rattle.c0_meaning.specs.Names.{is_among, unit_names}
use Rattle.c0_meaning.specs.Limits.{MAX_FUNCTION_NODES, MAX_UNIT_NODES, MAX_GLOBAL_WORDS, is_asm, locals_of, nodes_of, all_nodes, max_parameters}
use Rattle.c0_meaning.specs.Rules.{AreTyped, IsTested}
use Rattle.c0_meaning.specs.Unit.{unit_faults, program_faults}

-- each name in a type is that of a struct
abbrev pub AreKnown : List Shape → CTy → Type 0
AreKnown structs int = Unit {0}
AreKnown structs bool = Unit {0}
AreKnown structs (pointer t) = AreKnown structs t
AreKnown structs (named x) = IsTrue (is_some (first_named (λ s. s.text) x.text 0 structs))
AreKnown structs (array t n) = AreKnown structs t

-- a type that may be declared: its structs are defined, no length in it is 0, and its words are few enough
pub record IsDeclarable (structs : List Shape) (t : CTy) : Type 0 where
  pub known : AreKnown structs t
  pub full : has_empty_array t ≡ false
  pub small : words structs (ty_of t) ≤ MAX_TYPE_WORDS

-- names that are set where some are set before: none of them is among those, and none stands twice
pub record AreSetOnce (before names : List (List ℕ)) : Type 0 where
  pub new : (i : ℕ) (x : List ℕ) → slice_get names i ≡ Some x → is_among before x ≡ false
  pub apart : (i j : ℕ) (x : List ℕ) → slice_get names i ≡ Some x → slice_get names j ≡ Some x → i ≡ j

-- the names of declarations are apart
abbrev pub HaveNamesApart : List CDecl → Type 0
HaveNamesApart decls = AreSetOnce [] (map (λ x. x.text) (map (λ d. d.name) decls))

-- a struct that is typed: it doesn't hold itself, its words are few enough, and its fields have types that may be declared and names apart
pub record IsTypedStruct (structs : List Shape) (s : CStruct) : Type 0 where
  pub loose : StructHolds structs s.name.text s.name.text → ⊥
  pub small : words structs (ty.named s.name.text) ≤ MAX_TYPE_WORDS
  pub apart : HaveNamesApart s.fields
  pub fields : All (λ d. IsDeclarable structs d.ty) s.fields

-- a function that is typed, its body apart
pub record IsTypedSignature (structs : List Shape) (f : CFunction) : Type 0 where
  pub answer : IsDeclarable structs f.answer
  pub answer_passes : IsTrue (may_pass (is_asm f.body) (ty_of f.answer))
  pub params : All (λ d. IsDeclarable structs d.ty) f.params
  pub params_pass : All (λ d. IsTrue (may_pass (is_asm f.body) (ty_of d.ty))) f.params
  pub locals : All (λ d. IsDeclarable structs d.ty) (locals_of f.body)
  pub apart : HaveNamesApart (f.params ++ locals_of f.body)
  pub few : length f.params ≤ max_parameters (is_asm f.body)
  pub nodes : nodes_of f ≤ MAX_FUNCTION_NODES

-- a body that is typed, in its environment, where its result has this type
abbrev pub IsTypedBody : Env → ty.Ty → CBody → Type 0
IsTypedBody env result (code locals stmts answer) = AreTyped (type_faults env.structs) env stmts × IsTested env answer result
IsTypedBody env result (asm text span words) = Unit {0}

-- a function that is typed
pub record IsTypedFunction (primitives : List CPrimitive) (u : CUnit) (f : CFunction) : Type 0 where
  pub signature : IsTypedSignature (map shape_of u.structs) f
  pub body : IsTypedBody (env_of primitives u (f.params ++ locals_of f.body)) (ty_of f.answer) f.body

-- a unit that is typed, whose asm bodies hold their words; how their texts read is left open, and whether it has a first function
pub record IsTypedUnit (primitives : List CPrimitive) (u : CUnit) : Type 0 where
  pub struct_names : AreSetOnce [] (map (λ x. x.text) (map (λ s. s.name) u.structs))
  pub structs : All (IsTypedStruct (map shape_of u.structs)) u.structs
  pub names : AreSetOnce (map (λ p. p.name) primitives) (map (λ x. x.text) (unit_names u.globals u.functions))
  pub globals : All (λ d. IsDeclarable (map shape_of u.structs) d.ty) u.globals
  pub functions : All (IsTypedFunction primitives u) u.functions
  pub nodes : all_nodes u.functions ≤ MAX_UNIT_NODES
  pub words : all_words (map shape_of u.structs) (map typed_of u.globals) ≤ MAX_GLOBAL_WORDS

-- a law: a unit is typed exactly where no fault stands in it
abbrev pub UnitsAreFaultless : Type 0
UnitsAreFaultless = (primitives : List CPrimitive) (u : CUnit) → IsTypedUnit primitives u ↔ (unit_faults primitives u ≡ [])

-- the name of the function with which a run begins
abbrev pub first_name : Program → List ℕ
first_name Kernel = codes "dispatch"
first_name User = codes "main"

-- the types of its parameters
abbrev pub first_params : Program → List ty.Ty
first_params Kernel = ty.int ∷ ty.int ∷ ty.int ∷ []
first_params User = []

-- a function is `int dispatch(int, int, int)`, or `int main()`, with a code body
pub record IsFirstFunction (program : Program) (f : CFunction) : Type 0 where
  pub named : f.name.text ≡ first_name program
  pub params : map (λ d. ty_of d.ty) f.params ≡ first_params program
  pub answer : ty_of f.answer ≡ ty.int
  pub in_code : is_asm f.body ≡ false

-- one of functions is so
pub record HasFirstFunction (program : Program) (functions : List CFunction) : Type 0 where
  pub number : ℕ
  pub function : CFunction
  pub there : slice_get functions number ≡ Some function
  pub right : IsFirstFunction program function

-- a kernel's unit, or a user program's, that is typed, whose asm bodies hold their words
pub record IsTypedProgram (program : Program) (u : CUnit) : Type 0 where
  pub typed : IsTypedUnit (primitives_of program) u
  pub first : HasFirstFunction program u.functions

-- a law: such a unit is typed exactly where no fault stands in it
abbrev pub ProgramsAreFaultless : Type 0
ProgramsAreFaultless = (program : Program) (u : CUnit) → IsTypedProgram program u ↔ (program_faults program u ≡ [])
