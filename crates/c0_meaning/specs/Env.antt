-- What the names in a function's body stand for. Only texts and types count here: where a name stands in the source, and what a body
-- does, is left out, so that the tree has the same environment before and after its names are resolved.
use Rattle.std.specs.Prelude.{ℕ, suc, if◌then◌else◌, List, [], ◌∷◌, map, Option, Some, None}
use Rattle.std.specs.Option.{option_or, option_map}
use Rattle.std.specs.Str.{bytes_eq}
use Rattle.c0_tree.specs.declared.tree.Kind.{Kind}
use Rattle.c0_tree.specs.declared.tree.Kind.TheVariants.{Global, Local, Function, Primitive}
use Rattle.c0_tree.specs.declared.primitive.Scalar.{Scalar}
use Rattle.c0_tree.specs.declared.primitive.Scalar.TheVariants as scalar
use Rattle.c0_tree.specs.Tree.{CDecl, CStruct, CFunction, CUnit}
use Rattle.c0_tree.specs.Primitives.{CPrimitive}
use Rattle.c0_meaning.specs.Ty.{Ty, int, bool, ty_of}

-- a variable or a field: its name and its type
pub record Typed : Type 0 where
  pub text : List ℕ
  pub ty : Ty

-- a struct: its name and its fields
pub record Shape : Type 0 where
  pub text : List ℕ
  pub fields : List Typed

-- a function or a primitive: its name, the types of its parameters and that of its result
pub record Signature : Type 0 where
  pub text : List ℕ
  pub params : List Ty
  pub answer : Ty

-- the structs, globals, functions and primitives of a unit, and a function's parameters followed by its locals
pub record Env : Type 0 where
  pub structs : List Shape
  pub globals : List Typed
  pub functions : List Signature
  pub primitives : List Signature
  pub locals : List Typed

-- a declaration's name and type
abbrev pub typed_of : CDecl → Typed
typed_of d = record { text = d.name.text; ty = ty_of d.ty }

-- a struct's name and fields
abbrev pub shape_of : CStruct → Shape
shape_of s = record { text = s.name.text; fields = map typed_of s.fields }

-- a function's name and types
abbrev pub signature_of : CFunction → Signature
signature_of f = record { text = f.name.text; params = map (λ d. ty_of d.ty) f.params; answer = ty_of f.answer }

-- a primitive's type
abbrev pub scalar_ty : Scalar → Ty
scalar_ty scalar.Int = int
scalar_ty scalar.Bool = bool

-- a primitive's name and types
abbrev pub primitive_signature : CPrimitive → Signature
primitive_signature p = record { text = p.name; params = map scalar_ty p.args; answer = scalar_ty p.answer }

-- the environment of a body with these parameters and locals, in a unit with these primitives
abbrev pub env_of : List CPrimitive → CUnit → List CDecl → Env
env_of primitives unit locals = record {
  structs = map shape_of unit.structs;
  globals = map typed_of unit.globals;
  functions = map signature_of unit.functions;
  primitives = map primitive_signature primitives;
  locals = map typed_of locals;
}

-- the first of a list whose name is this text, with its number from k on
abbrev pub first_named : {A : Type 0} → (A → List ℕ) → List ℕ → ℕ → List A → Option (ℕ × A)
first_named name text k [] = None
first_named name text k (a ∷ rest) = if bytes_eq (name a) text then Some (k, a) else first_named name text (suc k) rest

-- a variable: what it is, its number, and its type
pub record Variable : Type 0 where
  pub kind : Kind
  pub number : ℕ
  pub ty : Ty

-- the variable of a kind that a declaration makes
abbrev pub variable_of : Kind → ℕ × Typed → Variable
variable_of kind found = record { kind = kind; number = found.0; ty = found.1.ty }

-- the variable of a name: parameters and locals hide globals
abbrev pub variable_named : Env → List ℕ → Option Variable
variable_named env text =
    option_or (option_map (variable_of Local) (first_named (λ v. v.text) text 0 env.locals))
    (option_map (variable_of Global) (first_named (λ v. v.text) text 0 env.globals))

-- what is called: its kind, its number, the types of its parameters and of its result
pub record Callee : Type 0 where
  pub kind : Kind
  pub number : ℕ
  pub params : List Ty
  pub answer : Ty

-- the callee of a kind that a signature makes
abbrev pub callee_of : Kind → ℕ × Signature → Callee
callee_of kind found = record { kind = kind; number = found.0; params = found.1.params; answer = found.1.answer }

-- what a name before `(` stands for: a primitive comes before a function of its name
abbrev pub callee_named : Env → List ℕ → Option Callee
callee_named env text =
    option_or (option_map (callee_of Primitive) (first_named (λ s. s.text) text 0 env.primitives))
    (option_map (callee_of Function) (first_named (λ s. s.text) text 0 env.functions))

-- the fields of a struct that was found: one that isn't defined has none
abbrev pub fields_of : Option (ℕ × Shape) → List Typed
fields_of None = []
fields_of (Some found) = found.1.fields

-- the field of a name in the struct of a name, with its number
abbrev pub field_named : Env → List ℕ → List ℕ → Option (ℕ × Typed)
field_named env owner text = first_named (λ v. v.text) text 0 (fields_of (first_named (λ s. s.text) owner 0 env.structs))
