-- What contracts see of the names that a body is checked with.
use Rattle.std.specs.Prelude.{◌≡◌, min, get_or, ◌<◌, ℕ, List, map, ◌++◌, length, Option, Some, None}
use Rattle.std.specs.Borrow.{Bor}
use Rattle.std.specs.declared.vec.Vec.{Vec}
use Rattle.indexmap.specs.IndexMap.{IndexMap}
use Rattle.c0_tree.specs.declared.tree.Decl.{Decl}
use Rattle.c0_tree.specs.declared.tree.StructDef.{StructDef}
use Rattle.c0_tree.specs.declared.tree.Function.{Function}
use Rattle.c0_tree.specs.declared.primitive.Primitive.{Primitive}
use Rattle.c0_tree.specs.View.{decl_view, struct_view, function_view}
use Rattle.c0_tree.specs.Primitives.{primitive_view}
use Rattle.c0_meaning.specs.Ty.{named}
use Rattle.c0_meaning.specs.Env.{Typed, Shape, Signature, Env, typed_of, shape_of, signature_of, primitive_signature, first_named, callee_of}
use Rattle.c0_meaning.specs.Env as spec
use Rattle.c0_tree.specs.declared.tree.Kind.TheVariants as kind
use Rattle.c0_body_check.specs.declared.scope.Variable.{Variable}
use Rattle.c0_body_check.specs.declared.scope.Callee.{Callee}
use Rattle.c0_body_check.specs.declared.scope.Callee.TheVariants.{Primitive as CallsPrimitive, Function as CallsFunction}
use Rattle.c0_meaning.specs.Form.{ty_view}
use Rattle.c0_meaning.specs.Words.{words}
use Rattle.c0_name_check.specs.Names.{look, number_named}
use Rattle.c0_meaning.specs.Sizes.{WORDS_CAP}
use Rattle.c0_body_check.specs.declared.scope.Scope.{Scope}

-- a variable or field
abbrev pub typed_view : Decl → Typed
typed_view d = typed_of (decl_view d)

-- a struct
abbrev pub shape_view : StructDef → Shape
shape_view s = shape_of (struct_view s)

-- a function
abbrev pub signature_view : Function → Signature
signature_view f = signature_of (function_view f)

-- a primitive
abbrev pub primitive_signature_view : Primitive → Signature
primitive_signature_view p = primitive_signature (primitive_view p)

-- the environment that a scope holds
abbrev pub env_view : Scope → Env
env_view scope = record {
  structs = map shape_view scope.structs.now;
  globals = map typed_view scope.globals.now;
  functions = map signature_view scope.functions.now;
  primitives = map primitive_signature_view scope.primitives.now;
  locals = map typed_view scope.params.now ++ map typed_view scope.locals.now;
}

-- an element of a list that was found, with its number
abbrev pub found_in : {T A : Type 0} → (T → A) → Option (ℕ × Bor T) → Option (ℕ × A)
found_in view None = None
found_in view (Some p) = Some (p.0, view p.1.now)

-- a map tells the number of the first of a list that has a name
abbrev pub MapTells : {A S T : Type 0} → (T → List ℕ) → IndexMap (Vec ℕ A) ℕ S → List T → Type 0
MapTells name names list = (text : List ℕ) → look names text ≡ number_named name text 0 list

-- for each struct a map tells the numbers of its fields
pub record FieldsTell {A S : Type 0} (names : List (IndexMap (Vec ℕ A) ℕ S)) (structs : List StructDef) : Type 0 where
  pub count : length names ≡ length structs
  pub each : (i : ℕ) (n : IndexMap (Vec ℕ A) ℕ S) (s : StructDef) → i < length structs
      → MapTells (λ v. v.text) (get_or names i n) (map typed_view (get_or structs i s).fields.items)

-- the maps of a scope tell the numbers of its lists
pub record Knows (scope : Scope) : Type 0 where
  pub structs : MapTells (λ s. s.text) scope.struct_names.now (map shape_view scope.structs.now)
  pub sizes : (text : List ℕ) (n : ℕ) → look scope.struct_names.now text ≡ Some n
      → get_or scope.struct_words.now n 0 ≡ min (words (map shape_view scope.structs.now) (named text)) WORDS_CAP
  pub fields : FieldsTell scope.field_names.now scope.structs.now
  pub globals : MapTells (λ v. v.text) scope.global_names.now (map typed_view scope.globals.now)
  pub functions : MapTells (λ s. s.text) scope.function_names.now (map signature_view scope.functions.now)
  pub primitives : MapTells (λ s. s.text) scope.primitive_names.now (map primitive_signature_view scope.primitives.now)
  pub locals : MapTells (λ v. v.text) scope.local_names.now (map typed_view scope.params.now ++ map typed_view scope.locals.now)

-- a variable that was found
abbrev pub variable_view : Variable → spec.Variable
variable_view v = record { kind = v.kind; number = v.number; ty = ty_view v.ty.now }

-- a callee that was found
abbrev pub callee_view : Callee → spec.Callee
callee_view (CallsPrimitive n p) = callee_of kind.Primitive (n, primitive_signature_view p.now)
callee_view (CallsFunction n f) = callee_of kind.Function (n, signature_view f.now)
