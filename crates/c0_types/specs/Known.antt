-- What a body is checked with: the declarations of its unit, and maps that tell their numbers.
use Rattle.std.specs.Prelude.{List, [], map}
use Rattle.c0_tree.specs.declared.tree.Decl.{Decl}
use Rattle.c0_tree.specs.declared.tree.StructDef.{StructDef}
use Rattle.c0_tree.specs.declared.tree.Function.{Function}
use Rattle.c0_tree.specs.declared.primitive.Primitive.{Primitive}
use Rattle.c0_meaning.specs.Env.{Env}
use Rattle.c0_name_check.specs.Structs.{KnowsStructs}
use Rattle.c0_body_check.specs.Scope.{FieldsTell, MapTells, shape_view, signature_view, typed_view, primitive_signature_view}
use Rattle.c0_types.specs.declared.structs.KnownStructs.{KnownStructs}
use Rattle.c0_types.specs.declared.space.UnitNames.{UnitNames}
use Rattle.c0_types.specs.declared.bodies.Declared.{Declared}

-- the environment of a unit's declarations, without parameters and locals
abbrev pub declarations_env : List StructDef → List Decl → List Function → List Primitive → Env
declarations_env structs globals functions primitives = record {
  structs = map shape_view structs;
  globals = map typed_view globals;
  functions = map signature_view functions;
  primitives = map primitive_signature_view primitives;
  locals = [];
}

-- the maps tell the numbers of these declarations
pub record TellUnit (known : KnownStructs) (names : UnitNames) (ss : List StructDef) (gs : List Decl) (fs : List Function) (ps : List Primitive) : Type 0 where
  pub structs : KnowsStructs known.names known.words.items (map shape_view ss)
  pub fields : FieldsTell known.field_names.items ss
  pub globals : MapTells (λ v. v.text) names.globals (map typed_view gs)
  pub functions : MapTells (λ s. s.text) names.functions (map signature_view fs)
  pub primitives : MapTells (λ s. s.text) names.primitives (map primitive_signature_view ps)

-- the environment of what is declared, with these functions
abbrev pub unit_env : Declared → List Function → Env
unit_env d functions = declarations_env d.structs.now d.globals.now functions d.primitives.now

-- what is declared tells the numbers of its names, with these functions
abbrev pub KnowsUnit : Declared → List Function → Type 0
KnowsUnit d functions = TellUnit d.known.now d.names.now d.structs.now d.globals.now functions d.primitives.now
