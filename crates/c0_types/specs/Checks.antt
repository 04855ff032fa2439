-- What contracts see of the check of a unit's parts.
use Rattle.std.specs.Prelude.{◌≡◌, ℕ, Bool, List, ◌++◌, Option, map, slice_index_or, slice_set}
use Rattle.c0_tree.specs.declared.tree.AsmText.{AsmText}
use Rattle.c0_tree.specs.declared.tree.Decl.{Decl}
use Rattle.c0_tree.specs.declared.tree.Function.{Function}
use Rattle.c0_tree.specs.declared.tree.StructDef.{StructDef}
use Rattle.c0_tree.specs.declared.primitive.Primitive.{Primitive}
use Rattle.c0_tree.specs.Primitives.{primitive_view}
use Rattle.c0_tree.specs.Tree.{CBody, CFunction, CName, CStruct}
use Rattle.c0_tree.specs.View.{decl_view, function_view, struct_view}
use Rattle.c0_meaning.specs.Env.{Shape, shape_of}
use Rattle.c0_meaning.specs.Fault.{Fault}
use Rattle.c0_meaning.specs.Form.{ty_view}
use Rattle.c0_meaning.specs.Names.{struct_name_faults, unit_names, unit_name_faults}
use Rattle.c0_meaning.specs.Unit.{struct_faults, structs_faults}
use Rattle.c0_meaning.specs.Words.{holds}
use Rattle.c0_name_check.specs.declared.met.Fault.{Fault as MetFault}
use Rattle.c0_name_check.specs.Met.{Meets}
use Rattle.c0_types.specs.declared.bodies.Declared.{Declared}
use Rattle.c0_types.specs.Known.{unit_env}
use Rattle.c0_types.specs.NumberedStruct.{resolved_struct}
use Rattle.c0_types.specs.Parts.{bodied, faults_of_body, inner_body, inner_faults, text_faults}

-- the faults of a struct are met, where it is told rightly whether it holds itself
abbrev pub MeetsStruct : Option MetFault → Option MetFault → Bool → StructDef → List Shape → Type 0
MeetsStruct old new told s structs = told ≡ holds structs s.name.bytes.items s.name.bytes.items → Meets old new (struct_faults structs (struct_view s))

-- the names of a struct of this number are resolved
abbrev pub ResolvesStruct : ℕ → StructDef → StructDef → List Shape → Type 0
ResolvesStruct number old new structs = struct_view new ≡ resolved_struct structs number (struct_view old)

-- the faults of the structs of a unit, those of their names first
abbrev pub faults_of_structs : List CStruct → List Fault
faults_of_structs structs = struct_name_faults structs ++ structs_faults (map shape_of structs) structs

-- the names of the globals and functions of a unit, in source order
abbrev pub names_of_unit : List Decl → List Function → List CName
names_of_unit globals functions = unit_names (map decl_view globals) (map function_view functions)

-- the names of the globals and functions of a unit that are set before, in the space that they share with these primitives
abbrev pub name_faults_of_unit : List Primitive → List Decl → List Function → List Fault
name_faults_of_unit primitives globals functions = unit_name_faults (map primitive_view primitives) (map decl_view globals) (map function_view functions)

-- the faults of a body as that of this function, by what is declared with these functions
abbrev pub faults_as_body : Declared → List Function → Function → CBody → List Fault
faults_as_body d functions f b = inner_faults (unit_env d functions) f.name.span (map decl_view f.params.items) (ty_view f.answer) b

-- a body as that of this function: its asm text is read, or its names are resolved
abbrev pub checked_as_body : Declared → List Function → Function → CBody → CBody
checked_as_body d functions f b = inner_body (unit_env d functions) (map decl_view f.params.items) b

-- the faults of an asm text as the body of this function
abbrev pub faults_as_text : Function → AsmText → List Fault
faults_as_text f text = text_faults f.name.span (map decl_view f.params.items) text.bytes.items text.span

-- the faults of the body of the function at a place are met
abbrev pub MeetsBodyAt : Declared → List Function → ℕ → Option MetFault → Option MetFault → Type 0
MeetsBodyAt d functions place old new =
    (other : CFunction) → Meets old new (faults_of_body (unit_env d functions) (slice_index_or (map function_view functions) place other))

-- the body of the function at a place is read, or its names are resolved, and the other functions stay as they are
abbrev pub ChecksBodyAt : Declared → ℕ → List Function → List Function → Type 0
ChecksBodyAt d place old new =
    (other : CFunction) →
    map function_view new ≡ slice_set (map function_view old) place (bodied (unit_env d old) (slice_index_or (map function_view old) place other))
