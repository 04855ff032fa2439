-- What the answer to a source says.
use Rattle.std.specs.Prelude.{ℕ, ◌≡◌, ◌≢◌, ◌≤◌, List, [], length, Result, Ok, Err}
use Rattle.c0_tree.specs.declared.primitive.Program.{Program}
use Rattle.c0_tree.specs.declared.primitive.Program.TheVariants.{Kernel}
use Rattle.c0_tree.specs.Tree.{CUnit}
use Rattle.c0_parser.specs.Faults.{ReadsAs, FaultIs}
use Rattle.c0_parser.specs.declared.fault.ReadFault.TheVariants.{Memory}
use Rattle.c0_types.specs.declared.fault.TypeFault.{TypeFault}
use Rattle.c0_types.specs.declared.fault.TypeFault.TheVariants.{Memory as NoMemory}
use Rattle.c0_types.specs.Answer.{FaultAnswersAs}
use Rattle.c0_types.specs.Source.{source_faults_as, checked_as}
use Rattle.c0_types.specs.declared.source_fault.SourceFault.{SourceFault}
use Rattle.c0_types.specs.declared.source_fault.SourceFault.TheVariants.{Reading, Typing}

-- a unit is the checked one, of a kernel or a user program, of what a source that isn't too long reads as, in which no fault of typing
-- stands
pub record IsUnitAs (program : Program) (source : List ℕ) (checked : CUnit) : Type 0 where
  pub short : length source ≤ 1048576
  pub tree : CUnit
  pub reads : ReadsAs source tree
  pub faultless : source_faults_as program tree ≡ []
  pub resolved : checked ≡ checked_as program tree

-- a source that isn't too long reads as a tree of which this is the first fault of typing, or want of memory
pub record IsMistypedAs (program : Program) (source : List ℕ) (f : TypeFault) : Type 0 where
  pub short : length source ≤ 1048576
  pub tree : CUnit
  pub reads : ReadsAs source tree
  pub answers : FaultAnswersAs program tree f

-- what is so of the tree that a source that isn't too long reads as
abbrev pub OfTree : List ℕ → (CUnit → Type 0) → Type 0
OfTree source is = (tree : CUnit) → length source ≤ 1048576 → ReadsAs source tree → is tree

-- a unit is the checked one of this tree, in which no fault of typing stands
abbrev pub IsCheckedOf : Program → CUnit → CUnit → Type 0
IsCheckedOf program tree checked = (source_faults_as program tree ≡ []) × (checked ≡ checked_as program tree)

-- why a source has no checked unit: the fault of its first token that cannot be, or the first fault of typing of its tree
abbrev pub IsFaultAs : Program → List ℕ → SourceFault → Type 0
IsFaultAs program source (Reading f) = FaultIs source f
IsFaultAs program source (Typing f) = IsMistypedAs program source f

-- why a tree has no checked unit, where its source was read: its first fault of typing; want of memory says nothing
abbrev pub IsFaultInAs : Program → CUnit → SourceFault → Type 0
IsFaultInAs program tree (Reading f) = f ≡ Memory
IsFaultInAs program tree (Typing f) = FaultAnswersAs program tree f

-- a fault is the one for which a source has no checked unit; want of memory is no fault of a source
pub record IsFirstFaultAs (program : Program) (source : List ℕ) (f : SourceFault) : Type 0 where
  pub fault : IsFaultAs program source f
  pub read : f ≢ Reading Memory
  pub typed : f ≢ Typing NoMemory

-- what a source is answered by: its checked unit, or its first fault
abbrev pub IsAnswerAs : Program → List ℕ → Result CUnit SourceFault → Type 0
IsAnswerAs program source (Ok u) = IsUnitAs program source u
IsAnswerAs program source (Err f) = IsFirstFaultAs program source f

-- these of a kernel's source
abbrev pub IsUnitOf : List ℕ → CUnit → Type 0
IsUnitOf = IsUnitAs Kernel

abbrev pub IsSourceFaultOf : List ℕ → SourceFault → Type 0
IsSourceFaultOf = IsFaultAs Kernel

abbrev pub IsFaultIn : CUnit → SourceFault → Type 0
IsFaultIn = IsFaultInAs Kernel

abbrev pub IsFirstFault : List ℕ → SourceFault → Type 0
IsFirstFault = IsFirstFaultAs Kernel

abbrev pub IsFrontAnswer : List ℕ → Result CUnit SourceFault → Type 0
IsFrontAnswer = IsAnswerAs Kernel
