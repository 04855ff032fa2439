-- What contracts see of the answer of the check.
use Rattle.std.specs.Prelude.{ℕ, Option, Some, None, option_map}
use Rattle.c0_tree.specs.declared.primitive.Program.{Program}
use Rattle.c0_tree.specs.declared.primitive.Program.TheVariants.{Kernel}
use Rattle.c0_tree.specs.declared.tree.Span.{Span}
use Rattle.c0_tree.specs.Tree.{CUnit}
use Rattle.c0_meaning.specs.Fault as spec
use Rattle.c0_meaning.specs.Fault.{IsLeast, fault, UNKNOWN_NAME, NAME_TWICE, WRONG_TYPE, WRONG_COUNT, NOT_A_PLACE}
use Rattle.c0_meaning.specs.Fault.{LOCAL_ADDRESS, STRUCT_HOLDS_ITSELF, TOO_DEEP, TOO_MANY_NODES, UNIT_TOO_LARGE, GLOBALS_TOO_LARGE, NO_DISPATCH}
use Rattle.c0_meaning.specs.Fault.{ASM_NOT_ALLOWED, TOO_MANY_PARAMETERS, TYPE_TOO_LARGE, EMPTY_ARRAY, NO_MAIN}
use Rattle.c0_types.specs.declared.fault.TypeFault.{TypeFault}
use Rattle.c0_types.specs.declared.fault.TypeFault.TheVariants.{UnknownName, NameTwice, WrongType, WrongCount, NotAPlace, LocalAddress}
use Rattle.c0_types.specs.declared.fault.TypeFault.TheVariants.{StructHoldsItself, TooDeep, TooManyNodes, UnitTooLarge, GlobalsTooLarge, NoDispatch}
use Rattle.c0_types.specs.declared.fault.TypeFault.TheVariants.{AsmNotAllowed, TooManyParameters, TypeTooLarge, EmptyArray, NoMain, Memory}
use Rattle.c0_types.specs.Source.{source_faults_as}

-- the fault that is answered, but for want of memory
abbrev pub type_fault_view : TypeFault → Option spec.Fault
type_fault_view (UnknownName s) = Some (fault UNKNOWN_NAME s)
type_fault_view (NameTwice s) = Some (fault NAME_TWICE s)
type_fault_view (WrongType s) = Some (fault WRONG_TYPE s)
type_fault_view (WrongCount s) = Some (fault WRONG_COUNT s)
type_fault_view (NotAPlace s) = Some (fault NOT_A_PLACE s)
type_fault_view (LocalAddress s) = Some (fault LOCAL_ADDRESS s)
type_fault_view (StructHoldsItself s) = Some (fault STRUCT_HOLDS_ITSELF s)
type_fault_view (TooDeep s) = Some (fault TOO_DEEP s)
type_fault_view (TooManyNodes s) = Some (fault TOO_MANY_NODES s)
type_fault_view (UnitTooLarge s) = Some (fault UNIT_TOO_LARGE s)
type_fault_view (GlobalsTooLarge s) = Some (fault GLOBALS_TOO_LARGE s)
type_fault_view (NoDispatch s) = Some (fault NO_DISPATCH s)
type_fault_view (AsmNotAllowed s line) = Some (record { number = ASM_NOT_ALLOWED; span = s; line = line })
type_fault_view (TooManyParameters s) = Some (fault TOO_MANY_PARAMETERS s)
type_fault_view (TypeTooLarge s) = Some (fault TYPE_TOO_LARGE s)
type_fault_view (EmptyArray s) = Some (fault EMPTY_ARRAY s)
type_fault_view (NoMain s) = Some (fault NO_MAIN s)
type_fault_view Memory = None

-- the number that is printed for a fault, where it is one of the source
abbrev pub number_or : ℕ → Option spec.Fault → ℕ
number_or memory None = memory
number_or memory (Some f) = f.number

-- the number that is printed for an answer: 39 is want of memory
abbrev pub type_fault_number : TypeFault → ℕ
type_fault_number f = number_or 39 (type_fault_view f)

-- where the fault stands, but for want of memory
abbrev pub type_fault_span : TypeFault → Option Span
type_fault_span f = option_map (λ g. g.span) (type_fault_view f)

-- the line of an asm text that isn't allowed
abbrev pub type_fault_line : TypeFault → Option ℕ
type_fault_line (UnknownName s) = None
type_fault_line (NameTwice s) = None
type_fault_line (WrongType s) = None
type_fault_line (WrongCount s) = None
type_fault_line (NotAPlace s) = None
type_fault_line (LocalAddress s) = None
type_fault_line (StructHoldsItself s) = None
type_fault_line (TooDeep s) = None
type_fault_line (TooManyNodes s) = None
type_fault_line (UnitTooLarge s) = None
type_fault_line (GlobalsTooLarge s) = None
type_fault_line (NoDispatch s) = None
type_fault_line (AsmNotAllowed s line) = Some line
type_fault_line (TooManyParameters s) = None
type_fault_line (TypeTooLarge s) = None
type_fault_line (EmptyArray s) = None
type_fault_line (NoMain s) = None
type_fault_line Memory = None

-- no fault of a kernel's or a user program's source comes before the one that is answered; want of memory says nothing
abbrev pub AnswersLeastAs : Program → Option spec.Fault → CUnit → Type 0
AnswersLeastAs program None u = Unit {0}
AnswersLeastAs program (Some f) u = IsLeast (source_faults_as program u) f

-- a fault is the answer that such a unit has, unless it is want of memory
abbrev pub FaultAnswersAs : Program → CUnit → TypeFault → Type 0
FaultAnswersAs program u f = AnswersLeastAs program (type_fault_view f) u

-- of a kernel's source
abbrev pub FaultAnswers : CUnit → TypeFault → Type 0
FaultAnswers = FaultAnswersAs Kernel
