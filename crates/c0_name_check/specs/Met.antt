-- What contracts see of a fault that was met.
use Rattle.std.specs.Prelude.{◌≡◌, ℕ, List, Option}
use Rattle.std.specs.Option.{option_map}
use Rattle.c0_meaning.specs.Fault as spec
use Rattle.c0_name_check.specs.declared.met.Fault.{Fault}
use Rattle.c0_name_check.specs.declared.met.Fault.TheVariants.{Wrong, BadLine}
use Rattle.c0_name_check.specs.declared.met.Mistake.{Mistake}
use Rattle.c0_name_check.specs.declared.met.Mistake.TheVariants.{UnknownName, NameTwice, WrongType, WrongCount, NotAPlace, LocalAddress}
use Rattle.c0_name_check.specs.declared.met.Mistake.TheVariants.{StructHoldsItself, TooDeep, TooManyNodes, UnitTooLarge, GlobalsTooLarge, NoDispatch}
use Rattle.c0_name_check.specs.declared.met.Mistake.TheVariants.{TooManyParameters, TypeTooLarge, EmptyArray, NoMain}

-- the number of a mistake
abbrev pub mistake_number : Mistake → ℕ
mistake_number UnknownName = spec.UNKNOWN_NAME
mistake_number NameTwice = spec.NAME_TWICE
mistake_number WrongType = spec.WRONG_TYPE
mistake_number WrongCount = spec.WRONG_COUNT
mistake_number NotAPlace = spec.NOT_A_PLACE
mistake_number LocalAddress = spec.LOCAL_ADDRESS
mistake_number StructHoldsItself = spec.STRUCT_HOLDS_ITSELF
mistake_number TooDeep = spec.TOO_DEEP
mistake_number TooManyNodes = spec.TOO_MANY_NODES
mistake_number UnitTooLarge = spec.UNIT_TOO_LARGE
mistake_number GlobalsTooLarge = spec.GLOBALS_TOO_LARGE
mistake_number NoDispatch = spec.NO_DISPATCH
mistake_number TooManyParameters = spec.TOO_MANY_PARAMETERS
mistake_number TypeTooLarge = spec.TYPE_TOO_LARGE
mistake_number EmptyArray = spec.EMPTY_ARRAY
mistake_number NoMain = spec.NO_MAIN

-- a fault
abbrev pub fault_view : Fault → spec.Fault
fault_view (Wrong mistake span) = spec.fault (mistake_number mistake) span
fault_view (BadLine span line) = record { number = spec.ASM_NOT_ALLOWED; span = span; line = line }

-- the least fault met so far
abbrev pub met_view : Option Fault → Option spec.Fault
met_view least = option_map fault_view least

-- these faults are met: the least fault before and after
abbrev pub Meets : Option Fault → Option Fault → List spec.Fault → Type 0
Meets old new faults = met_view new ≡ spec.kept_all (met_view old) faults
