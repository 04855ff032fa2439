-- The faults of a unit, and the one that answers.
use Rattle.std.specs.Prelude.{◌≡◌, ◌⊎◌, ◌↔◌, ℕ, Bool, true, false, ◌&&◌, ◌||◌, ◌==◌, nat_lt, if◌then◌else◌, List, [], ◌∷◌, ◌++◌, Option, Some, None}
use Rattle.c0_tree.specs.declared.tree.Span.{Span}

-- the number of a fault, its span, and the line of the asm text, counted from 1, where it is a line that isn't allowed (else 0)
pub record Fault : Type 0 where
  pub number : ℕ
  pub span : Span
  pub line : ℕ

-- no such name
abbrev pub UNKNOWN_NAME : ℕ
UNKNOWN_NAME = 20

-- a name set before in its space
abbrev pub NAME_TWICE : ℕ
NAME_TWICE = 21

-- another type than is asked
abbrev pub WRONG_TYPE : ℕ
WRONG_TYPE = 22

-- another number of arguments than of parameters
abbrev pub WRONG_COUNT : ℕ
WRONG_COUNT = 23

-- no place where one is asked
abbrev pub NOT_A_PLACE : ℕ
NOT_A_PLACE = 24

-- the address of a local place
abbrev pub LOCAL_ADDRESS : ℕ
LOCAL_ADDRESS = 25

-- a struct that holds itself other than through a pointer
abbrev pub STRUCT_HOLDS_ITSELF : ℕ
STRUCT_HOLDS_ITSELF = 26

-- an expression that needs more than 12 registers
abbrev pub TOO_DEEP : ℕ
TOO_DEEP = 27

-- a function of more than 2,000 nodes
abbrev pub TOO_MANY_NODES : ℕ
TOO_MANY_NODES = 28

-- a unit of more than 100,000 nodes
abbrev pub UNIT_TOO_LARGE : ℕ
UNIT_TOO_LARGE = 29

-- globals of more than 262,144 words
abbrev pub GLOBALS_TOO_LARGE : ℕ
GLOBALS_TOO_LARGE = 30

-- no function `int dispatch(int, int, int)` with a code body
abbrev pub NO_DISPATCH : ℕ
NO_DISPATCH = 31

-- a line of an asm text that isn't allowed
abbrev pub ASM_NOT_ALLOWED : ℕ
ASM_NOT_ALLOWED = 32

-- more than 8 parameters, or 4 of an asm function
abbrev pub TOO_MANY_PARAMETERS : ℕ
TOO_MANY_PARAMETERS = 33

-- a type of more than 1,048,576 words
abbrev pub TYPE_TOO_LARGE : ℕ
TYPE_TOO_LARGE = 34

-- an array of length 0
abbrev pub EMPTY_ARRAY : ℕ
EMPTY_ARRAY = 35

-- no function `int main()` with a code body
abbrev pub NO_MAIN : ℕ
NO_MAIN = 36

-- a fault of a span
abbrev pub fault : ℕ → Span → Fault
fault number span = record { number = number; span = span; line = 0 }

-- whether a fault comes before another of the same first byte and number
abbrev pub comes_shorter : Fault → Fault → Bool
comes_shorter a b = nat_lt a.span.end b.span.end || ((a.span.end == b.span.end) && nat_lt a.line b.line)

-- whether a fault comes before another of the same first byte
abbrev pub comes_lower : Fault → Fault → Bool
comes_lower a b = nat_lt a.number b.number || ((a.number == b.number) && comes_shorter a b)

-- whether a fault comes before another: by the first byte of its span, then by its number; the end of the span and the line make the
-- order total
abbrev pub comes_before : Fault → Fault → Bool
comes_before a b = nat_lt a.span.start b.span.start || ((a.span.start == b.span.start) && comes_lower a b)

-- a fault is one of a list
abbrev pub FaultStands : List Fault → Fault → Type 0
FaultStands [] f = ⊥
FaultStands (g ∷ rest) f = (g ≡ f) ⊎ FaultStands rest f

-- a fault stands, and none that stands comes before it
pub record IsLeast (faults : List Fault) (f : Fault) : Type 0 where
  pub stands : FaultStands faults f
  pub least : (g : Fault) → FaultStands faults g → comes_before g f ≡ false

-- the lesser of what was met before and a fault
abbrev pub kept : Option Fault → Fault → Option Fault
kept None f = Some f
kept (Some g) f = if comes_before f g then Some f else Some g

-- the least of a list and of what was met before
abbrev pub kept_all : Option Fault → List Fault → Option Fault
kept_all met [] = met
kept_all met (f ∷ rest) = kept_all (kept met f) rest

-- a law: of two faults that differ one comes before the other, and not both
pub record OrderIsTotal : Type 0 where
  pub one : (a b : Fault) → comes_before a b ≡ false → comes_before b a ≡ false → a ≡ b
  pub not_both : (a b : Fault) → comes_before a b ≡ true → comes_before b a ≡ false
  pub onward : (a b c : Fault) → comes_before a b ≡ true → comes_before b c ≡ true → comes_before a c ≡ true

-- a law: a list has a least fault exactly where it has a fault, and it has no second one
pub record LeastIsThere : Type 0 where
  pub some : (faults : List Fault) (f : Fault) → FaultStands faults f → (g : Fault) × IsLeast faults g
  pub none : (f : Fault) → IsLeast [] f → ⊥
  pub only : (faults : List Fault) (f g : Fault) → IsLeast faults f → IsLeast faults g → f ≡ g

-- a law: what is kept of a list is its least fault, and nothing is kept where no fault stands
pub record KeptIsLeast : Type 0 where
  pub least : (faults : List Fault) (f : Fault) → kept_all None faults ≡ Some f ↔ IsLeast faults f
  pub none : (faults : List Fault) → kept_all None faults ≡ None ↔ (faults ≡ [])

-- a law: lists of the same faults leave the same kept, in whatever order they are met and however often
abbrev pub MeetingIsFree : Type 0
MeetingIsFree = (met : Option Fault) (fs gs : List Fault) → ((f : Fault) → FaultStands fs f ↔ FaultStands gs f) → kept_all met fs ≡ kept_all met gs

-- a law: what two lists leave, met one after the other, is what they leave joined, in either order
pub record MeetingJoins : Type 0 where
  pub joined : (met : Option Fault) (fs gs : List Fault) → kept_all met (fs ++ gs) ≡ kept_all (kept_all met fs) gs
  pub swapped : (met : Option Fault) (fs gs : List Fault) → kept_all (kept_all met fs) gs ≡ kept_all (kept_all met gs) fs
