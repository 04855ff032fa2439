-- The code that every kernel has beside its functions: the entry, and the routines that `CodeAddresses` names.
use Rattle.std.specs.Prelude.{ℕ, ◌+◌, ◌/◌, ◌%◌, ◌^◌, List, [], ◌∷◌, ◌++◌, slice_index}
use Rattle.mips_table.specs.declared.inst.Inst.{Inst}
use Rattle.mips_table.specs.declared.inst.Inst.TheVariants.{Lui, Ori, Bne, J, Div}
use Rattle.masm.specs.declared.registers.CodeAddresses.{CodeAddresses}
use Rattle.masm.specs.declared.registers.TheConstants.{ARGUMENTS, GLOBALS}
use Rattle.masm.specs.declared.roles.TheConstants.{ZERO}
use Rattle.c0_runtime.specs.declared.entry.TheConstants.{SET_ENDS}
use Rattle.c0_runtime.specs.declared.new_object.TheConstants.{TEST_ROOM, BUMP_HEAP, FIND_OBJECT, ZERO_OBJECT, NO_ROOM}
use Rattle.c0_runtime.specs.declared.runtime.TheConstants.{MULTIPLY_INTS, GIVE_QUOTIENT, GIVE_REMAINDER}

-- the stack's first address and the address of its end go to their registers, from the layer's variables, and so does the return address
abbrev pub set_ends_code : List Inst
set_ends_code = SET_ENDS

-- what stands behind the entry's first instruction
abbrev pub behind_first : (globals : ℕ) → List Inst
behind_first globals = Ori GLOBALS GLOBALS (globals % 2 ^ 16) ∷ set_ends_code

-- The entry: the globals' address, the end of the first frame (none stands yet, so it is the stack's first address), the stack's end and
-- the return address, the layer's entry at which the kernel is left, go to their registers. It runs into the function that stands behind it.
abbrev pub startup_code : (globals : ℕ) → List Inst
startup_code globals = Lui GLOBALS (globals / 2 ^ 16) ∷ behind_first globals

-- The first part of the routine `new`: ANSWER has the object's words. The words used, with these, go to END, and where they exceed the heap the code goes
-- on at its last two instructions.
abbrev pub test_room_code : List Inst
test_room_code = TEST_ROOM

-- The second part: the words used are raised, and the heap's first address is read.
abbrev pub bump_heap_code : List Inst
bump_heap_code = BUMP_HEAP

-- The third part: the object's address goes to ANSWER and NEXT, and that of its end to END.
abbrev pub find_object_code : List Inst
find_object_code = FIND_OBJECT

-- The last part: a word after the other becomes 0, and the routine returns; or it returns with null.
abbrev pub zero_object_code : List Inst
zero_object_code = ZERO_OBJECT ++ NO_ROOM

-- The routine `new`: ANSWER has the words of an object, one or more, and becomes the object's address, or 0 where there is no room.
abbrev pub new_routine : List Inst
new_routine = test_room_code ++ (bump_heap_code ++ (find_object_code ++ zero_object_code))

-- multiplication: ANSWER becomes the product of the first two arguments
abbrev pub multiply_code : List Inst
multiply_code = MULTIPLY_INTS

-- a division of the first argument by the second: where that is 0 the code goes on at the exit, else hi and lo are set
abbrev pub division_routine : (exit : ℕ) → List Inst
division_routine exit = Bne (ARGUMENTS + 1) ZERO 1 ∷ J (exit / 4) ∷ Div ARGUMENTS (ARGUMENTS + 1) ∷ []

-- division: ANSWER becomes their quotient
abbrev pub divide_code : (exit : ℕ) → List Inst
divide_code exit = division_routine exit ++ GIVE_QUOTIENT

-- remainder: ANSWER becomes what the quotient leaves
abbrev pub remainder_code : (exit : ℕ) → List Inst
remainder_code exit = division_routine exit ++ GIVE_REMAINDER

-- the exit of a division by zero: the third, in the order of their power words
abbrev pub zero_exit : CodeAddresses → ℕ
zero_exit p = slice_index p.faults 2

-- the routines, one behind the other
abbrev pub runtime_code : CodeAddresses → List Inst
runtime_code p = new_routine ++ (multiply_code ++ (divide_code (zero_exit p) ++ remainder_code (zero_exit p)))
