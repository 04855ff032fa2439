-- Worked rows: what small kernels come to.
use Rattle.std.specs.Prelude.{◌≡◌, ℕ, ◌+◌, ◌*◌, pos, neg_ℤ, List, [], ◌∷◌, codes, true, false, Option, Some, None, slice_get, unwrap_or, option_map, length}
use Rattle.c0_tree.specs.declared.primitive.Scalar.{Scalar}
use Rattle.c0_tree.specs.declared.primitive.Scalar.TheVariants.{Int, Bool as Boolean}
use Rattle.c0_tree.specs.declared.tree.UnaryOp.TheVariants.{Negate}
use Rattle.c0_tree.specs.declared.tree.BinaryOp.TheVariants.{Sub}
use Rattle.c0_tree.specs.Tree.{CUnit, assign, unary, binary}
use Rattle.c0_meaning.specs.Value.{globals, heap, Value, int, bool, null, at, group, Values, empty, part}
use Rattle.c0_meaning.specs.State.{first_state}
use Rattle.c0_meaning.specs.Operators.{Failure, NullUse, Bounds, DivZero, StackOut, faulted}
use Rattle.c0_meaning.specs.World.{PrimitiveMeaning, Setting, Cost, Configuration, journal_so_far}
use Rattle.c0_meaning.specs.Execution.{Outcome, Done, Failed, NotYet, exec, dispatch}
use Rattle.worked_rows.specs.Kernels.{z, global, number, block, sums, divisions, by_zero, small_heap, recursion, bounds, null_use}
use Rattle.worked_rows.specs.Kernels.{nexts, counting_kernel, scheduler, asm_sum, list, endless, order, parts_kernel, twice, thrice, inverse}
use Rattle.c0_meaning.specs.PrimitiveCalls.{PrimitiveCall}
use Rattle.worked_rows.specs.SystemKernels.{returning_kernel, overflow, line_kernel, copies, copies_twice}
use Rattle.worked_rows.specs.SystemKernels.{probes, resizes, divides, console_kernel, waiting_kernel}
use Rattle.c0_meaning.specs.RunLaws.{stands_at}
use Rattle.c0_meaning.specs.TypedState.{AnswersFit}
use Rattle.c0_meaning.specs.UserProgram.{prog}
use Rattle.c0_meaning.specs.UserProgram as user
use Rattle.c0_meaning.specs.Unit.{IsChecked, IsCheckedAs}
use Rattle.c0_tree.specs.Primitives.{kernel_primitives}
use Rattle.c0_tree.specs.declared.primitive.Program.TheVariants.{User}

-- 7, or true
abbrev pub seven : Scalar → Value
seven Int = int (pos 7)
seven Boolean = bool true

-- primitives that count and note their calls: those that answer an int answer 7, the others true; each touches one page and one word
abbrev pub sevens : PrimitiveMeaning ℕ PrimitiveCall
sevens n args calls = record {
  answer = seven (unwrap_or (option_map (λ row. row.answer) (slice_get kernel_primitives n)) Int);
  world = calls + 1;
  entries = record { number = n; args = args } ∷ [];
  pages = 1;
  words = 1;
}

-- how a run ended
pub data KernelEnding : Type 0 where
  answered : Option Value → KernelEnding
  failed : Failure → KernelEnding
  not_yet : KernelEnding

-- what is looked at in an outcome: its end, the globals, the heap objects, the words used of the heap, the journal and the cost
pub record Sight : Type 0 where
  pub ending : KernelEnding
  pub globals : Value
  pub objects : Value
  pub heap_words : ℕ
  pub journal : List PrimitiveCall
  pub cost : Cost

-- what is looked at in a configuration
abbrev pub sight : KernelEnding → Cost → Configuration ℕ PrimitiveCall → Sight
sight e k c = record {
  ending = e;
  globals = c.state.global_values;
  objects = c.state.heap_values;
  heap_words = c.state.heap_words;
  journal = journal_so_far c;
  cost = k;
}

-- what is seen of an outcome
abbrev pub sight_of : Outcome ℕ PrimitiveCall → Sight
sight_of (Done k c) = sight (answered c.answer) k c
sight_of (Failed k f c) = sight (failed f) k c
sight_of (NotYet k c) = sight not_yet k c

-- `dispatch` of a unit, in a heap and a stack of so many words, is called with a cause, data and a user, within so many units
abbrev pub comes : CUnit → (room stack cause edata user limit : ℕ) → Sight
comes u room stack cause edata user limit =
    sight_of (dispatch (record { unit = u; heap = room; stack = stack; meaning = sevens }) limit (pos cause) (pos edata) (pos user) (first_state u) 0)

-- values one after another
abbrev pub all : List Value → Values
all [] = empty
all (v ∷ rest) = part v (all rest)

-- and as a group
abbrev pub these : List Value → Value
these vs = group (all vs)

-- a call of the primitive of a number
abbrev pub primitive_asked : ℕ → List Value → PrimitiveCall
primitive_asked n args = record { number = n; args = all args }

-- an int from 0 on
abbrev pub plain : ℕ → Value
plain n = int (pos n)

-- an int up to 0
abbrev pub negative_int : ℕ → Value
negative_int n = int (neg_ℤ (pos n))

-- a pointer to a global, or to a part of one
abbrev pub to_global : List ℕ → Value
to_global path = at (record { region = globals; path = path })

-- a pointer to a heap object, or to a part of one
abbrev pub to_object : List ℕ → Value
to_object path = at (record { region = heap; path = path })

-- a sight with neither heap nor journal
abbrev pub shows : KernelEnding → List Value → ℕ → Sight
shows e gs own = record {
  ending = e;
  globals = these gs;
  objects = these [];
  heap_words = 0;
  journal = [];
  cost = record { own = own; primitive = 0; pages = 0 };
}

-- a sight without a journal
abbrev pub shows_objects : KernelEnding → List Value → List Value → ℕ → ℕ → Sight
shows_objects e gs objects used own =
    record { ending = e; globals = these gs; objects = these objects; heap_words = used; journal = []; cost = record { own = own; primitive = 0; pages = 0 } }

-- the answer of an int from 0 on
abbrev pub answered_int : ℕ → KernelEnding
answered_int n = answered (Some (plain n))

-- kernels, by their end, their variables and objects, and their units
pub record AreRunsRight : Type 0 where
  pub sums_wrap : comes sums 64 256 0 0 0 1000 ≡ shows (answered_int 0) (negative_int 2147483648 ∷ negative_int 2147483648 ∷ []) 20
  pub truncates : comes divisions 64 256 0 0 0 1000 ≡ shows (answered_int 0) (negative_int 2147483648 ∷ plain 0 ∷ negative_int 3 ∷ negative_int 1 ∷ []) 32
  pub division_by_zero : comes by_zero 64 256 0 0 0 1000 ≡ shows (failed (faulted DivZero)) (plain 1 ∷ []) 10
  pub heap_is_full : comes small_heap 3 256 0 0 0 1000
      ≡ shows_objects (answered_int 0) (to_object (0 ∷ []) ∷ to_object (1 ∷ []) ∷ null ∷ []) (these (plain 0 ∷ plain 0 ∷ []) ∷ plain 0 ∷ []) 3 11
  pub heap_has_room : comes small_heap 4 256 0 0 0 1000 ≡ shows_objects (answered_int 0) (to_object (0 ∷ []) ∷ to_object (1 ∷ []) ∷ to_object (2 ∷ []) ∷ [])
      (these (plain 0 ∷ plain 0 ∷ []) ∷ plain 0 ∷ plain 0 ∷ []) 4 12
  pub stack_is_enough : comes recursion 64 66 0 0 0 1000 ≡ shows (answered_int 0) (plain 0 ∷ []) 147
  pub stack_is_out : comes recursion 64 65 0 0 0 1000 ≡ shows (failed (faulted StackOut)) (plain 0 ∷ []) 114
  pub index_is_out : comes bounds 64 256 0 0 0 1000
      ≡ shows (failed (faulted Bounds)) (these (plain 0 ∷ plain 0 ∷ plain 0 ∷ plain 9 ∷ []) ∷ to_global (0 ∷ 3 ∷ []) ∷ plain 4 ∷ []) 26
  pub null_is_used : comes null_use 64 256 0 0 0 1000
      ≡ shows (failed (faulted NullUse)) (these (plain 0 ∷ plain 0 ∷ plain 0 ∷ plain 0 ∷ []) ∷ null ∷ plain 0 ∷ []) 4
  pub first_next : comes nexts 64 256 0 0 0 1000 ≡ shows (answered_int 1) [] 10
  pub halts : comes nexts 64 256 3 0 1 1000 ≡ shows (answered_int 0) [] 7
  pub counted : comes counting_kernel 64 256 3 0 1 1000 ≡ shows (answered_int 1) (plain 1 ∷ []) 19
  pub asm_functions : comes asm_sum 64 256 0 0 0 1000 ≡ shows (answered_int 0) (negative_int 2 ∷ negative_int 2147483647 ∷ []) 17
  pub first_user : comes scheduler 64 256 0 0 0 1000 ≡ shows (answered_int 1) (plain 0 ∷ these (bool false ∷ bool false ∷ bool false ∷ bool false ∷ []) ∷ []) 49
  pub sends : comes scheduler 64 256 6 12 1 1000 ≡ record {
    ending = answered_int 2;
    globals = these (plain 0 ∷ these (bool false ∷ bool true ∷ bool false ∷ bool false ∷ []) ∷ []);
    objects = these [];
    heap_words = 0;
    journal = primitive_asked 0 (plain 1 ∷ plain 4 ∷ []) ∷ primitive_asked 5 (plain 3 ∷ plain 64 ∷ plain 7 ∷ []) ∷ [];
    cost = record { own = 71; primitive = 6; pages = 2 };
  }
  pub ends : comes scheduler 64 256 6 12 3 1000 ≡ record {
    ending = answered_int 0;
    globals = these (plain 7 ∷ these (bool false ∷ bool false ∷ bool false ∷ bool true ∷ []) ∷ []);
    objects = these [];
    heap_words = 0;
    journal = primitive_asked 0 (plain 3 ∷ plain 4 ∷ []) ∷ [];
    cost = record { own = 30; primitive = 3; pages = 1 };
  }
  pub objects : comes list 9 256 0 0 0 1000 ≡ shows_objects (answered_int 32) (to_object (2 ∷ []) ∷ bool true ∷ bool true ∷ plain 32 ∷ [])
      (these (these (plain 1 ∷ plain 0 ∷ []) ∷ null ∷ []) ∷ these (these (plain 0 ∷ plain 2 ∷ []) ∷ to_object (0 ∷ []) ∷ [])
      ∷ these (these (plain 3 ∷ plain 0 ∷ []) ∷ to_object (1 ∷ []) ∷ []) ∷ []) 9 145
  pub statements_alone : sight_of
      (exec (record { unit = sums; heap = 64; stack = 256; meaning = sevens }) 5
      (block (assign z (global (codes "x") 0) (binary z Sub (number 2) (number 5)) ∷ [])) (first_state sums) 0)
      ≡ shows (answered None) (negative_int 3 ∷ plain 0 ∷ []) 5
  pub never_ends : comes endless 64 256 0 0 0 100 ≡ shows not_yet [] 100

-- the order of evaluation, by the fault that comes first, and what was done before it
pub record IsOrderRight : Type 0 where
  pub right_side_then_place : (comes order 64 256 0 0 0 1000).ending ≡ failed (faulted DivZero)
  pub right_side_then_index : (comes order 64 256 1 0 0 1000).ending ≡ failed (faulted NullUse)
  pub left_then_right : (comes order 64 256 2 0 0 1000).ending ≡ failed (faulted DivZero)
  pub place_then_index : (comes order 64 256 3 0 0 1000).ending ≡ failed (faulted NullUse)
  pub object_then_place : (comes order 64 256 4 0 0 1000).ending ≡ failed (faulted NullUse)
  pub object_stays : (comes order 64 256 4 0 0 1000).heap_words ≡ 1
  pub call_then_place : (comes order 64 256 5 0 0 1000).ending ≡ failed (faulted NullUse)
  pub call_stays : (comes order 64 256 5 0 0 1000).globals ≡ these (null ∷ null ∷ null ∷ these (plain 0 ∷ plain 0 ∷ []) ∷ plain 0 ∷ plain 1 ∷ bool false ∷ [])
  pub argument_then_stack : (comes order 64 10 6 0 0 1000).ending ≡ failed (faulted DivZero)
  pub stack_alone : (comes order 64 10 7 0 0 1000).ending ≡ failed (faulted StackOut)
  pub stack_suffices : (comes order 64 11 7 0 0 1000).ending ≡ answered_int 1
  pub left_decides : (comes order 64 256 8 0 0 1000).cost.own ≡ 59
  pub first_argument_then_second : (comes order 64 256 10 0 0 1000).ending ≡ failed (faulted NullUse)
  pub below_zero : (comes order 64 256 11 0 0 1000).ending ≡ failed (faulted Bounds)
  pub address_is_tested : (comes order 64 256 9 0 0 1000).ending ≡ failed (faulted Bounds)

-- two calls of `dispatch`, one after the other, with what stays between them
abbrev pub comes_again : CUnit → (room stack cause edata user next_cause next_edata next_user limit : ℕ) → Sight
comes_again u room stack cause edata user next_cause next_edata next_user limit =
    let setting : Setting ℕ PrimitiveCall = record { unit = u; heap = room; stack = stack; meaning = sevens } in
    let between = stands_at (dispatch setting limit (pos cause) (pos edata) (pos user) (first_state u) 0) in
    sight_of (dispatch setting limit (pos next_cause) (pos next_edata) (pos next_user) between.state between.world)

-- the variables of `parts_kernel`
abbrev pub variables : Value → Value → List Value → ℕ → List Value
variables p q rows x = p ∷ q ∷ null ∷ these rows ∷ plain x ∷ []

-- two ints
abbrev pub two : ℕ → ℕ → Value
two a b = these (plain a ∷ plain b ∷ [])

-- no element of the array of `parts_kernel` is set
abbrev pub unset : List Value
unset = two 0 0 ∷ two 0 0 ∷ two 0 0 ∷ []

-- The limit of the stack for an asm function. What a step that is cut off, or a place that faults, leaves of the call or `new` before it:
-- `vm_get` with its arguments takes 3 units of the program's own and 3 that are the primitive's, and its place one more. Arrays in arrays,
-- parts of null, and two calls of `dispatch`.
pub record ArePartsRight : Type 0 where
  pub asm_has_room : (comes asm_sum 64 11 0 0 0 1000).ending ≡ answered_int 0
  pub asm_is_out : comes asm_sum 64 10 0 0 0 1000 ≡ shows (failed (faulted StackOut)) (plain 0 ∷ plain 0 ∷ []) 6
  pub entry_stays : comes parts_kernel 64 256 0 0 0 1000 ≡ record {
    ending = failed (faulted NullUse);
    globals = these (variables null null unset 0);
    objects = these [];
    heap_words = 0;
    journal = primitive_asked 0 (plain 1 ∷ plain 4 ∷ []) ∷ [];
    cost = record { own = 11; primitive = 3; pages = 1 };
  }
  pub object_is_null : comes parts_kernel 0 256 1 0 0 1000 ≡ shows (failed (faulted NullUse)) (variables null null unset 0) 13
  pub primitive_is_cut : comes parts_kernel 64 256 6 0 0 35 ≡ shows not_yet (variables null null unset 0) 30
  pub primitive_alone : comes parts_kernel 64 256 6 0 0 36 ≡ record {
    ending = not_yet;
    globals = these (variables null null unset 0);
    objects = these [];
    heap_words = 0;
    journal = primitive_asked 0 (plain 1 ∷ plain 4 ∷ []) ∷ [];
    cost = record { own = 33; primitive = 3; pages = 1 };
  }
  pub primitive_is_stored : comes parts_kernel 64 256 6 0 0 37 ≡ record {
    ending = not_yet;
    globals = these (variables null null unset 7);
    objects = these [];
    heap_words = 0;
    journal = primitive_asked 0 (plain 1 ∷ plain 4 ∷ []) ∷ [];
    cost = record { own = 34; primitive = 3; pages = 1 };
  }
  pub object_alone : comes parts_kernel 64 256 5 0 0 33 ≡ shows_objects not_yet (variables null null unset 0) (two 0 0 ∷ []) 2 33
  pub elements : comes parts_kernel 64 256 2 2 1 1000 ≡ shows (answered_int 0) (variables null null (two 0 0 ∷ two 0 0 ∷ two 0 5 ∷ []) 5) 51
  pub inner_is_out : (comes parts_kernel 64 256 2 1 2 1000).ending ≡ failed (faulted Bounds)
  pub outer_is_out : (comes parts_kernel 64 256 3 3 0 1000).ending ≡ failed (faulted Bounds)
  pub inner_divides : (comes parts_kernel 64 256 3 2 0 1000).ending ≡ failed (faulted DivZero)
  pub part_of_null : (comes parts_kernel 64 256 4 0 0 1000).ending ≡ failed (faulted NullUse)
  pub once : comes parts_kernel 64 256 5 0 0 1000
      ≡ shows_objects (answered_int 1) (variables (to_object (0 ∷ [])) (to_object (0 ∷ 1 ∷ [])) unset 0) (two 0 1 ∷ []) 2 57
  pub again : comes_again parts_kernel 64 256 5 0 0 5 0 0 1000
      ≡ shows_objects (answered_int 2) (variables (to_object (0 ∷ [])) (to_object (0 ∷ 1 ∷ [])) unset 0) (two 0 2 ∷ []) 2 53
  pub counted_twice : comes_again counting_kernel 64 256 3 0 1 3 0 1 1000 ≡ shows (answered_int 0) (plain 2 ∷ []) 22

-- a sight of calls of primitives, each of which is three units and a page, and of no heap
abbrev pub shows_calls : KernelEnding → List Value → List PrimitiveCall → ℕ → Sight
shows_calls e gs calls own =
    record {
      ending = e;
      globals = these gs;
      objects = these [];
      heap_words = 0;
      journal = calls;
      cost = record { own = own; primitive = 3 * length calls; pages = length calls };
    }

-- Kernels of small systems: what they ask of users and console, and in which order. A kernel may answer what is no user: that is no fault
-- of C0.
pub record AreSystemsRight : Type 0 where
  pub halts_at_once : comes (returning_kernel (number 0)) 64 256 0 0 0 1000 ≡ shows (answered_int 0) [] 2
  pub no_such_user : comes (returning_kernel (number 5)) 64 256 0 0 0 1000 ≡ shows (answered_int 5) [] 2
  pub below_all_users : comes (returning_kernel (unary z Negate (number 1))) 64 256 0 0 0 1000 ≡ shows (answered (Some (negative_int 1))) [] 3
  pub starts_a_user : comes overflow 64 256 0 0 0 1000 ≡ shows (answered_int 1) (plain 0 ∷ plain 0 ∷ []) 10
  pub sees_an_overflow : comes overflow 64 256 5 539099137 1 1000
      ≡ shows_calls (answered_int 0) (plain 7 ∷ plain 7 ∷ []) (primitive_asked 0 (plain 1 ∷ plain 32 ∷ []) ∷ primitive_asked 0 (plain 1 ∷ plain 2 ∷ []) ∷ []) 21
  pub takes_two_lines : comes_again line_kernel 64 256 1 2 1 1 4 1 1000 ≡ shows (answered_int 0) (plain 2 ∷ plain 20 ∷ []) 29
  pub grows_and_copies : comes copies 64 256 0 0 0 1000
      ≡ shows_calls (answered_int 1) (bool true ∷ []) (primitive_asked 3 (plain 1 ∷ plain 2 ∷ [])
      ∷ primitive_asked 6 (plain 1 ∷ plain 0 ∷ plain 1 ∷ plain 4096 ∷ plain 1024 ∷ []) ∷ []) 21
  pub copies_between_users : comes copies_twice 64 256 0 0 0 1000 ≡ shows_calls (answered_int 0) (bool true ∷ bool true ∷ [])
      (primitive_asked 6 (plain 1 ∷ plain 4088 ∷ plain 2 ∷ plain 0 ∷ plain 4 ∷ [])
      ∷ primitive_asked 6 (plain 1 ∷ plain 4088 ∷ plain 1 ∷ plain 4096 ∷ plain 4 ∷ []) ∷ []) 16
  pub asks_in_order : comes probes 64 256 0 0 0 1000 ≡ shows_calls (answered_int 0) (plain 7 ∷ plain 7 ∷ bool true ∷ bool true ∷ [])
      (primitive_asked 0 (plain 9 ∷ plain 1 ∷ []) ∷ primitive_asked 4 (plain 1 ∷ plain 2 ∷ []) ∷ primitive_asked 1 (plain 1 ∷ plain 0 ∷ plain 5 ∷ [])
      ∷ primitive_asked 3 (plain 1 ∷ plain 5 ∷ []) ∷ primitive_asked 3 (plain 1 ∷ plain 0 ∷ []) ∷ primitive_asked 3 (plain 1 ∷ plain 1 ∷ []) ∷ []) 27
  pub grows : comes (resizes 4) 64 256 0 0 0 1000 ≡ shows_calls (answered_int 1) (bool true ∷ []) (primitive_asked 3 (plain 1 ∷ plain 4 ∷ []) ∷ []) 14
  pub divides_at_start : comes divides 64 256 0 0 0 1000 ≡ shows (answered_int 1) (plain 33 ∷ []) 17
  pub divides_at_a_call : comes divides 64 256 6 12 1 1000 ≡ shows (answered_int 0) (plain 11 ∷ []) 14
  pub reads_and_writes : comes console_kernel 64 256 0 0 0 1000
      ≡ shows_calls (answered_int 0) (plain 14 ∷ bool true ∷ []) (primitive_asked 8 [] ∷ primitive_asked 8 [] ∷ primitive_asked 7 (plain 14 ∷ [])
      ∷ primitive_asked 7 (negative_int 1 ∷ []) ∷ []) 20
  pub leaves_user_3_out : comes waiting_kernel 64 256 1 1 2 1000
      ≡ shows (answered_int 1) (plain 0 ∷ these (bool false ∷ bool false ∷ bool false ∷ bool false ∷ []) ∷ []) 97

-- user programs: the answers that are left over aren't asked for, and past the last one a program stands
pub record AreProgramsRight : Type 0 where
  pub ends : prog twice (pos 50 ∷ pos 7 ∷ pos 9 ∷ []) 100 ≡ record { arguments = pos 5 ∷ pos 51 ∷ []; ending = user.done }
  pub goes_on : prog thrice (pos 50 ∷ pos 7 ∷ pos 9 ∷ []) 100 ≡ record { arguments = pos 5 ∷ pos 51 ∷ pos 8 ∷ []; ending = user.done }
  pub stands : prog twice (pos 50 ∷ []) 100 ≡ record { arguments = pos 5 ∷ pos 51 ∷ []; ending = user.not_yet }
  pub stands_first : prog twice [] 100 ≡ record { arguments = pos 5 ∷ []; ending = user.not_yet }
  pub cut : prog twice (pos 50 ∷ pos 7 ∷ []) 5 ≡ record { arguments = []; ending = user.not_yet }
  pub called : prog twice (pos 50 ∷ pos 7 ∷ []) 6 ≡ record { arguments = pos 5 ∷ []; ending = user.not_yet }
  pub short : prog twice (pos 50 ∷ pos 7 ∷ []) 8 ≡ record { arguments = pos 5 ∷ []; ending = user.not_yet }
  pub faults : prog inverse [] 100 ≡ record { arguments = []; ending = user.failed (faulted DivZero) }

-- the kernels and programs of these rows are checked
pub record AreChecked : Type 0 where
  pub sums : IsChecked sums
  pub divisions : IsChecked divisions
  pub by_zero : IsChecked by_zero
  pub small_heap : IsChecked small_heap
  pub recursion : IsChecked recursion
  pub bounds : IsChecked bounds
  pub null_use : IsChecked null_use
  pub nexts : IsChecked nexts
  pub counts : IsChecked counting_kernel
  pub scheduler : IsChecked scheduler
  pub asm_sum : IsChecked asm_sum
  pub list : IsChecked list
  pub endless : IsChecked endless
  pub order : IsChecked order
  pub parts : IsChecked parts_kernel
  pub returning : IsChecked (returning_kernel (unary z Negate (number 1)))
  pub overflow : IsChecked overflow
  pub lines : IsChecked line_kernel
  pub copies : IsChecked copies
  pub copies_twice : IsChecked copies_twice
  pub probes : IsChecked probes
  pub resizes : IsChecked (resizes 4)
  pub divides : IsChecked divides
  pub console : IsChecked console_kernel
  pub waits : IsChecked waiting_kernel
  pub twice : IsCheckedAs User twice
  pub thrice : IsCheckedAs User thrice
  pub inverse : IsCheckedAs User inverse

-- the primitives of these rows answer what their table says
abbrev pub SevensFit : Type 0
SevensFit = AnswersFit (λ w. true) kernel_primitives sevens
