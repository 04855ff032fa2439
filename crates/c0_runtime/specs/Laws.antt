-- What the entry and the routines do, as statements about runs of their code, wherever it stands.
use Rattle.std.specs.Prelude.{◌≡◌, ◌≢◌, ℕ, ◌+◌, ◌*◌, ◌/◌, ◌^◌, ◌<◌, ◌≤◌, ◌⊎◌, List, Ok, Err, None}
use Rattle.mips_table.specs.declared.inst.Inst.{Inst}
use Rattle.mips_table.specs.Device.{Idle}
use Rattle.mips_table.specs.Code.{Contents, with_reg, Behind, World, at_with, Reaches, CodeAt}
use Rattle.masm.specs.declared.registers.CodeAddresses.{CodeAddresses}
use Rattle.masm.specs.declared.registers.TheConstants.{ANSWER, ARGUMENTS, GLOBALS, FRAME_END, STACK_END, RETURN}
use Rattle.layer_map.specs.Map.{heap_used_at, heap_words_at, heap_first_at, stack_first_at, stack_limit_at}
use Rattle.cvm_words.specs.Words.{int_of, word_of}
use Rattle.c0_tree.specs.declared.tree.BinaryOp.{BinaryOp}
use Rattle.c0_tree.specs.declared.tree.BinaryOp.TheVariants.{Mul, Div, Rem}
use Rattle.c0_meaning.specs.Value.{int}
use Rattle.c0_meaning.specs.Operators.{DivZero, faulted, on_ints}
use Rattle.c0_runtime.specs.Code.{startup_code, behind_first, new_routine, multiply_code, divide_code, remainder_code, zero_exit}
use Rattle.layer_map.specs.declared.entries.TheConstants.{LEAVE}
use Rattle.c0_runtime.specs.declared.new_object.TheConstants.{END}
use Rattle.c0_runtime.specs.declared.runtime.TheConstants.{NEW_OBJECT, MULTIPLY, DIVIDE, REMAINDER}

-- A routine is called: the return address is in its register, and no disk command is under way.
pub record RoutineCalled (to : ℕ) (c : Contents) (d : Behind) : Type 0 where
  pub back : c.regs RETURN ≡ 4 * to
  pub idle : d.pending ≡ Idle

-- The routine comes back, to its caller with such contents, within so many steps. What is behind the ports stays.
abbrev pub RoutineReturns : World → (steps n to : ℕ) → Contents → Behind → (Contents → Type 0) → Type 0
RoutineReturns w steps n to c d Q = (c' : Contents) × Q c' × Reaches w steps (at_with n c d) (at_with to c' d)

-- it comes back so, and takes at least so many steps
abbrev pub ComesBackIn : World → (least most n to : ℕ) → Contents → Behind → (Contents → Type 0) → Type 0
ComesBackIn w least most n to c d Q = (c' : Contents) × Q c' × (r : Reaches w most (at_with n c d) (at_with to c' d)) × (least ≤ r.steps)

-- The layer's variables say that so many words are used of the heap, which has so many, from word `first` on. It lies in memory behind the
-- variables. Its words and the count of those used may be written.
pub record HeapIs (w : World) (used heap first : ℕ) (c : Contents) : Type 0 where
  pub used_word : c.memory heap_used_at ≡ used
  pub heap_word : c.memory heap_words_at ≡ heap
  pub first_word : c.memory heap_first_at ≡ 4 * first
  pub within : used ≤ heap
  pub behind : stack_limit_at < first
  pub inside : first + heap ≤ w.words
  pub count_free : w.kept heap_used_at ≡ None
  pub free : (k : ℕ) → k < heap → w.kept (first + k) ≡ None

-- an object of so many words is asked for
pub record IsAsked (size : ℕ) (c : Contents) : Type 0 where
  pub asked : c.regs ANSWER ≡ size
  pub least : 1 ≤ size
  pub most : size < 2 ^ 31

-- `new` changes no register behind END, and neither hi, lo nor a special register
pub record NewKeeps (c c' : Contents) : Type 0 where
  pub regs : (r : ℕ) → END < r → c'.regs r ≡ c.regs r
  pub hi : c'.hi ≡ c.hi
  pub lo : c'.lo ≡ c.lo
  pub special : c'.special ≡ c.special

-- there is no room: the answer is 0, and all words stay
pub record IsRefused (c c' : Contents) : Type 0 where
  pub answer : c'.regs ANSWER ≡ 0
  pub words : c'.memory ≡ c.memory
  pub keeps : NewKeeps c c'

-- There is room: the answer is the address of the first word behind those that were used, as many as were asked for are 0 from there
-- on, the words used are as many more, and all other words stay.
pub record ObjectMade (used first size : ℕ) (c c' : Contents) : Type 0 where
  pub answer : c'.regs ANSWER ≡ 4 * (first + used)
  pub zeros : (k : ℕ) → k < size → c'.memory (first + used + k) ≡ 0
  pub used_word : c'.memory heap_used_at ≡ used + size
  pub others : (k : ℕ) → k ≢ heap_used_at → (k < first + used) ⊎ (first + used + size ≤ k) → c'.memory k ≡ c.memory k
  pub keeps : NewKeeps c c'

-- `new` refuses within 7 steps exactly where the words used and those of the object exceed the heap, and else makes the object in 13
-- steps and 3 for each of its words, and no fewer than those 3. The instructions that say how many, the call and the store of the answer
-- come beside these.
pub record NewRuns (w : World) : Type 0 where
  pub refuses : (n to used heap first size : ℕ) (c : Contents) (d : Behind) → CodeAt w n new_routine → RoutineCalled to c d → HeapIs w used heap first c →
      IsAsked size c → heap < used + size → RoutineReturns w 7 n to c d (IsRefused c)
  pub makes : (n to used heap first size : ℕ) (c : Contents) (d : Behind) → CodeAt w n new_routine → RoutineCalled to c d → HeapIs w used heap first c →
      IsAsked size c → used + size ≤ heap → ComesBackIn w (3 * size) (13 + 3 * size) n to c d (ObjectMade used first size c)

-- the operands are words
pub record AreOperands (a b : ℕ) (c : Contents) : Type 0 where
  pub left : c.regs ARGUMENTS ≡ a
  pub right : c.regs (ARGUMENTS + 1) ≡ b
  pub left_word : a < 2 ^ 32
  pub right_word : b < 2 ^ 32

-- the operation has this answer on the ints that two words mean, as a word
abbrev pub HasAnswer : BinaryOp → (a b answer : ℕ) → Type 0
HasAnswer op a b answer = (v : _) × (on_ints op (int_of a) (int_of b) ≡ Ok (int v)) × (answer ≡ word_of v)

-- ANSWER has the operation's answer, and beside it only hi and lo have changed
pub record IsComputed (op : BinaryOp) (a b : ℕ) (c c' : Contents) : Type 0 where
  pub answer : HasAnswer op a b (c'.regs ANSWER)
  pub regs : (r : ℕ) → r ≢ ANSWER → c'.regs r ≡ c.regs r
  pub words : c'.memory ≡ c.memory
  pub special : c'.special ≡ c.special

-- products take three steps
abbrev pub MultiplyRuns : World → Type 0
MultiplyRuns w = (n to a b : ℕ) (c : Contents) (d : Behind) → CodeAt w n multiply_code → RoutineCalled to c d → AreOperands a b c → RoutineReturns w 3 n to c d
    (IsComputed Mul a b c)

-- Divisions take four steps where the divisor isn't 0; where it is, they fault, and the code goes on at the exit after two steps with nothing
-- changed. The exit's address is that of a word.
pub record DivisionRuns (w : World) (op : BinaryOp) (code : List Inst) (exit : ℕ) : Type 0 where
  pub divides : (n to a b : ℕ) (c : Contents) (d : Behind) → CodeAt w n code → RoutineCalled to c d → AreOperands a b c → b ≢ 0 → RoutineReturns w 4 n to c d
      (IsComputed op a b c)
  pub faults : (n a : ℕ) (c : Contents) (d : Behind) → CodeAt w n code → d.pending ≡ Idle → AreOperands a 0 c →
      (on_ints op (int_of a) (int_of 0) ≡ Err (faulted DivZero)) × Reaches w 2 (at_with n c d) (at_with (exit / 4) c d)

-- quotients, and what they leave
abbrev pub DivideRuns : World → Type 0
DivideRuns w = (exit : ℕ) → DivisionRuns w Div (divide_code exit) exit × DivisionRuns w Rem (remainder_code exit) exit

-- the layer's variables say that the stack has so many words, from word `first` on, in memory: they have its address and the address behind it
pub record StackIs (w : World) (first stack : ℕ) (c : Contents) : Type 0 where
  pub first_word : c.memory stack_first_at ≡ 4 * first
  pub limit_word : c.memory stack_limit_at ≡ 4 * (first + stack)
  pub variables : stack_limit_at < w.words
  pub inside : first + stack ≤ w.words

-- The globals' address, the end of the frames and the stack's end are in their registers, and the return address is the layer's entry at which the
-- kernel is left; all else stays.
pub record IsEntered (variables first words : ℕ) (c c' : Contents) : Type 0 where
  pub globals : c'.regs GLOBALS ≡ variables
  pub frame : c'.regs FRAME_END ≡ 4 * first
  pub stack : c'.regs STACK_END ≡ 4 * (first + words)
  pub back : c'.regs RETURN ≡ LEAVE
  pub regs : (r : ℕ) → r < GLOBALS → c'.regs r ≡ c.regs r
  pub memory : c'.memory ≡ c.memory
  pub hi : c'.hi ≡ c.hi
  pub lo : c'.lo ≡ c.lo
  pub special : c'.special ≡ c.special

-- the contents with the upper half of the globals' address in its register
abbrev pub with_half : ℕ → Contents → Contents
with_half globals c = with_reg c GLOBALS (globals / 2 ^ 16 * 2 ^ 16)

-- The entry's first instruction leads behind itself. From there on what stands behind it is enough: it comes to the word behind it within four
-- steps.
pub record EntryRuns (w : World) : Type 0 where
  pub first : (n globals : ℕ) (c : Contents) (d : Behind) → CodeAt w n (startup_code globals) → d.pending ≡ Idle → Reaches w 1 (at_with n c d)
      (at_with (n + 1) (with_half globals c) d)
  pub enters : (n globals first stack : ℕ) (c : Contents) (d : Behind) → CodeAt w (n + 1) (behind_first globals) → d.pending ≡ Idle →
      StackIs w first stack c → RoutineReturns w 4 (n + 1) (n + 5) (with_half globals c) d (IsEntered globals first stack c)

-- each routine stands where its number says, in words from the first routine on
pub record RoutinesStand (w : World) (n : ℕ) (p : CodeAddresses) : Type 0 where
  pub new_object : CodeAt w (n + NEW_OBJECT) new_routine
  pub multiply : CodeAt w (n + MULTIPLY) multiply_code
  pub divide : CodeAt w (n + DIVIDE) (divide_code (zero_exit p))
  pub remainder : CodeAt w (n + REMAINDER) (remainder_code (zero_exit p))
