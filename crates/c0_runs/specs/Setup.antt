-- What is fixed while a unit's code runs over a machine with primitives.
use Rattle.std.specs.Prelude.{◌≡◌, ◌≢◌, ℕ, suc, ◌+◌, ◌*◌, ◌<◌, ◌≤◌, ◌⊎◌, List, length, Some, None, slice_get}
use Rattle.mips_table.specs.declared.inst.Inst.{Inst}
use Rattle.mips_table.specs.declared.inst.Inst.TheVariants.{Jal}
use Rattle.mips_table.specs.Arith.{flag}
use Rattle.mips_table.specs.Device.{Idle}
use Rattle.mips_table.specs.Code.{Contents, Behind, World, Sound, CodeState, CodeAt}
use Rattle.masm.specs.declared.registers.CodeAddresses.{CodeAddresses}
use Rattle.cvm_words.specs.Words.{word_of}
use Rattle.c0_tree.specs.Primitives.{CPrimitive}
use Rattle.c0_tree.specs.Tree.{CFunction, CUnit}
use Rattle.c0_meaning.specs.Sound.{global_words}
use Rattle.c0_meaning.specs.Unit.{IsWellFormed}
use Rattle.c0_meaning.specs.Value.{Value, int, bool, Values, empty, part}
use Rattle.c0_meaning.specs.World.{Setting}
use Rattle.c0_meaning.specs.TypedState.{AreScalars}
use Rattle.c0_runtime.specs.Code as runtime
use Rattle.c0_expr_code.specs.Scope.{scope_of}
use Rattle.c0_stmt_code.specs.Code.{Links, links_of, MAX_STACK, function_code}

-- the word of an int or a bool
abbrev pub scalar_word : Value → ℕ
scalar_word (int z) = word_of z
scalar_word (bool b) = flag b
scalar_word _ = 0

-- registers from r on have the words of ints and bools
abbrev pub ArePassed : (ℕ → ℕ) → ℕ → Values → Type 0
ArePassed regs r empty = Unit {0}
ArePassed regs r (part v vs) = (regs r ≡ scalar_word v) × ArePassed regs (suc r) vs

-- where the data of a unit stand: the words of its globals, its heap and its stack, and the word to which the first function returns
pub record UnitData : Type 0 where
  pub globals : ℕ
  pub heap : ℕ
  pub stack : ℕ
  pub back : ℕ

-- a word that a call of a primitive leaves as it was: of the globals, of the heap as far as it is used, and of the stack
abbrev pub IsKept : CUnit → UnitData → (used stack : ℕ) → ℕ → Type 0
IsKept u a used stack k =
    ((a.globals ≤ k) × (k < a.globals + global_words u)) ⊎ (((a.heap ≤ k) × (k < a.heap + used)) ⊎ ((a.stack ≤ k) × (k < a.stack + stack)))

-- a word that the code of a unit may write: from the first global to the stack's end, and that of the words used of the heap
abbrev pub IsOurs : UnitData → (stack : ℕ) → ℕ → Type 0
IsOurs a stack k = ((a.globals ≤ k) × (k < a.stack + stack)) ⊎ (k ≡ 1026)

-- Where a call of a primitive ends, and what it leaves as it was: registers 28 to 30, the unit's words and the layer's five variables that the
-- unit knows.
pub record HasReturned (u : CUnit) (a : UnitData) (stack to : ℕ) (s t : CodeState) : Type 0 where
  pub at : t.at ≡ to
  pub globals_at : t.contents.regs 28 ≡ s.contents.regs 28
  pub frame_end : t.contents.regs 29 ≡ s.contents.regs 29
  pub stack_end : t.contents.regs 30 ≡ s.contents.regs 30
  pub kept : (k : ℕ) → IsKept u a (s.contents.memory 1026) stack k → t.contents.memory k ≡ s.contents.memory k
  pub variables : (k : ℕ) → 1026 ≤ k → k ≤ 1030 → t.contents.memory k ≡ s.contents.memory k
  pub idle : t.behind.pending ≡ Idle

-- a call of the primitive of a number, with its arguments and the word to which it returns, at which code of the unit stands
pub record PrimitiveIsCalled (w : World) (x : Links) (row : CPrimitive) (n : ℕ) (vs : Values) (to : ℕ) (s : CodeState) : Type 0 where
  pub at : s.at ≡ x.primitive n
  pub scalars : AreScalars row.args vs
  pub arguments : ArePassed s.contents.regs 20 vs
  pub return_at : s.contents.regs 31 ≡ 4 * to
  pub code : Inst
  pub there : w.code to ≡ Some code
  pub idle : s.behind.pending ≡ Idle

-- What is fixed in a run of a unit's code. `Outer` says how the rest of the machine stands for the world's value.
pub record Setup (W E : Type 0) (Outer : W → Contents → Behind → Type 0) : Type 0 where
  pub w : World
  pub sound : Sound w
  pub table : List CPrimitive
  pub p : Setting W E
  pub well_formed : IsWellFormed table p.unit
  pub addresses : CodeAddresses
  pub a : UnitData
  -- globals, heap and stack follow one another, behind the layer's variables, and may be written
  pub low : 1031 ≤ a.globals
  pub globals_fit : a.globals + global_words p.unit ≤ a.heap
  pub heap_fits : a.heap + p.heap ≤ a.stack
  pub stack_fits : a.stack + p.stack ≤ w.words
  pub stack_small : p.stack ≤ MAX_STACK
  pub ours : (k : ℕ) → IsOurs a p.stack k → w.kept k ≡ None
  pub globals_at : addresses.globals ≡ 4 * a.globals
  -- the code of each function and of the routine `new` stands at its place
  pub functions : (n : ℕ) (f : CFunction) → slice_get p.unit.functions n ≡ Some f
      → CodeAt w ((links_of addresses).function n) (function_code (scope_of p.unit f addresses) (links_of addresses) f)
  pub new_object : CodeAt w (links_of addresses).new_object runtime.new_routine
  -- what isn't the unit's is the rest of the machine's
  pub outer_stays : (v : W) (c c' : Contents) (d : Behind) → ((k : ℕ) → (IsOurs a p.stack k → ⊥) → c'.memory k ≡ c.memory k)
      → c'.special ≡ c.special → Outer v c d → Outer v c' d
  -- primitives have few arguments, and the code that calls one isn't the primitive itself
  pub few_arguments : (n : ℕ) (row : CPrimitive) → slice_get table n ≡ Some row → length row.args ≤ 8
  pub elsewhere : (n k : ℕ) → w.code k ≡ Some (Jal ((links_of addresses).primitive n)) → k ≢ (links_of addresses).primitive n
