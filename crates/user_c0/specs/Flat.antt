-- A user program's code on a flat machine: what holds it, how it is loaded, and that it runs as the program means.
use Rattle.std.specs.Prelude.{◌≡◌, ℕ, ℤ, ◌+◌, ◌*◌, ◌≤◌, List, [], ◌∷◌, Some, None, slice_get}
use Rattle.mips_table.specs.declared.inst.Inst.TheVariants.{Jal}
use Rattle.mips_table.specs.Code.{Contents, Behind, CodeState, at_with, Program, on_flat, Sound, Steps}
use Rattle.mips_table.specs.Simulation.{nothing_behind}
use Rattle.layer_map.specs.Map.{layer_words, next_page, heap_used_at, heap_words_at, heap_first_at}
use Rattle.layer_map.specs.Map.{stack_first_at, stack_limit_at, primitives_at, exits_at, leave_at}
use Rattle.c0_tree.specs.declared.primitive.Program.TheVariants.{User}
use Rattle.c0_tree.specs.Primitives.{user_primitives}
use Rattle.c0_tree.specs.Tree.{CUnit}
use Rattle.c0_meaning.specs.Limits.{first_number}
use Rattle.c0_meaning.specs.Operators.{KernelFault}
use Rattle.c0_meaning.specs.Running.{Work, begin, work_step}
use Rattle.c0_meaning.specs.Sound.{global_words}
use Rattle.c0_meaning.specs.State.{first_state}
use Rattle.c0_meaning.specs.Unit.{IsCheckedAs}
use Rattle.c0_meaning.specs.UserProgram.{trap}
use Rattle.c0_meaning.specs.Value.{empty}
use Rattle.c0_meaning.specs.World.{Setting, Configuration, beginning}
use Rattle.c0_expr_code.specs.Scope.{exit_number, exit_of}
use Rattle.c0_stmt_code.specs.Code.{MAX_STACK, links_of}
use Rattle.c0_runs.specs.Setup.{UnitData, IsOurs, Setup}
use Rattle.c0_runs.specs.Standing.{Simulated, StepIs}
use Rattle.c0_runs.specs.Zeros.{AreZeros}
use Rattle.c0_unit.specs.Code.{code_words, unit_code}

-- where a program's heap and stack stand, in words, and how many words they have
pub record Rooms : Type 0 where
  pub heap : ℕ
  pub heap_words : ℕ
  pub stack : ℕ
  pub stack_words : ℕ

-- where its data stand, and the word to which `main` returns: the last exit
abbrev pub unit_data : CUnit → Rooms → UnitData
unit_data u r = record { globals = next_page (layer_words + code_words u); heap = r.heap; stack = r.stack; back = leave_at }

-- A flat machine holds a program: its code stands from 0x10000 on, and alone calls words below; globals, heap and stack follow it, and may be written.
pub record HoldsProgram (u : CUnit) (r : Rooms) (p : Program) : Type 0 where
  pub sound : Sound (on_flat p)
  pub code : (k : ℕ) (i : _) → slice_get (unit_code u (first_number User u)) k ≡ Some i → p.code (layer_words + k) ≡ Some i
  pub calls : (k to : ℕ) → p.code k ≡ Some (Jal to) → layer_words ≤ k
  pub globals : (unit_data u r).globals + global_words u ≤ r.heap
  pub heap : r.heap + r.heap_words ≤ r.stack
  pub stack : r.stack + r.stack_words ≤ p.words
  pub small : r.stack_words ≤ MAX_STACK
  pub free : (k : ℕ) → IsOurs (unit_data u r) r.stack_words k → p.kept k ≡ None

-- It is loaded: the variables of heap and stack have their words, none of the heap is used, and the globals are 0.
pub record IsUnitLoaded (u : CUnit) (r : Rooms) (c : Contents) : Type 0 where
  pub used : c.memory heap_used_at ≡ 0
  pub heap_words : c.memory heap_words_at ≡ r.heap_words
  pub heap_first : c.memory heap_first_at ≡ 4 * r.heap
  pub stack_first : c.memory stack_first_at ≡ 4 * r.stack
  pub stack_limit : c.memory stack_limit_at ≡ 4 * (r.stack + r.stack_words)
  pub zeros : AreZeros c.memory (unit_data u r).globals (global_words u)

-- nothing of the machine stands for the answers that are left: a call of `trap` takes them from what answers it
abbrev pub Outer : List ℤ → Contents → Behind → Type 0
Outer v c d = Unit {0}

-- the program's meaning, in its rooms
abbrev pub setting : CUnit → Rooms → Setting (List ℤ) ℤ
setting u r = record { unit = u; heap = r.heap_words; stack = r.stack_words; meaning = trap }

-- where the run of `main` begins, with what its calls of `trap` will be answered
abbrev pub main_start : CUnit → List ℤ → Configuration (List ℤ) ℤ
main_start u answers = beginning (record (first_state u) { frames = [] }) answers

-- THE RUN OF A PROGRAM'S CODE: within 5 steps it comes to `main`, and from there on each step of the meaning is a run of the code, of at most 30
-- steps a unit. A call of `trap` is made at the entry of primitive 0, and goes on wherever it comes back with its answer; `main` returns to the last
-- exit, and faults leave by their own.
pub record FlatRun (u : CUnit) (r : Rooms) (p : Program) (c : Contents) (answers : List ℤ) : Type 0 where
  pub z : Setup (List ℤ) ℤ Outer
  pub world : z.w ≡ on_flat p
  pub table : z.table ≡ user_primitives
  pub meaning : z.p ≡ setting u r
  pub trap_at : (links_of z.addresses).primitive 0 ≡ primitives_at
  pub exits : (f : KernelFault) → exit_of z.addresses f ≡ exits_at + exit_number f
  pub back : z.a.back ≡ leave_at
  pub steps : ℕ
  pub few : steps ≤ 5
  pub entered : CodeState
  pub run : Steps (on_flat p) steps (at_with layer_words c nothing_behind) entered
  pub stands : Simulated (List ℤ) ℤ Outer z 0 (begin (first_number User u) empty ∷ []) (main_start u answers) entered
  pub follows : (debt : ℕ) (item : Work) (work : List Work) (h : Configuration (List ℤ) ℤ) (s : CodeState) → Simulated (List ℤ) ℤ Outer z debt (item ∷ work) h s
      → StepIs (List ℤ) ℤ Outer z debt item h s (work_step z.p item work h)

-- on every flat machine that holds the program and is loaded with it
abbrev pub RunsFlat : CUnit → Type 0
RunsFlat u = (r : Rooms) (p : Program) (c : Contents) (answers : List ℤ) → HoldsProgram u r p → IsUnitLoaded u r c → FlatRun u r p c answers

-- A LAW: the code of each checked user program runs on a flat machine as the program means
abbrev pub TreesRunFlat : Type 0
TreesRunFlat = (u : CUnit) → IsCheckedAs User u → RunsFlat u
