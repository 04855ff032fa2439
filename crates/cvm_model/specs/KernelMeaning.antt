-- C0's meaning as that of a kernel: the primitives act on the users' machines and the console, and a dispatch of a unit has an outcome.
use Rattle.std.specs.Prelude.{◌≡◌, ◌==◌, if◌then◌else◌, ℕ, ℤ, List, [], ◌∷◌, map, Option, Some, None, option_map, option_and_then}
use Rattle.mips_table.specs.Machine.{Console}
use Rattle.c0_tree.specs.Tree.{CUnit}
use Rattle.c0_meaning.specs.Env.{typed_of}
use Rattle.c0_meaning.specs.Words.{all_words}
use Rattle.c0_meaning.specs.Sound.{shapes}
use Rattle.c0_meaning.specs.Value.{Value, int, null, Values, empty, part}
use Rattle.c0_meaning.specs.State.{first_state}
use Rattle.c0_meaning.specs.Operators.{Failure, faulted, stuck}
use Rattle.c0_meaning.specs.Operators as c0
use Rattle.c0_meaning.specs.World.{Called, Setting, Cost, total, Configuration, journal_so_far}
use Rattle.c0_meaning.specs.Execution as c0_run
use Rattle.mips_table.specs.Flat.{Flat}
use Rattle.layer_map.specs.declared.params.Params.{Params}
use Rattle.cvm_model.specs.Kernel.{Core, Changes, DispatchEnd, Answers, Faults, NotYet, DispatchOutcome, KernelMeaning, MeaningLaws}
use Rattle.cvm_model.specs.declared.kernel_fault.KernelFault.{KernelFault}
use Rattle.cvm_model.specs.declared.kernel_fault.KernelFault.TheVariants.{NullUse, Bounds, DivZero, StackOut}
use Rattle.cvm_model.specs.Journal.{KernelReplays}
use Rattle.cvm_model.specs.Primitives.{KernelCall, VmGet, VmSet, VmSize, VmResize, VmWord, VmPut, VmCopy}
use Rattle.cvm_model.specs.Primitives.{ConPut, ConGet, ConLeft, Given, primitive_number, arguments_of, prim, changes_told}

-- what primitives act on: users' machines of at most so many pages, and the console
pub record Machines : Type 0 where
  pub most : ℕ
  pub users : List Flat
  pub console : Console

-- values that are ints
abbrev pub ints_of : Values → Option (List ℤ)
ints_of empty = Some []
ints_of (part (int a) vs) = option_map (λ rest. a ∷ rest) (ints_of vs)
ints_of other = None

-- the call of the primitive of a number with these arguments
abbrev pub call_numbered : ℕ → List ℤ → Option KernelCall
call_numbered k [] = if k == 8 then Some ConGet else if k == 9 then Some ConLeft else None
call_numbered k (a ∷ []) = if k == 2 then Some (VmSize a) else if k == 7 then Some (ConPut a) else None
call_numbered k (a ∷ b ∷ []) = if k == 0 then Some (VmGet a b) else if k == 3 then Some (VmResize a b) else if k == 4 then Some (VmWord a b) else None
call_numbered k (a ∷ b ∷ c ∷ []) = if k == 1 then Some (VmSet a b c) else if k == 5 then Some (VmPut a b c) else None
call_numbered k (a ∷ b ∷ c ∷ d ∷ e ∷ []) = if k == 6 then Some (VmCopy a b c d e) else None
call_numbered k other = None

-- what it comes to: a number or arguments that no primitive has, as no checked unit gives them, answer null, which is no int and no bool
abbrev pub after_primitive : Machines → KernelCall → Given → Called Machines Changes
after_primitive m call g = record {
  answer = g.answer;
  world = record m { users = g.users; console = g.console };
  entries = changes_told call g ∷ [];
  pages = g.pages;
  words = g.words;
}

abbrev pub primitive_called : Machines → Option KernelCall → Called Machines Changes
primitive_called m (Some call) = after_primitive m call (prim m.most call m.users m.console)
primitive_called m None = record {
  answer = null;
  world = m;
  entries = record { number = 0; arguments = []; user = 0; entries = [] } ∷ [];
  pages = 0;
  words = 0;
}

-- the meaning of the kernel's primitives, each of which makes one entry: which call it was, and what it changed
abbrev pub kernel_primitive : ℕ → Values → Machines → Called Machines Changes
kernel_primitive n args m = primitive_called m (option_and_then (call_numbered n) (ints_of args))

-- a fault of C0 as a fault of the kernel
abbrev pub fault_of : c0.KernelFault → KernelFault
fault_of c0.NullUse = NullUse
fault_of c0.Bounds = Bounds
fault_of c0.DivZero = DivZero
fault_of c0.StackOut = StackOut

-- how a dispatch ended: a run that is stuck, as no checked unit's is, never ends
abbrev pub answer_end : Option Value → DispatchEnd
answer_end (Some (int a)) = Answers a
answer_end other = NotYet

abbrev pub failure_end : Failure → DispatchEnd
failure_end (faulted f) = Faults (fault_of f)
failure_end stuck = NotYet

-- where a run stands, between dispatches: without its frames
abbrev pub core_at : Core → Configuration Machines Changes → Core
core_at c d = record c { c0 = record d.state { frames = [] }; users = d.world.users; console = d.world.console }

abbrev pub outcome_at : Core → DispatchEnd → Cost → Configuration Machines Changes → DispatchOutcome
outcome_at c end cost d = record { end = end; after = core_at c d; calls = journal_so_far d; units = total cost; pages = cost.pages }

-- the outcome of a dispatch
abbrev pub outcome_of : Core → c0_run.Outcome Machines Changes → DispatchOutcome
outcome_of c (c0_run.Done cost d) = outcome_at c (answer_end d.answer) cost d
outcome_of c (c0_run.Failed cost f d) = outcome_at c (failure_end f) cost d
outcome_of c (c0_run.NotYet cost d) = outcome_at c NotYet cost d

-- the unit with its heap, its stack and the primitives
abbrev pub setting_of : CUnit → Params → Setting Machines Changes
setting_of u p = record { unit = u; heap = p.heap; stack = p.stack; meaning = kernel_primitive }

abbrev pub machines_of : Params → Core → Machines
machines_of p c = record { most = p.pages; users = c.users; console = c.console }

-- THE MEANING of a unit as a kernel, with these parameters
abbrev pub kernel_meaning : CUnit → Params → KernelMeaning
kernel_meaning u p = record {
  global_words = all_words (shapes u) (map typed_of u.globals);
  names = map (λ d. d.name.text) u.globals;
  first = first_state u;
  dispatch = λ n c cause edata user. outcome_of c (c0_run.dispatch (setting_of u p) n cause edata user c.c0 (machines_of p c));
}

-- a call is told by its number and its arguments
abbrev pub CallsAreTold : Type 0
CallsAreTold = (call : KernelCall) → call_numbered (primitive_number call) (arguments_of call) ≡ Some call

-- what the calls of a unit's dispatch changed, replayed, gives each user's machine
abbrev pub UnitsReplay : Type 0
UnitsReplay = (u : CUnit) (p : Params) → KernelReplays (kernel_meaning u p)

-- units mean what a kernel may mean
abbrev pub UnitsAreKernels : Type 0
UnitsAreKernels = (u : CUnit) (p : Params) → MeaningLaws (kernel_meaning u p)
