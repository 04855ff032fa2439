-- How a configuration of C0 with what is left to do stands in the machine.
use Rattle.std.specs.Prelude.{◌≡◌, ℕ, suc, ◌+◌, ◌*◌, ◌≤◌, ◌⊎◌, Bool, true, false, if◌then◌else◌, List, [], ◌∷◌, map, Some, Ok, slice_get}
use Rattle.mips_table.specs.Device.{Idle}
use Rattle.mips_table.specs.Code.{Contents, Behind, CodeState, Steps}
use Rattle.c0_tree.specs.Primitives.{CPrimitive}
use Rattle.c0_tree.specs.declared.tree.Kind.TheVariants.{Primitive}
use Rattle.c0_tree.specs.Tree.{call, CFunction, CUnit}
use Rattle.c0_meaning.specs.Ty.{Ty, ty_of}
use Rattle.c0_meaning.specs.Env.{typed_of, env_of}
use Rattle.c0_meaning.specs.Sound.{shapes}
use Rattle.c0_meaning.specs.Value.{Value, Values, empty, part}
use Rattle.c0_meaning.specs.State.{Frame, variables_of, stack_words}
use Rattle.c0_meaning.specs.World.{Cost, total, Configuration, calls_ended, after_call, call_cost}
use Rattle.c0_meaning.specs.Operators.{KernelFault, faulted, stuck}
use Rattle.c0_meaning.specs.Evaluation.{costs, values_of}
use Rattle.c0_meaning.specs.Running.{Target, into, outward, Work, act_on, finish, again, leave, begin, Step, Go, Stop, work_step}
use Rattle.c0_meaning.specs.TypedState.{types_of, Fits, AllFit, store_typing, IsTypedWith, AreDeclared, IsScalar}
use Rattle.c0_typed.specs.Leaf.{calls_in}
use Rattle.c0_expr_code.specs.Facts.{IsWithin, SureHold, facts_called}
use Rattle.c0_expr_code.specs.Scope.{Scope, scope_of, exit_of}
use Rattle.c0_expr_runs.specs.Bases.{Bases, words_of_all, locals_start, word_of_scalar, RegionHeld, LocalsHeld}
use Rattle.c0_expr_runs.specs.Relation.{RegistersHold}
use Rattle.c0_stmt_code.specs.Code.{links_of}
use Rattle.c0_runs.specs.Setup.{Setup, scalar_word, HasReturned, PrimitiveIsCalled}
use Rattle.c0_runs.specs.Journey.{Led, RunStopped}
use Rattle.c0_runs.specs.Ahead.{Activation, Text, Awaits, Ahead, AnswerIsLive, WaitingAreLive, AllAreLive}

-- what holds for a unit in every function: values of globals and of the heap point to nothing else
abbrev pub unit_scope : CUnit → Scope
unit_scope u = record { env = env_of [] u []; in_registers = false; frame = 0; exit = λ f. 0 }

-- the words of values, from register r on
abbrev pub AreIn : Scope → Bases → (ℕ → ℕ) → ℕ → Values → Type 0
AreIn sc b regs r empty = Unit {0}
AreIn sc b regs r (part v vs) = (regs r ≡ word_of_scalar sc b v) × AreIn sc b regs (suc r) vs

-- A work item is a call statement of the primitive of this number, and these are the values of its arguments.
abbrev pub IsPrimitiveCall : {W E : Type 0} → Configuration W E → Work → (number : ℕ) → Values → Type 0
IsPrimitiveCall h (act_on (call span place call_span callee args) rest) number values =
    (callee.kind ≡ Primitive) × (callee.number ≡ number) × ((cost : ℕ) × (values_of args h.state ≡ costs cost (Ok values)))
IsPrimitiveCall h item number values = ⊥

module _ (W E : Type 0) (Outer : W → Contents → Behind → Type 0) (z : Setup W E Outer) where
  -- what is the same for all functions
  abbrev pub code_text : Text
  code_text = record { w = z.w; table = z.table; unit = z.p.unit; scope = λ f. scope_of z.p.unit f z.addresses; links = links_of z.addresses; back = z.a.back }

  abbrev pub scope : CFunction → Scope
  scope f = scope_of z.p.unit f z.addresses

  -- the word behind the newest of these frames
  abbrev pub end_of : List Frame → ℕ
  end_of frames = z.a.stack + stack_words z.p.unit frames

  -- where the regions begin for the newest of these frames
  abbrev pub bases : List Ty → List Frame → Bases
  bases objects frames = record { globals = z.a.globals; heap = z.a.heap; frame_end = end_of frames; objects = objects }

  -- the variables of the newest of these frames stand in memory or in registers, as far as they are live
  abbrev pub VariablesHeld : List Ty → (live : ℕ → Bool) → (regs memory : ℕ → ℕ) → CFunction → List Frame → Type 0
  VariablesHeld objects live regs memory f frames =
      LocalsHeld (scope f) (bases objects frames) live (if (scope f).in_registers then regs else memory) (locals_start (scope f) (bases objects frames))
      (types_of (scope f).env.locals) (variables_of frames)

  -- A function that waits for an answer: its frame stands in memory, and begins with its return address. What is known of its variables is known
  -- behind a call too, so it says nothing of registers; and those variables aren't null of which that is known.
  pub record Waits (objects : List Ty) (memory : ℕ → ℕ) (a : Activation) (g : Frame) (frames : List Frame) : Type 0 where
    pub is : slice_get z.p.unit.functions g.function ≡ Some a.function
    pub in_frame : (scope a.function).in_registers ≡ false
    pub calls : calls_in a.function.body ≡ true
    pub return_at : memory (end_of frames) ≡ 4 * a.to
    pub variables : VariablesHeld objects a.live memory memory a.function (g ∷ frames)
    pub forgotten : IsWithin a.facts (facts_called a.facts)
    pub sure : SureHold a.facts g.variables

  -- the functions that wait, the newest first
  abbrev pub Waiting : List Ty → (ℕ → ℕ) → List Activation → List Frame → Type 0
  Waiting objects memory [] [] = Unit {0}
  Waiting objects memory (a ∷ rest) (g ∷ frames) = Waits objects memory a g frames × Waiting objects memory rest frames
  Waiting objects memory activations frames = ⊥

  -- The function that runs: its return address stands in register 31, or in its frame's first word where its code writes that register;
  -- register 29 is its frame's end, or that of the frame below where its variables stand in registers. What is known of its variables holds.
  pub record FunctionRuns (objects : List Ty) (c : Contents) (a : Activation) (g : Frame) (frames : List Frame) : Type 0 where
    pub is : slice_get z.p.unit.functions g.function ≡ Some a.function
    pub return_at : (if calls_in a.function.body then c.memory (end_of frames) else c.regs 31) ≡ 4 * a.to
    pub frame_at : c.regs 29 ≡ 4 * (if (scope a.function).in_registers then end_of frames else end_of (g ∷ frames))
    pub variables : VariablesHeld objects a.live c.regs c.memory a.function (g ∷ frames)
    pub registers : (scope a.function).in_registers ≡ false → RegistersHold (scope a.function) (bases objects (g ∷ frames)) a.facts c
    pub sure : SureHold a.facts g.variables

  -- the functions that are under way
  abbrev pub UnderWay : List Ty → Contents → List Activation → List Frame → Type 0
  UnderWay objects c (a ∷ rest) (g ∷ frames) = FunctionRuns objects c a g frames × Waiting objects c.memory rest frames
  UnderWay objects c activations frames = ⊥

  -- the globals stand in memory, and the heap as far as it is used, typed; so do the layer's variables that the unit knows; registers 28 and 30 are
  -- the globals' address and the stack's end; and the rest of the machine stands for the world's value
  pub record ConfigurationStands (objects : List Ty) (h : Configuration W E) (c : Contents) (d : Behind) : Type 0 where
    pub typed : IsTypedWith z.p.unit objects h.state
    pub declared : AreDeclared (shapes z.p.unit) objects
    pub used : words_of_all (shapes z.p.unit) objects ≡ h.state.heap_words
    pub room : h.state.heap_words ≤ z.p.heap
    pub stack_room : stack_words z.p.unit h.state.frames ≤ z.p.stack
    pub globals : RegionHeld (unit_scope z.p.unit) (bases objects []) c.memory z.a.globals (types_of (map typed_of z.p.unit.globals)) h.state.global_values
    pub heap : RegionHeld (unit_scope z.p.unit) (bases objects []) c.memory z.a.heap objects h.state.heap_values
    pub used_word : c.memory 1026 ≡ h.state.heap_words
    pub heap_size : c.memory 1027 ≡ z.p.heap
    pub heap_first : c.memory 1028 ≡ 4 * z.a.heap
    pub stack_first : c.memory 1029 ≡ 4 * z.a.stack
    pub stack_limit : c.memory 1030 ≡ 4 * (z.a.stack + z.p.stack)
    pub globals_at : c.regs 28 ≡ 4 * z.a.globals
    pub stack_end : c.regs 30 ≡ 4 * (z.a.stack + z.p.stack)
    pub outer : Outer h.world c d
    pub idle : d.pending ≡ Idle

  -- the word of a value
  abbrev pub word_of_value : List Ty → Value → ℕ
  word_of_value objects v = word_of_scalar (unit_scope z.p.unit) (bases objects []) v

  -- what is left to do stands ahead
  pub record Under (debt : ℕ) (work : List Work) (h : Configuration W E) (s : CodeState) : Type 0 where
    pub objects : List Ty
    pub stands : ConfigurationStands objects h s.contents s.behind
    pub activations : List Activation
    pub under_way : UnderWay objects s.contents activations h.state.frames
    pub ahead : Ahead code_text activations s.at debt work
    pub live : AllAreLive activations work

  -- an answer stands in register 2, and its place is found next
  pub record AnswerWaits (debt : ℕ) (target : Target) (v : Value) (work : List Work) (h : Configuration W E) (s : CodeState) : Type 0 where
    pub objects : List Ty
    pub stands : ConfigurationStands objects h s.contents s.behind
    pub activations : List Activation
    pub under_way : UnderWay objects s.contents activations h.state.frames
    pub t : Ty
    pub fits : Fits (shapes z.p.unit) (store_typing z.p.unit objects) t v
    pub answer : s.contents.regs 2 ≡ word_of_value objects v
    pub ahead : Awaits code_text activations s.at debt t target work (λ others to left. Ahead code_text others to left work)
    pub live : AnswerIsLive activations target work (λ below. WaitingAreLive below work)

  -- a function is entered, with its arguments in registers and its return address in register 31
  pub record FunctionEntered (debt n : ℕ) (args : Values) (target : Target) (work : List Work) (h : Configuration W E) (s : CodeState) : Type 0 where
    pub objects : List Ty
    pub stands : ConfigurationStands objects h s.contents s.behind
    pub activations : List Activation
    pub waiting : Waiting objects s.contents.memory activations h.state.frames
    pub frame_at : s.contents.regs 29 ≡ 4 * end_of h.state.frames
    pub function : CFunction
    pub is : slice_get z.p.unit.functions n ≡ Some function
    pub at : s.at ≡ code_text.links.function n
    pub to : ℕ
    pub return_at : s.contents.regs 31 ≡ 4 * to
    pub fits : AllFit (shapes z.p.unit) (store_typing z.p.unit objects) (types_of (map typed_of function.params)) args
    pub arguments : AreIn (unit_scope z.p.unit) (bases objects []) s.contents.regs 20 args
    pub ahead : Awaits code_text activations to debt (ty_of function.answer) target work (λ others to left. Ahead code_text others to left work)

  -- the first function has returned with its answer
  pub record Ended (h : Configuration W E) (s : CodeState) : Type 0 where
    pub objects : List Ty
    pub stands : ConfigurationStands objects h s.contents s.behind
    pub no_frames : h.state.frames ≡ []
    pub at : s.at ≡ z.a.back
    pub value : Value
    pub is : h.answer ≡ Some value
    pub answer : s.contents.regs 2 ≡ word_of_value objects value

  -- what is left to do stands in the machine
  abbrev pub Simulated : ℕ → List Work → Configuration W E → CodeState → Type 0
  Simulated debt [] h s = Ended h s
  Simulated debt (act_on t rest ∷ work) h s = Under debt (act_on t rest ∷ work) h s
  Simulated debt (finish place v rest ∷ work) h s = AnswerWaits debt (into place rest) v work h s
  Simulated debt (again t body rest ∷ work) h s = Under debt (again t body rest ∷ work) h s
  Simulated debt (leave answer target ∷ work) h s = Under debt (leave answer target ∷ work) h s
  Simulated debt (begin n args ∷ work) h s = FunctionEntered debt n args outward work h s

  -- a fault's exit is reached, and the data stand
  pub record AtExit (f : KernelFault) (h : Configuration W E) (s : CodeState) : Type 0 where
    pub objects : List Ty
    pub stands : ConfigurationStands objects h s.contents s.behind
    pub at : s.at ≡ exit_of z.addresses f

  -- a step is done: its own units have led the machine to where what is left to do stands
  abbrev pub IsGone : (debt : ℕ) → Configuration W E → CodeState → Cost → List Work → Configuration W E → Type 0
  IsGone debt h s cost work h' = (t : CodeState) × (left : ℕ) × Led z.w cost.own debt left h h' s t × Simulated left work h' t

  -- A step is a call statement of a primitive: its own units have led the machine to the primitive's entry, with its arguments and the word to which
  -- it returns, and of the heap no more is used than there is. And wherever it comes back, with its answer in register 2, while the rest of the
  -- machine stands for the world's value after it, the step is done.
  pub record IsCalling (debt : ℕ) (item : Work) (h : Configuration W E) (s : CodeState) (cost : Cost) (work : List Work) (h' : Configuration W E)
      : Type 0 where
    pub number : ℕ
    pub row : CPrimitive
    pub args : Values
    pub to : ℕ
    pub own : ℕ
    pub entry : CodeState
    pub calls : IsPrimitiveCall h item number args
    pub is : slice_get z.table number ≡ Some row
    pub high : own ≤ 30 * cost.own
    pub low : cost.own ≤ 2048 * own
    pub run : Steps z.w own s entry
    pub called : PrimitiveIsCalled z.w code_text.links row number args to entry
    pub outer : Outer h.world entry.contents entry.behind
    pub room : entry.contents.memory 1026 ≤ z.p.heap
    pub units : cost.primitive ≡ (call_cost (z.p.meaning number args h.world)).primitive
    pub pages : cost.pages ≡ (z.p.meaning number args h.world).pages
    pub after : h' ≡ after_call h (z.p.meaning number args h.world)
    pub returns : (t : CodeState) → HasReturned z.p.unit z.a z.p.stack to entry t → IsScalar row.answer (z.p.meaning number args h.world).answer
        → t.contents.regs 2 ≡ scalar_word (z.p.meaning number args h.world).answer → Outer h'.world t.contents t.behind → Simulated debt work h' t

  -- what a step of the meaning comes to in the machine: the step of this work item
  abbrev pub StepIs : (debt : ℕ) → Work → Configuration W E → CodeState → Step W E → Type 0
  StepIs debt item h s (Go cost work h') = IsGone debt h s cost work h' ⊎ IsCalling debt item h s cost work h'
  StepIs debt item h s (Stop cost (faulted f) h') = (t : CodeState) × RunStopped z.w cost.own debt h h' s t × AtExit f h' t
  StepIs debt item h s (Stop cost stuck h') = ⊥

-- A step costs a unit of its own at least; it costs none of a primitive, unless a call of one has ended. One that faults costs few.
abbrev pub CostsSome : {W E : Type 0} → Configuration W E → Step W E → Type 0
CostsSome h (Go cost work h') = (1 ≤ cost.own) × ((cost.primitive ≡ 0) ⊎ (calls_ended h' ≡ suc (calls_ended h)))
CostsSome h (Stop cost f h') = (1 ≤ cost.own) × (total cost ≤ 8388608)

-- a law: so does each step, where what is left to do stands in the machine
abbrev pub StepsCostSome : (W E : Type 0) (Outer : W → Contents → Behind → Type 0) → Type 0
StepsCostSome W E Outer = (z : Setup W E Outer) (debt : ℕ) (item : Work) (work : List Work) (h : Configuration W E) (s : CodeState)
    → Simulated W E Outer z debt (item ∷ work) h s → CostsSome h (work_step z.p item work h)

-- A law: where what is left to do stands in the machine, a step of C0's meaning is a run of the code, over any machine with primitives.
abbrev pub StepsRun : (W E : Type 0) (Outer : W → Contents → Behind → Type 0) → Type 0
StepsRun W E Outer = (z : Setup W E Outer) (debt : ℕ) (item : Work) (work : List Work) (h : Configuration W E) (s : CodeState)
    → Simulated W E Outer z debt (item ∷ work) h s → StepIs W E Outer z debt item h s (work_step z.p item work h)
