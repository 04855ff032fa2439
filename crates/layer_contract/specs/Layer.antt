-- What a layer promises: the laws of entering and leaving the kernel, of each primitive, of each fault exit and of a handled fault.
use Rattle.std.specs.Prelude.{◌≡◌, ◌≢◌, ℕ, zero, suc, ◌+◌, ◌-◌, ◌*◌, ◌/◌, ◌%◌, ◌<◌, ◌≤◌, ℤ, pos, Bool, true, false, List, [], ◌∷◌, ◌++◌, length, map, take}
use Rattle.std.specs.Prelude.{replicate, slice_index, slice_set, All, Option, Some, None}
use Rattle.mips_table.specs.declared.cause.Cause.{Cause}
use Rattle.mips_table.specs.declared.inst.Inst.{Inst}
use Rattle.mips_table.specs.declared.inst.Inst.TheVariants.{Sw}
use Rattle.mips_table.specs.declared.cause.Cause.TheVariants.{FetchFault, DataFault}
use Rattle.mips_table.specs.Decoding.{decoding}
use Rattle.mips_table.specs.Arith.{signed}
use Rattle.mips_table.specs.Device.{Pending, Idle, Environment, sector_of}
use Rattle.mips_table.specs.declared.special.TheConstants.{SR, MODE}
use Rattle.mips_table.specs.Machine.{cause_number}
use Rattle.mips_table.specs.Machine.{State, zero_cpu, Coming, Interrupt, latched, coming, come_to, run, step, located, read_at}
use Rattle.mips_table.specs.Turns.{handled}
use Rattle.mips_table.specs.Fits.{NamesSector, Fits}
use Rattle.c0_meaning.specs.Value.{group, empty}
use Rattle.layer_contract.specs.declared.registers.TheConstants.{ARGUMENT, ANSWER, RETURN, KEPT}
use Rattle.layer_contract.specs.declared.entry.Entry.{Entry}
use Rattle.layer_contract.specs.declared.entry.Entry.TheVariants.{Dispatch, Primitive, Fault as Exit, Leave}
use Rattle.layer_map.specs.Map.{Map, MapInRange, layer_words, current_at, hand_at, heap_used_at, heap_words_at, heap_first_at, stack_first_at, stack_limit_at}
use Rattle.layer_map.specs.Map.{primitives_at, exits_at, leave_at, block_at, code_at, heap_at, stack_at, table_of, memory_words}
use Rattle.layer_map.specs.declared.places.TheConstants.{BLOCK_SIZE, BLOCK_WORDS}
use Rattle.page_model.specs.Paging.{IsAccessible}
use Rattle.cvm_model.specs.Kernel.{flat, Core, power_of}
use Rattle.cvm_model.specs.declared.kernel_fault.KernelFault.{KernelFault}
use Rattle.cvm_model.specs.declared.kernel_fault.KernelFault.TheVariants.{BadUser}
use Rattle.cvm_model.specs.Primitives.{KernelCall, Given, prim, primitive_number, arguments_of, units_of, user_of, with_user, pages_of}
use Rattle.cvm_model.specs.declared.row.Next.{Next}
use Rattle.cvm_model.specs.declared.row.Next.TheVariants.{Fault}
use Rattle.cvm_model.specs.Cvm.{Status, Running, Halted, Faulted, next_of, status_of, core_of, page_steps, reset_steps, enter_steps, leave_steps, run_steps}
use Rattle.cvm_model.specs.Paged.{paged_of, pages_by}
use Rattle.cvm_model.specs.Stands.{Site, IsUser, CoreFits, RunningRelation, runs_user}

-- The address of each entry. A kernel's code is made without a layer, so they are the same for every layer: the code begins with the
-- entry of `dispatch`, which no call in it reaches, and the other entries begin the layer's second part of code, a word each.
abbrev pub layer_entry : Entry → ℕ
layer_entry Dispatch = 4 * layer_words
layer_entry (Primitive k) = 4 * primitives_at + 4 * k
layer_entry (Exit f) = 4 * (exits_at - 1) + 4 * f
layer_entry Leave = 4 * leave_at

-- the entries that there are: ten primitives, and the faults 1 to 4
abbrev pub IsEntry : Entry → Type 0
IsEntry (Primitive k) = k < 10
IsEntry (Exit f) = (1 ≤ f) × (f ≤ 4)
IsEntry other = Unit {0}

-- the machine is on, in system mode with sr 0, and no reset is latched
pub record Inside (s : State) : Type 0 where
  pub on : s.off ≡ None
  pub mode : slice_index s.special MODE ≡ 0
  pub sr : slice_index s.special SR ≡ 0
  pub no_reset : s.reset ≡ false

-- the sectors past the users' pages are the same
abbrev pub SectorsStay : Map → State → State → Type 0
SectorsStay m s t = (q : ℕ) → m.users * m.params.pages ≤ q → sector_of t.device.sectors q ≡ sector_of s.device.sectors q

-- the words behind the map's last frame are the same, and as many
pub record FramesStay (m : Map) (s t : State) : Type 0 where
  pub size : length t.memory ≡ length s.memory
  pub words : (k : ℕ) → memory_words m ≤ k → k < length s.memory → slice_index t.memory k ≡ slice_index s.memory k

-- the command that is under way in the step from this state just before the disk counts
unfoldable pub command_due : Environment → State → Pending
command_due x s = (come_to (coming x (latched x s))).device.pending

-- if there is one, it is for a sector of the users' pages
abbrev pub EndsNamed : Environment → Map → State → Type 0
EndsNamed x m s = NamesSector (m.users * m.params.pages) (command_due x s)

-- there is none where none was under way before the step and none begins in it
abbrev pub NoneIsDue : Type 0
NoneIsDue = (x : Environment) (s : State) → s.off ≡ None → s.device.pending ≡ Idle → (step x s).device.commands ≡ s.device.commands → command_due x s ≡ Idle

-- For n steps, whatever lines are raised, the machine is inside, the pc is none of the doors but in the first and the last state, the
-- sectors past the users' pages and the frames behind the map's last one stay, and no command is for one of those sectors.
pub record Way (x : Environment) (y : Site) (Door : Entry → Type 0) (n : ℕ) (s : State) : Type 0 where
  pub inside : (j : ℕ) → j < n → Inside (run x s j)
  pub between : (j : ℕ) (e : Entry) → 0 < j → j < n → Door e → (run x s j).cpu.pc ≢ layer_entry e
  pub sectors : (j : ℕ) → j ≤ n → SectorsStay y.map s (run x s j)
  pub frames : (j : ℕ) → j ≤ n → FramesStay y.map s (run x s j)
  pub named : (j : ℕ) → j < n → EndsNamed x y.map (run x s j)

-- within n steps the machine comes by such a way to a state of which Q holds
pub record ComesBy (x : Environment) (y : Site) (Door : Entry → Type 0) (n : ℕ) (s : State) (Q : State → Type 0) : Type 0 where
  pub steps : ℕ
  pub within : steps ≤ n
  pub way : Way x y Door steps s
  pub there : Q (run x s steps)

-- the machine is at an entry, and stands for a running state
pub record IsAtEntry (x : Environment) (y : Site) (e : Entry) (c : Core) (s : State) : Type 0 where
  pub inside : Inside s
  pub pc : s.cpu.pc ≡ layer_entry e
  pub stands : RunningRelation x y s Running c

-- registers from r on have these ints
abbrev pub AreArguments : List ℕ → ℕ → List ℤ → Type 0
AreArguments regs r [] = Unit {0}
AreArguments regs r (a ∷ rest) = (signed (slice_index regs r) ≡ a) × AreArguments regs (r + 1) rest

-- `dispatch` is called with three ints
pub record DispatchCalled (x : Environment) (y : Site) (c : Core) (cause edata user : ℤ) (s : State) : Type 0 where
  pub at : IsAtEntry x y Dispatch c s
  pub arguments : AreArguments s.cpu.regs ARGUMENT (cause ∷ edata ∷ user ∷ [])

-- no command is busier
abbrev pub BusyWithin : Environment → ℕ → Type 0
BusyWithin x longest = (n : ℕ) → x.busy n ≤ longest

-- the machine rests, as the status says
abbrev pub Rests : Status → State → Type 0
Rests Running s = runs_user s ≡ true
Rests Halted s = s.off ≡ Some 0
Rests (Faulted f) s = s.off ≡ Some (power_of f)

-- and stands for the state after that dispatch
pub record Rested (x : Environment) (y : Site) (next : Next) (c : Core) (s : State) : Type 0 where
  pub rests : Rests (status_of next) s
  pub stands : RunningRelation x y s (status_of next) (core_of next c)

-- the words that a user's control block holds at load: all 0, but for the size
pub record BlockLinked (words : List ℕ) (u pages : ℕ) : Type 0 where
  pub size : slice_index words (block_at u + BLOCK_SIZE) ≡ pages
  pub others : (i : ℕ) → i < BLOCK_WORDS → i ≢ BLOCK_SIZE → slice_index words (block_at u + i) ≡ 0

-- what the linked words hold in the layer's variables and in the control blocks, for users of these sizes, one for each user
pub record Linked (m : Map) (sizes words : List ℕ) : Type 0 where
  pub whole : length words ≡ layer_words
  pub count : length sizes ≡ m.users
  pub current : slice_index words current_at ≡ 0
  pub hand : slice_index words hand_at < m.params.frames
  pub used : slice_index words heap_used_at ≡ 0
  pub heap_words : slice_index words heap_words_at ≡ m.params.heap
  pub heap_first : slice_index words heap_first_at ≡ 4 * heap_at m
  pub stack_first : slice_index words stack_first_at ≡ 4 * stack_at m
  pub stack_limit : slice_index words stack_limit_at ≡ 4 * (stack_at m + m.params.stack)
  pub blocks : (u : ℕ) → u < length sizes → BlockLinked words (u + 1) (slice_index sizes u)

-- the state of a run at its start: globals 0, no heap, users with pc, registers, hi and lo 0, and an empty log
pub record Starts (c : Core) : Type 0 where
  pub globals : (address : _) → All (λ w. w ≡ 0) (flat address c.c0.global_values)
  pub heap : c.c0.heap_values ≡ group empty
  pub users : All (λ f. f.cpu ≡ zero_cpu) c.users
  pub current : c.current ≡ 0
  pub log : c.console.log ≡ []

-- The machine just after its reset: memory as it is loaded, each user's pages in their sectors, all registers and special registers 0.
-- The sector register, the buffer and the number of disk commands are free.
pub record AfterReset (x : Environment) (y : Site) (c : Core) (s : State) : Type 0 where
  pub fits : Fits x s
  pub inside : Inside s
  pub cpu : s.cpu ≡ zero_cpu
  pub special : s.special ≡ replicate 9 0
  pub memory : memory_words y.map ≤ length s.memory
  pub small : length s.memory ≤ 65000 * 1024
  pub linked : (k : ℕ) → k < length y.linked → slice_index s.memory k ≡ slice_index y.linked k
  pub zeros : (k : ℕ) → length y.linked ≤ k → k < memory_words y.map → slice_index s.memory k ≡ 0
  pub pages : (q i : ℕ) → q < y.map.users * y.map.params.pages → (pages_by y.map.params.pages c.users).live q ≡ true → i < 1024 →
      slice_index (sector_of s.device.sectors q) i ≡ (pages_by y.map.params.pages c.users).word q i
  pub sectors : y.map.users * y.map.params.pages ≤ x.count
  pub idle : s.device.pending ≡ Idle
  pub log : s.log ≡ c.console.log
  pub input : s.input ≡ c.console.input

-- ENTER, after the reset: `dispatch` is called with 0, 0, 0, for users of the sizes that the layer was made for
abbrev pub EntersFirst : Site → List ℕ → Type 0
EntersFirst y sizes = (x : Environment) (s : State) (c : Core) → CoreFits y.map c → Starts c → sizes ≡ map pages_of c.users → AfterReset x y c s →
    ComesBy x y IsEntry (reset_steps y.map) s (DispatchCalled x y c (pos 0) (pos 0) (pos 0))

-- the interrupted user's pc is the epc
abbrev pub with_epc : Core → ℕ → Core
with_epc c epc = let f = user_of c.users c.current in record c { users = with_user c.users c.current (record f { cpu = record f.cpu { pc = epc } }) }

-- the machine is in user mode, for a running state
pub record InUserMode (x : Environment) (y : Site) (c : Core) (s : State) : Type 0 where
  pub user : runs_user s ≡ true
  pub stands : RunningRelation x y s Running c

-- ENTER, from a user: `dispatch` is called with the cause, edata and the user, of every interrupt but a handled fault
abbrev pub Enters : Site → Type 0
Enters y = (x : Environment) (s before : State) (c : Core) (cause : Cause) (edata epc : ℕ) → InUserMode x y c s →
    coming x (latched x s) ≡ Interrupt before cause edata epc → handled x s ≡ false →
    ComesBy x y IsEntry enter_steps (step x s) (DispatchCalled x y (with_epc c epc) (pos (cause_number cause)) (signed edata) (pos c.current))

-- LEAVE: the next user runs, or the power is 0 or 5
abbrev pub Leaves : Site → Type 0
Leaves y = (x : Environment) (s : State) (c : Core) → IsAtEntry x y Leave c s →
    ComesBy x y IsEntry leave_steps s (Rested x y (next_of y.map.users (signed (slice_index s.cpu.regs ANSWER))) c)

-- FAULT EXIT: the power is the fault's
abbrev pub Exits : Site → Type 0
Exits y = (x : Environment) (s : State) (c : Core) (f : KernelFault) → f ≢ BadUser → IsAtEntry x y (Exit (power_of f)) c s →
    ComesBy x y IsEntry leave_steps s (Rested x y (Fault f) c)

-- the kernel's code has this address
pub record InCode (m : Map) (address : ℕ) : Type 0 where
  pub from : 4 * code_at m ≤ address
  pub to : address < 4 * (code_at m + m.code_words)
  pub whole : address % 4 ≡ 0

-- a primitive is called, with its arguments and a return address in the kernel's code
pub record PrimitiveCalled (x : Environment) (y : Site) (c : Core) (call : KernelCall) (s : State) : Type 0 where
  pub at : IsAtEntry x y (Primitive (primitive_number call)) c s
  pub arguments : AreArguments s.cpu.regs ARGUMENT (arguments_of call)
  pub back : InCode y.map (slice_index s.cpu.regs RETURN)

-- what it comes to
abbrev pub given : Site → Core → KernelCall → Given
given y c call = prim y.map.params.pages call c.users c.console

-- it has returned, with its answer and effect; the kernel's stack, the special registers and the kept registers are as at the entry
pub record Returned (x : Environment) (y : Site) (g : Given) (c : Core) (s t : State) : Type 0 where
  pub inside : Inside t
  pub pc : t.cpu.pc ≡ slice_index s.cpu.regs RETURN
  pub answer : flat (λ _. 0) g.answer ≡ slice_index t.cpu.regs ANSWER ∷ []
  pub stands : RunningRelation x y t Running (record c { users = g.users; console = g.console })
  pub stack : (k : ℕ) → stack_at y.map ≤ k → k < stack_at y.map + y.map.params.stack → slice_index t.memory k ≡ slice_index s.memory k
  pub special : t.special ≡ s.special
  pub kept : All (λ r. slice_index t.cpu.regs r ≡ slice_index s.cpu.regs r) KEPT

-- it comes back, in 600 steps for each of its units and those of its pages, and the pc is the return address in the last state alone
pub record ComesBack (x : Environment) (y : Site) (longest : ℕ) (c : Core) (call : KernelCall) (s : State) : Type 0 where
  pub comes : ComesBy x y IsEntry (run_steps y.map longest (units_of (given y c call)) (given y c call).pages) s (Returned x y (given y c call) c s)
  pub apart : (j : ℕ) → j < comes.steps → (run x s j).cpu.pc ≢ slice_index s.cpu.regs RETURN

-- PRIMITIVE: from its entry it comes back
abbrev pub PrimitivesAnswer : Site → Type 0
PrimitivesAnswer y = (x : Environment) (longest : ℕ) (s : State) (c : Core) (call : KernelCall) → BusyWithin x longest → PrimitiveCalled x y c call s
    → ComesBack x y longest c call s

-- whether the instruction at pc is a store
abbrev pub is_store : Option Inst → Bool
is_store (Some (Sw rt rs imm)) = true
is_store other = false

-- the number of the page of the current user that an address is in
abbrev pub page_at : Map → Core → ℕ → ℕ
page_at m c address = (c.current - 1) * m.params.pages + address / 4096

-- the page that a handled fault asked for is resident, and for a store private
abbrev pub PageBrought : Site → Core → State → State → Coming → Type 0
PageBrought y c s t (Interrupt before DataFault edata epc) =
    IsAccessible (paged_of y.map t) (page_at y.map c edata) (is_store (decoding (read_at s (located s false s.cpu.pc))))
PageBrought y c s t (Interrupt before FetchFault edata epc) = IsAccessible (paged_of y.map t) (page_at y.map c edata) false
PageBrought y c s t other = Unit {0}

-- at most k handled faults come, each brought to its end for the same state, and then a step that takes none
abbrev pub Settles : ℕ → Environment → Site → ℕ → Core → State → Type 0
Settles zero x y n c s = handled x s ≡ false
Settles (suc k) x y n c s = handled x s ≡ true →
    ComesBy x y IsEntry n (step x s) (λ t. InUserMode x y c t × PageBrought y c s t (coming x (latched x s)) × Settles k x y n c t)

-- HANDLED FAULT: one user step meets at most two, each within the steps of a page, of which the faulting step is one
abbrev pub FaultsSettle : Site → Type 0
FaultsSettle y = (x : Environment) (longest : ℕ) (s : State) (c : Core) → BusyWithin x longest → InUserMode x y c s
    → Settles 2 x y (page_steps y.map longest - 1) c s

-- a layer's words with a kernel's code behind them: as much as the map says
abbrev pub site_with : Map → (image code : List ℕ) → Site
site_with m image code = record { map = m; linked = image ++ code }

-- THE LAWS of a layer: enter (two), leave, fault exit, primitive, handled fault
pub record Laws (y : Site) (sizes : List ℕ) : Type 0 where
  pub enters_first : EntersFirst y sizes
  pub enters : Enters y
  pub leaves : Leaves y
  pub exits : Exits y
  pub primitives : PrimitivesAnswer y
  pub settles : FaultsSettle y

-- a layer's words keep the laws, whichever code of the map's size stands behind them
abbrev pub LawsAnyCode : Map → (image sizes : List ℕ) → Type 0
LawsAnyCode m image sizes = (code : List ℕ) → MapInRange m → length code ≡ m.code_words → Laws (site_with m image code) sizes

-- the state after the reset stands for the start: no code of the layer is needed for this
abbrev pub ResetStands : Type 0
ResetStands = (x : Environment) (y : Site) (s : State) (c : Core) (sizes : List ℕ) → MapInRange y.map → length y.linked ≡ layer_words + y.map.code_words →
    Linked y.map sizes (take layer_words y.linked) → sizes ≡ map pages_of c.users → CoreFits y.map c → Starts c → AfterReset x y c s
    → RunningRelation x y s Running c

-- The machine as it goes on to user u: the current user's word, the processor, the page table, sr 1 and user mode. The special registers stand in
-- the order of their numbers: sr, esr, eca, epc, edata, pto, ptl, mode, emode.
abbrev pub for_user : Map → Core → ℕ → State → State
for_user m c u s =
    record s {
      cpu = (user_of c.users u).cpu;
      special = 1 ∷ 0 ∷ 0 ∷ 0 ∷ 0 ∷ 4 * table_of m u ∷ pages_of (user_of c.users u) ∷ 1 ∷ 0 ∷ [];
      memory = slice_set s.memory current_at u;
    }
