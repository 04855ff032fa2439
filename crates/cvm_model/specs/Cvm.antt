-- The CVM run: its state, one turn, and the turns from the start, with what they may cost.
use Rattle.std.specs.Prelude.{◌≡◌, ℕ, zero, suc, ◌+◌, ◌-◌, ◌*◌, ◌≤◌, ℤ, pos, negsuc, ◌==◌, nat_lt}
use Rattle.std.specs.Prelude.{if◌then◌else◌, List, [], ◌∷◌, ◌++◌, length, map, replicate, bit_or, Option, Some, None}
use Rattle.mips_table.specs.Arith.{signed}
use Rattle.mips_table.specs.Machine.{cause_number}
use Rattle.mips_table.specs.Flat.{Flat, VStep, Goes, Trap, vstep}
use Rattle.mips_table.specs.Machine.{zero_cpu}
use Rattle.layer_map.specs.declared.params.Params.{Params}
use Rattle.layer_map.specs.Map.{Map, next_page, layer_words}
use Rattle.cvm_model.specs.Kernel.{Core, DispatchEnd, Answers, Faults, NotYet, DispatchOutcome, KernelMeaning, MeaningLaws}
use Rattle.cvm_model.specs.declared.kernel_fault.KernelFault.{KernelFault}
use Rattle.cvm_model.specs.declared.kernel_fault.KernelFault.TheVariants.{BadUser}
use Rattle.cvm_model.specs.Primitives.{user_of, with_user}
use Rattle.cvm_model.specs.declared.row.Next.{Next}
use Rattle.cvm_model.specs.declared.row.Next.TheVariants.{User, Halt, Fault}
use Rattle.cvm_model.specs.declared.row.Row.{Row}

-- what is booted: the parameters, the kernel, the linked words, and the words of each user
pub record Boot : Type 0 where
  pub params : Params
  pub meaning : KernelMeaning
  pub words : List ℕ
  pub users : List (List ℕ)

-- a boot with what its schedule says beside lines: the console's input, and the longest busy time
pub record System : Type 0 where
  pub boot : Boot
  pub input : List ℕ
  pub longest : ℕ

-- the map of what is booted
abbrev pub map_of : Boot → Map
map_of b = record { params = b.params; users = length b.users; code_words = length b.words - layer_words; global_words = b.meaning.global_words }

-- a user's machine at the start: its words filled up with zeros to whole pages
abbrev pub first_flat : List ℕ → Flat
first_flat words = record { cpu = zero_cpu; words = words ++ replicate (next_page (length words) - length words) 0 }

-- the state at the start
abbrev pub first_core : System → Core
first_core y = record { c0 = y.boot.meaning.first; users = map first_flat y.boot.users; console = record { log = []; input = y.input }; current = 0 }

-- running, halted, or a kernel fault
pub data Status : Type 0 where
  Running : Status
  Halted : Status
  Faulted : (fault : KernelFault) → Status

-- the CVM state, and what its turns printed and may cost so far
pub record Cvm : Type 0 where
  pub core : Core
  pub pending : ℕ
  pub status : Status
  pub rows : List Row
  pub bound : ℕ

-- what a turn begins with: an untrapped step; a trap of the current user; or the reset or an external interrupt, with the lines that stay pending
pub data Begin : Type 0 where
  Steps : (after : Core) → Begin
  Traps : (cause edata : ℕ) (at : Core) → Begin
  Interrupts : (cause edata : ℕ) (at : Core) (pending : ℕ) → Begin

-- one step of the current user
abbrev pub user_step : Core → VStep → Begin
user_step c (Goes f) = Steps (record c { users = with_user c.users c.current f })
user_step c (Trap f cause edata) = Traps (cause_number cause) edata (record c { users = with_user c.users c.current f })

-- turn k with these lines pending: the reset clears none, and an external interrupt all
abbrev pub begin : ℕ → Core → ℕ → Begin
begin zero c lines = Interrupts 0 0 c lines
begin (suc k) c lines = if lines == 0 then user_step c (vstep (user_of c.users c.current)) else Interrupts 1 lines c 0

-- who is next, by the answer of dispatch
abbrev pub next_of : ℕ → ℤ → Next
next_of users (pos zero) = Halt
next_of users (pos (suc n)) = if nat_lt n users then User (suc n) else Fault BadUser
next_of users (negsuc n) = Fault BadUser

abbrev pub status_of : Next → Status
status_of (User u) = Running
status_of Halt = Halted
status_of (Fault f) = Faulted f

-- the next user is current from then on
abbrev pub core_of : Next → Core → Core
core_of (User u) c = record c { current = u }
core_of other c = c

-- The most steps, by the map and the longest busy time. Of a page: from the faulting step until it is brought in.
abbrev pub page_steps : Map → ℕ → ℕ
page_steps m longest = 200000 + 32 * (m.users * m.params.pages) + 6 * longest

-- from the reset to the first dispatch
abbrev pub reset_steps : Map → ℕ
reset_steps m = 20000 + 64 * (m.users * m.params.pages + m.params.frames)

-- of each turn: the step that begins it, and two handled faults
abbrev pub turn_steps : Map → ℕ → ℕ
turn_steps m longest = 1 + 2 * page_steps m longest

-- to enter the kernel, and to leave it
abbrev pub enter_steps : ℕ
enter_steps = 1000

abbrev pub leave_steps : ℕ
leave_steps = 1000

-- of code by its units and pages
abbrev pub run_steps : Map → ℕ → ℕ → ℕ → ℕ
run_steps m longest units pages = 600 * units + page_steps m longest * pages

-- of a turn that dispatches
abbrev pub dispatch_steps : System → DispatchOutcome → ℕ
dispatch_steps y o = turn_steps (map_of y.boot) y.longest + (enter_steps + leave_steps + run_steps (map_of y.boot) y.longest o.units o.pages)

-- the state after a dispatch, and its row
abbrev pub dispatched : System → Cvm → (k cause edata user pending : ℕ) → DispatchOutcome → Next → Cvm
dispatched y c k cause edata user pending o next = record {
  core = core_of next o.after;
  pending = pending;
  status = status_of next;
  rows = c.rows ++ (record { turn = k; cause = cause; edata = edata; user = user; next = next }) ∷ [];
  bound = c.bound + dispatch_steps y o;
}

-- by how it ended; a dispatch that isn't over has no state after it
abbrev pub after_dispatch : System → Cvm → (k cause edata user pending : ℕ) → DispatchOutcome → DispatchEnd → Option Cvm
after_dispatch y c k cause edata user pending o (Answers a) = Some (dispatched y c k cause edata user pending o (next_of (length y.boot.users) a))
after_dispatch y c k cause edata user pending o (Faults f) = Some (dispatched y c k cause edata user pending o (Fault f))
after_dispatch y c k cause edata user pending o NotYet = None

-- the dispatch of a turn, with edata read as an int
abbrev pub dispatch_of : System → ℕ → (cause edata : ℕ) → Core → DispatchOutcome
dispatch_of y n cause edata c = y.boot.meaning.dispatch n c (pos cause) (signed edata) (pos c.current)

-- a turn that dispatches
abbrev pub dispatches : System → ℕ → ℕ → Cvm → (cause edata : ℕ) → Core → ℕ → Option Cvm
dispatches y n k c cause edata at pending =
    after_dispatch y c k cause edata at.current pending (dispatch_of y n cause edata at) (dispatch_of y n cause edata at).end

-- the turn once it has begun
abbrev pub begun : System → ℕ → ℕ → Cvm → Begin → Option Cvm
begun y n k c (Steps after) = Some (record c { core = after; pending = 0; bound = c.bound + turn_steps (map_of y.boot) y.longest })
begun y n k c (Traps cause edata at) = dispatches y n k c cause edata at 0
begun y n k c (Interrupts cause edata at pending) = dispatches y n k c cause edata at pending

-- turn k with these lines, each dispatch with n units; a state that isn't running is left as it is
abbrev pub turn_by : System → ℕ → ℕ → ℕ → Cvm → Status → Option Cvm
turn_by y n k lines c Running = begun y n k c (begin k c.core (bit_or c.pending lines))
turn_by y n k lines c other = Some c

abbrev pub turn : System → ℕ → ℕ → ℕ → Option Cvm → Option Cvm
turn y n k lines None = None
turn y n k lines (Some c) = turn_by y n k lines c c.status

-- the state at the start
abbrev pub first_cvm : System → Cvm
first_cvm y = record { core = first_core y; pending = 0; status = Running; rows = []; bound = reset_steps (map_of y.boot) }

-- the state after k turns with the lines of each, where each dispatch ends within n units
abbrev pub cvm : System → (ℕ → ℕ) → ℕ → ℕ → Option Cvm
cvm y lines n zero = Some (first_cvm y)
cvm y lines n (suc k) = turn y n k (lines k) (cvm y lines n k)

-- k turns lead to c: with enough units
pub record IsCvm (y : System) (lines : ℕ → ℕ) (k : ℕ) (c : Cvm) : Type 0 where
  pub units : ℕ
  pub is : cvm y lines units k ≡ Some c

-- a running state's user is one of the users, counted from 1, as soon as a turn was made; at the start it is 0
abbrev pub UsersRun : Type 0
UsersRun = (y : System) (lines : ℕ → ℕ) (n k : ℕ) (c : Cvm) → cvm y lines n (suc k) ≡ Some c → c.status ≡ Running →
    (1 ≤ c.core.current) × (c.core.current ≤ length y.boot.users)

-- the number of units doesn't matter
abbrev pub UnitsDontMatter : Type 0
UnitsDontMatter = (y : System) (lines : ℕ → ℕ) (k : ℕ) (c d : Cvm) → MeaningLaws y.boot.meaning → IsCvm y lines k c → IsCvm y lines k d → c ≡ d
