-- How a property of a kernel is proved of all its runs: as an invariant that each dispatch keeps. The rule is `InvariantsHold`, which the lemma
-- `invariants_hold` of proofs/InvariantsHold proves; a run then needs no induction by whoever has a kernel.
use Rattle.std.specs.Prelude.{◌≡◌, ℕ, zero, suc, ◌*◌, ◌<◌, ◌≤◌, ◌^◌, ℤ, Option, Some, None, List, [], ◌∷◌, ◌++◌, length, map, bit_or, All}
use Rattle.mips_table.specs.declared.cause.Cause.{Cause}
use Rattle.mips_table.specs.declared.cause.Cause.TheVariants.{Reset, External}
use Rattle.mips_table.specs.Flat.{VStep, Goes, Trap, Flat, vstep}
use Rattle.mips_table.specs.Machine.{cause_number, LOG_ROOM}
use Rattle.c0_tree.specs.Tree.{CUnit}
use Rattle.c0_meaning.specs.State.{C0State}
use Rattle.c0_meaning.specs.Value.{int}
use Rattle.c0_meaning.specs.World.{Configuration}
use Rattle.cvm_model.specs.Kernel.{Core, Changes, Answers, Faults, NotYet, DispatchEnd, DispatchOutcome}
use Rattle.cvm_model.specs.KernelMeaning.{Machines, kernel_meaning, core_at, UnitsAreKernels}
use Rattle.cvm_model.specs.Primitives.{pages_of, user_of, with_user}
use Rattle.cvm_model.specs.Stands.{IsUser, input_room}
use Rattle.cvm_model.specs.Cvm.{System, Cvm, Status, Running, Faulted, Begin, Steps, Traps}
use Rattle.cvm_model.specs.Cvm.{Interrupts, begin, cvm, IsCvm, dispatch_of, next_of, first_core, UnitsDontMatter}
use Rattle.cvm_model.specs.declared.row.Next.{Next}
use Rattle.cvm_model.specs.declared.row.Next.TheVariants.{User, Halt, Fault}
use Rattle.cvm_model.specs.declared.row.Row.{Row}

-- A dispatch of a run: its turn, its cause and its data; the state in which it was called, with the current user, and the one that it left; and who is
-- next. What a primitive read or wrote in it shows in the two states.
pub record Dispatch : Type 0 where
  pub turn : ℕ
  pub cause : ℕ
  pub edata : ℕ
  pub before : Core
  pub after : Core
  pub next : Next

-- the row that it prints
abbrev pub dispatch_row : Dispatch → Row
dispatch_row d = record { turn = d.turn; cause = d.cause; edata = d.edata; user = d.before.current; next = d.next }

abbrev pub dispatch_rows : List Dispatch → List Row
dispatch_rows past = map dispatch_row past

-- a property of what a kernel shows between dispatches: the dispatches so far, its data, and the current user
abbrev pub Property : Type 1
Property = List Dispatch → C0State → ℕ → Type 0

-- who is next is a user or nobody, and no fault
abbrev pub IsProper : Next → Type 0
IsProper (User u) = Unit {0}
IsProper Halt = Unit {0}
IsProper (Fault f) = ⊥

-- the current user after a dispatch
abbrev pub current_after : Next → ℕ → ℕ
current_after (User u) before = u
current_after other before = before

-- who is next, by how a dispatch ended; one that isn't over is in no run
abbrev pub next_by : ℕ → DispatchEnd → Next
next_by users (Answers a) = next_of users a
next_by users (Faults f) = Fault f
next_by users NotYet = Halt

-- THE DISPATCHES of the first k turns of a run, with n units each
abbrev pub made_by : System → ℕ → (k cause edata : ℕ) → Core → DispatchOutcome → Dispatch
made_by y n k cause edata at o = record { turn = k; cause = cause; edata = edata; before = at; after = o.after; next = next_by (length y.boot.users) o.end }

abbrev pub of_begin : System → ℕ → ℕ → Begin → List Dispatch
of_begin y n k (Steps after) = []
of_begin y n k (Traps cause edata at) = made_by y n k cause edata at (dispatch_of y n cause edata at) ∷ []
of_begin y n k (Interrupts cause edata at pending) = made_by y n k cause edata at (dispatch_of y n cause edata at) ∷ []

abbrev pub of_status : System → ℕ → (k lines : ℕ) → Cvm → Status → List Dispatch
of_status y n k lines c Running = of_begin y n k (begin k c.core (bit_or c.pending lines))
of_status y n k lines c other = []

abbrev pub of_turn : System → ℕ → (k lines : ℕ) → Option Cvm → List Dispatch
of_turn y n k lines None = []
of_turn y n k lines (Some c) = of_status y n k lines c c.status

abbrev pub dispatches_of : System → (ℕ → ℕ) → (n k : ℕ) → List Dispatch
dispatches_of y lines n zero = []
dispatches_of y lines n (suc k) = dispatches_of y lines n k ++ of_turn y n k (lines k) (cvm y lines n k)

-- the causes of traps: neither the reset nor an external interrupt
abbrev pub IsTrap : Cause → Type 0
IsTrap Reset = ⊥
IsTrap External = ⊥
IsTrap other = Unit {0}

-- the machine that a step of a user leaves
abbrev pub machine_after : VStep → Flat
machine_after (Goes f) = f
machine_after (Trap f cause edata) = f

-- another machine of the current user
abbrev pub with_machine : Core → Flat → Core
with_machine c f = record c { users = with_user c.users c.current f }

-- A TRAP: the next step of the current user of `before` ends in one, with this cause and these data, and leaves `at`. What the data tell follows from the
-- step; law `steps_tell` of kernel_theorems says it by cause.
pub record IsTrapOf (before : Core) (cause : Cause) (edata : ℕ) (at : Core) : Type 0 where
  pub after : Flat
  pub stepped : vstep (user_of before.users before.current) ≡ Trap after cause edata
  pub left : at ≡ with_machine before after
  pub is : IsTrap cause

-- WHAT A KERNEL MAY KNOW beside its own property: a fact of states that holds at the start and stays in the steps of users, in dispatches and where
-- another user becomes current. `HasUsers` and `Shaped` are such facts of each run (law `runs_are_lawful`).
pub record Known (y : System) (Fit : Core → Type 0) : Type 0 where
  pub count : (c : Core) → Fit c → length c.users ≡ length y.boot.users
  pub start : Fit (first_core y)
  pub step : (c : Core) → Fit c → IsUser c c.current → Fit (with_machine c (machine_after (vstep (user_of c.users c.current))))
  pub dispatch : (n cause edata : ℕ) (c : Core) → Fit c → Fit (dispatch_of y n cause edata c).after
  pub next : (c : Core) (u : ℕ) → Fit c → IsUser c u → Fit (record c { current = u })

-- the dispatch of turn k answers within n units who is next, and a property holds after it, with this dispatch in its history
pub record Keeps (y : System) (n : ℕ) (I : Property) (k cause edata : ℕ) (past : List Dispatch) (at : Core) : Type 0 where
  pub answer : ℤ
  pub ends : (dispatch_of y n cause edata at).end ≡ Answers answer
  pub proper : IsProper (next_of (length y.boot.users) answer)
  pub kept : let o = dispatch_of y n cause edata at in
      I (past ++ made_by y n k cause edata at o ∷ []) o.after.c0 (current_after (next_of (length y.boot.users) answer) at.current)

-- where the code of a dispatch is done: it has answered who is next, and the property holds of its data
pub record KeptAt (y : System) (I : Property) (k cause edata : ℕ) (past : List Dispatch) (at : Core) (d : Configuration Machines Changes) : Type 0 where
  pub answer : ℤ
  pub answers : d.answer ≡ Some (int answer)
  pub proper : IsProper (next_of (length y.boot.users) answer)
  pub kept : let next = next_of (length y.boot.users) answer in
      I (past ++ record { turn = k; cause = cause; edata = edata; before = at; after = core_at at d; next = next } ∷ []) (core_at at d).c0
      (current_after next at.current)

-- A property that the dispatch of the start sets up, and each later one keeps: where lines are taken, of which there are eight, and where the current
-- user traps. Each may use what is known.
pub record IsInvariant (y : System) (n : ℕ) (Fit : Core → Type 0) (I : Property) : Type 0 where
  pub start : Fit (first_core y) → Keeps y n I 0 0 0 [] (first_core y)
  pub line : (k mask : ℕ) (past : List Dispatch) (at : Core) → 1 ≤ mask → mask < 2 ^ 8 → Fit at → IsUser at at.current → I past at.c0 at.current
      → Keeps y n I (suc k) 1 mask past at
  pub trap : (k : ℕ) (cause : Cause) (edata : ℕ) (past : List Dispatch) (before at : Core) → IsTrapOf before cause edata at → Fit at → IsUser at at.current
      → I past at.c0 at.current
      → Keeps y n I (suc k) (cause_number cause) edata past at

-- a status that is no kernel's fault
abbrev pub IsSafe : Status → Type 0
IsSafe (Faulted f) = ⊥
IsSafe other = Unit {0}

-- what holds of a state after the first turn
pub record Holds (I : Property) (past : List Dispatch) (c : Cvm) : Type 0 where
  pub safe : IsSafe c.status
  pub rows : c.rows ≡ dispatch_rows past
  pub kept : I past c.core.c0 c.core.current

-- no line but the eight is raised
abbrev pub HasEight : (ℕ → ℕ) → Type 0
HasEight lines = (k : ℕ) → lines k < 2 ^ 8

-- THE RULE: with an invariant, whatever lines are raised, each turn ends, no dispatch faults, and the invariant holds of the run's dispatches from the
-- first turn on. To be used of a kernel whose dispatches keep a property, by `invariants_hold` of proofs/InvariantsHold: no run is looked at then.
abbrev pub InvariantsHold : Type 1
InvariantsHold = (y : System) (u : CUnit) (n : ℕ) (Fit : Core → Type 0) (I : Property)
    → y.boot.meaning ≡ kernel_meaning u y.boot.params → Known y Fit → IsInvariant y n Fit I → (lines : ℕ → ℕ) → HasEight lines → (k : ℕ)
    → ((c : Cvm) × IsCvm y lines k c) × ((c : Cvm) → IsCvm y lines (suc k) c → Holds I (dispatches_of y lines n (suc k)) c)

-- of each run it is known that there are as many machines as users
abbrev pub HasUsers : System → Core → Type 0
HasUsers y c = length c.users ≡ length y.boot.users

-- a machine of 32 registers and of whole pages, no more than it may have
pub record UserShaped (most : ℕ) (f : Flat) : Type 0 where
  pub regs : length f.cpu.regs ≡ 32
  pub pages : pages_of f ≤ most
  pub whole : length f.words ≡ 1024 * pages_of f

-- and of one whose users are no larger than they may be, and whose input has room: so is each machine, and log and input have no more words than they
-- have room for
pub record Shaped (y : System) (c : Core) : Type 0 where
  pub count : length c.users ≡ length y.boot.users
  pub each : All (UserShaped y.boot.params.pages) c.users
  pub log : length c.console.log ≤ LOG_ROOM
  pub input : length c.console.input ≤ input_room

-- the parts of a system have room
pub record HasRoom (y : System) : Type 0 where
  pub users : All (λ words. length words ≤ 1024 * y.boot.params.pages) y.boot.users
  pub input : length y.input ≤ input_room

-- THE LAWS that the rule rests on, and what is known of each run: units don't matter, and units mean what a kernel may mean
pub record RunsAreLawful : Type 0 where
  pub same : UnitsDontMatter
  pub kernels : UnitsAreKernels
  pub counted : (y : System) (u : CUnit) → y.boot.meaning ≡ kernel_meaning u y.boot.params → Known y (HasUsers y)
  pub shaped : (y : System) (u : CUnit) → y.boot.meaning ≡ kernel_meaning u y.boot.params → HasRoom y → Known y (Shaped y)
