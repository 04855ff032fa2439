-- What is proved of the kernel semaphore, by what its users find: a user asks to be let in by a system call of code 0, is let in where it then finds 1 in
-- its register 2, and is inside until it says by a system call of code 1 that it leaves. At most one is inside.
use Rattle.std.specs.Prelude.{◌≡◌, ◌≤◌, ◌==◌, ◌&&◌, ◌||◌, if◌then◌else◌, ℕ, suc, ℤ, pos, Bool, true, false, List, [], length}
use Rattle.std.specs.Ordering.{int_eq}
use Rattle.mips_table.specs.Arith.{signed}
use Rattle.c0_meaning.specs.Value.{int, group, empty, part}
use Rattle.c0_meaning.specs.State.{C0State}
use Rattle.cvm_model.specs.KernelMeaning.{kernel_meaning}
use Rattle.cvm_model.specs.Primitives.{user_of}
use Rattle.cvm_model.specs.Cvm.{System, Cvm, IsCvm}
use Rattle.cvm_model.specs.Invariant.{Dispatch, dispatches_of, HasEight, HasRoom, Holds}
use Rattle.kernel_theorems.specs.Registers.{int_held, is_call_of}
use Rattle.kernel_theorems.specs.History.{EachHas, told_by}
use Rattle.kernel_theorems.specs.SemaphoreTree.{semaphore}

-- the values in its data
pub record Data : Type 0 where
  pub owner : ℤ

-- its data between dispatches, and at the start
abbrev pub data_of : Data → C0State
data_of x = record { global_values = group (part (int x.owner) empty); heap_values = group empty; heap_words = 0; frames = [] }

abbrev pub first : Data
first = record { owner = pos 0 }

-- a user asks to be let in: it calls with the word 0000000c; it says that it leaves: with the word 0000004c
abbrev pub asks : ℕ → Dispatch → Bool
asks user d = is_call_of user d && int_eq (signed d.edata) (pos 12)

abbrev pub leaves : ℕ → Dispatch → Bool
leaves user d = is_call_of user d && int_eq (signed d.edata) (pos 76)

-- whether a user is inside after a dispatch, where it was so before: one that asked is let in where it finds 1 in its register 2
abbrev pub inside_after : ℕ → Bool → Dispatch → Bool
inside_after user was d = if asks user d then (int_eq (int_held d.after user 2) (pos 1) || was) else (if leaves user d then false else was)

-- WHETHER A USER IS INSIDE after these dispatches; nobody is at the start
abbrev pub inside : ℕ → List Dispatch → Bool
inside user past = told_by (inside_after user) false past

-- no two users are inside
abbrev pub AtMostOne : List Dispatch → Type 0
AtMostOne past = (u v : ℕ) → 1 ≤ u → 1 ≤ v → inside u past ≡ true → inside v past ≡ true → u ≡ v

-- A CALL IS ANSWERED: one that asks finds 1 where nobody is inside, and 0 where somebody is; all other users keep their machines
pub record IsAnswered (past : List Dispatch) (d : Dispatch) : Type 0 where
  pub free : (u : ℕ) → 1 ≤ u → asks u d ≡ true → ((v : ℕ) → 1 ≤ v → inside v past ≡ false) → int_held d.after u 2 ≡ pos 1
  pub taken : (u v : ℕ) → 1 ≤ u → 1 ≤ v → asks u d ≡ true → inside v past ≡ true → int_held d.after u 2 ≡ pos 0
  pub others : (u : ℕ) → 1 ≤ u → is_call_of u d ≡ false → user_of d.after.users u ≡ user_of d.before.users u

-- WHAT IS SO between dispatches: at most one user is inside, each call was answered, and the kernel's owner is who is inside
pub record Between (past : List Dispatch) (s : C0State) (current : ℕ) : Type 0 where
  pub values : Data
  pub data_is : s ≡ data_of values
  pub who : ℕ
  pub held : values.owner ≡ pos who
  pub inside_is : (u : ℕ) → 1 ≤ u → inside u past ≡ (who == u)
  pub one : AtMostOne past
  pub answered : EachHas IsAnswered [] past

-- a system of this kernel: it has three users, no larger than they may be, and its stack has the words that the longest chain of calls needs
pub record Runs (y : System) : Type 0 where
  pub meaning_is : y.boot.meaning ≡ kernel_meaning semaphore y.boot.params
  pub three : length y.boot.users ≡ 3
  pub fit : HasRoom y
  pub room : 9 ≤ y.boot.params.stack

-- THE THEOREM: whatever the users do, whatever lines are raised, each turn ends, no dispatch faults, and this is so from the first turn on
abbrev pub AtMostOneIsInside : Type 0
AtMostOneIsInside = (y : System) → Runs y → (lines : ℕ → ℕ) → HasEight lines → (k : ℕ)
    → ((c : Cvm) × IsCvm y lines k c) × ((c : Cvm) → IsCvm y lines (suc k) c → Holds Between (dispatches_of y lines 400 (suc k)) c)
