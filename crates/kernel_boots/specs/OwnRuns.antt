-- Runs of a user that its kernel leaves alone: its machine and its journal are those of its own steps.
use Rattle.std.specs.Prelude.{◌≡◌, ℕ, zero, suc, ◌≤◌, List, [], ◌∷◌, length, Some}
use Rattle.mips_table.specs.Machine.{cause_number}
use Rattle.mips_table.specs.Flat.{Flat, VStep, Goes, Trap, vstep}
use Rattle.cvm_model.specs.Kernel.{JournalEntry, Stepped, Trapped}
use Rattle.cvm_model.specs.Primitives.{user_of}
use Rattle.cvm_model.specs.Cvm.{System, Cvm, first_core, cvm}
use Rattle.cvm_model.specs.Invariant.{machine_after}
use Rattle.cvm_model.specs.Journal.{KernelReplays, journal}
use Rattle.kernel_theorems.specs.UserRuns.{after}
use Rattle.called_primitives.specs.Kernels.{LeavesAlone}

-- how many steps of its own a user made: those in its journal, the trapped ones too
abbrev pub own_steps : List JournalEntry → ℕ
own_steps [] = 0
own_steps (Stepped ∷ rest) = suc (own_steps rest)
own_steps (Trapped cause edata ∷ rest) = suc (own_steps rest)
own_steps (other ∷ rest) = own_steps rest

-- the entry of a step
abbrev pub step_entry : VStep → JournalEntry
step_entry (Goes f) = Stepped
step_entry (Trap f cause edata) = Trapped (cause_number cause) edata

-- the journal of so many steps of a machine by itself
abbrev pub own_journal : ℕ → Flat → List JournalEntry
own_journal zero f = []
own_journal (suc n) f = step_entry (vstep f) ∷ own_journal n (machine_after (vstep f))

-- A LAW: over a kernel that leaves user u alone, whatever the other users and the lines are, its machine is `after` its own steps, and its journal that of them
pub record OwnRun (y : System) (lines : ℕ → ℕ) (n k u : ℕ) (c : Cvm) : Type 0 where
  pub steps : ℕ
  pub steps_are : steps ≡ own_steps (journal y lines n u k)
  pub machine : user_of c.core.users u ≡ after steps (user_of (first_core y).users u)
  pub entries : journal y lines n u k ≡ own_journal steps (user_of (first_core y).users u)

abbrev pub RunsAreOwn : Type 0
RunsAreOwn = (y : System) (lines : ℕ → ℕ) (n k u : ℕ) (c : Cvm) → KernelReplays y.boot.meaning → LeavesAlone y.boot.meaning u → 1 ≤ u → u ≤ length y.boot.users
    → cvm y lines n k ≡ Some c → OwnRun y lines n k u c
