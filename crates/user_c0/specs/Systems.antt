-- A user that runs a compiled program in a system: where the system's run has brought it.
use Rattle.std.specs.Prelude.{◌≡◌, ℕ, ◌-◌, ◌≤◌, List, [], length, Some, slice_get, IsTrue}
use Rattle.std.specs.List.{list_all}
use Rattle.c0_tree.specs.Tree.{CUnit}
use Rattle.cvm_model.specs.Primitives.{user_of}
use Rattle.cvm_model.specs.Cvm.{System, Cvm, first_core, cvm}
use Rattle.cvm_model.specs.Kernel.{JournalEntry}
use Rattle.cvm_model.specs.JournalWords.{holds_word, IsOrdinary}
use Rattle.cvm_model.specs.Journal.{journal, KernelReplays}
use Rattle.user_c0.specs.Image.{image_words}
use Rattle.user_c0.specs.Events.{Event, journal_of, IsAnsweredJournal}
use Rattle.user_c0.specs.Users.{UserHasCome}

-- the words of user n, counted from 1, are the image of a program
abbrev pub RunsProgram : System → ℕ → CUnit → Type 0
RunsProgram y n u = slice_get y.boot.users (n - 1) ≡ Some (image_words u)

-- A LAW: so it starts, and where each of its calls is answered so far it has come to where its journal says, whatever the kernel, the other users and the
-- lines are
pub record UsersCome : Type 0 where
  pub first : (y : System) (n : ℕ) (u : CUnit) → RunsProgram y n u → UserHasCome u [] (user_of (first_core y).users n)
  pub come : (y : System) (lines : ℕ → ℕ) (units turns n : ℕ) (c : Cvm) (u : CUnit) → KernelReplays y.boot.meaning → 1 ≤ n
      → n ≤ length y.boot.users → RunsProgram y n u
      → cvm y lines units turns ≡ Some c → (a : IsAnsweredJournal (journal y lines units n turns)) → UserHasCome u a.events (user_of c.core.users n)

-- A LAW: a journal that is made of steps, calls with what they were answered, and other traps is answered where registers are set to words; and so it is in
-- each run of a system. So whether a kernel answers a user says the form of the user's journal alone.
pub record JournalsAreAnswered : Type 0 where
  pub answered : (j : List JournalEntry) (es : List Event) → j ≡ journal_of es → IsTrue (list_all holds_word j) → IsAnsweredJournal j
  pub in_runs : (y : System) (kernel : CUnit) → IsOrdinary y kernel → (lines : ℕ → ℕ) (units turns n : ℕ) (es : List Event)
      → journal y lines units n turns ≡ journal_of es
      → IsAnsweredJournal (journal y lines units n turns)
