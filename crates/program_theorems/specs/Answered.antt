-- When a user's trace is answered: whether it is says the form of its journal alone, since what a kernel sets a register to is a word.
use Rattle.std.specs.Prelude.{◌≡◌, ℕ, List}
use Rattle.schedule_file.specs.Rows.{Rows}
use Rattle.kernel_linker.specs.Accept.{ImageSystem}
use Rattle.cvm_model.specs.JournalWords.{IsOrdinary}
use Rattle.user_c0.specs.Events.{Event, journal_of, IsAnsweredJournal}
use Rattle.run_scripts.specs.declared.exit_status.Status.{Status}
use Rattle.run_scripts.specs.declared.session.Session.{Session}
use Rattle.cvm_outside.specs.Outside.{Outside}
use Rattle.run_scripts.specs.Boot.{booted, IsHonest}
use Rattle.run_scripts.specs.Isolation.{IsolatedTrace}

-- A LAW: each system that is run is ordinary: its kernel is a checked unit, its parameters are in range, its users are few, and they and its input have room
abbrev pub BootedAreOrdinary : Type 0
BootedAreOrdinary = (words : List (List ℕ)) (session : Session) (s : ImageSystem) (rows : Rows) (before : List (List ℕ)) (old new : Outside)
    → IsHonest words session s rows before old new
    → IsOrdinary (booted s rows) s.unit

-- A LAW: so a trace whose journal is made of steps, calls with what they were answered, and other traps is answered
abbrev pub TracesAreAnswered : Type 0
TracesAreAnswered = (words : List (List ℕ)) (session : Session) (u : ℕ) (s : ImageSystem) (rows : Rows) (before : List (List ℕ))
    (old new : Outside) (status : Status)
    → IsHonest words session s rows before old new → (a : IsolatedTrace session u s rows before old new status) → (es : List Event) → a.entries ≡ journal_of es
    → IsAnsweredJournal a.entries
