-- When a kernel answers a user that runs a program: by the dispatches of a run. So the user's journal is one of events, and its trace is answered.
use Rattle.std.specs.Prelude.{◌≡◌, ◌⊎◌, ℕ, List, [], ◌∷◌}
use Rattle.schedule_file.specs.Rows.{Rows}
use Rattle.cvm_model.specs.Kernel.{JournalEntry, Set}
use Rattle.cvm_model.specs.Cvm.{System, dispatch_of}
use Rattle.cvm_model.specs.Invariant.{Dispatch, dispatches_of}
use Rattle.cvm_model.specs.Journal.{changes_of, journal}
use Rattle.kernel_linker.specs.Accept.{ImageSystem}
use Rattle.user_c0.specs.Events.{SYSCALL, CALL_CAUSE, Event, journal_of, IsAnsweredJournal}
use Rattle.run_scripts.specs.declared.exit_status.Status.{Status}
use Rattle.run_scripts.specs.declared.session.Session.{Session}
use Rattle.cvm_outside.specs.Outside.{Outside}
use Rattle.run_scripts.specs.Boot.{booted, IsHonest}
use Rattle.run_scripts.specs.Isolation.{IsolatedTrace, session_lines}

-- what a dispatch changes of its caller: nothing, or register 2, once
abbrev pub IsReply : List JournalEntry → Type 0
IsReply j = (j ≡ []) ⊎ ((x : ℕ) × (j ≡ Set 2 x ∷ []))

-- what a dispatch changes of user u, with n units
abbrev pub changed_by : System → (n u : ℕ) → Dispatch → List JournalEntry
changed_by y n u d = changes_of u (dispatch_of y n d.cause d.edata d.before).calls

-- A DISPATCH ANSWERS user u: where this user calls it sets nothing of it but register 2, once at most; and else it changes nothing of it
pub record Answers (y : System) (n u : ℕ) (d : Dispatch) : Type 0 where
  pub calls : d.before.current ≡ u → d.cause ≡ SYSCALL → d.edata ≡ CALL_CAUSE → IsReply (changed_by y n u d)
  pub others : (d.before.current ≡ u → d.cause ≡ SYSCALL → d.edata ≡ CALL_CAUSE → ⊥) → changed_by y n u d ≡ []

-- each of these does
abbrev pub AnswersUser : System → (n u : ℕ) → List Dispatch → Type 0
AnswersUser y n u [] = Unit {0}
AnswersUser y n u (d ∷ rest) = Answers y n u d × AnswersUser y n u rest

-- A LAW: where each dispatch of a run answers a user, its journal is that of events; so its trace is answered, as `booted_programs_run` asks
pub record KernelsAnswer : Type 0 where
  pub journals : (y : System) (n u : ℕ) (lines : ℕ → ℕ) (k : ℕ) → AnswersUser y n u (dispatches_of y lines n k) → (es : List Event)
      × (journal y lines n u k ≡ journal_of es)
  pub traces : (words : List (List ℕ)) (session : Session) (u : ℕ) (s : ImageSystem) (rows : Rows) (before : List (List ℕ))
      (old new : Outside) (status : Status)
      → IsHonest words session s rows before old new → (a : IsolatedTrace session u s rows before old new status)
      → AnswersUser (booted s rows) a.units u (dispatches_of (booted s rows) (session_lines session s rows old before) a.units a.turns)
      → IsAnsweredJournal a.entries
