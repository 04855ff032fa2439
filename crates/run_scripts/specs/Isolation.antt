-- Isolation: what a trace prints of a user, once its turns are complete, is a function of the user's own start machine, of its journal, and of how the
-- run ended. The kernel, the other users, the schedule and the disk come in by the journal alone.
use Rattle.std.specs.Prelude.{◌≡◌, ℕ, true, List, Option, Some}
use Rattle.std.specs.Option.{option_map}
use Rattle.std.specs.Io.KnownBytes.{append_known}
use Rattle.mips_table.specs.Flat.{Flat}
use Rattle.mips_table.specs.Turns.{complete, lines_of_turn, end_within}
use Rattle.schedule_file.specs.Rows.{Rows}
use Rattle.cvm_model.specs.Kernel.{JournalEntry}
use Rattle.cvm_model.specs.Cvm.{Cvm, Status as CvmStatus, cvm}
use Rattle.cvm_model.specs.Journal.{journal, replay}
use Rattle.cvm_model.specs.Text.{trace_text}
use Rattle.boot_turns.specs.TurnEnds.{first_user_machine}
use Rattle.boot_run.specs.RunCalls.{end_by}
use Rattle.kernel_linker.specs.Accept.{ImageSystem}
use Rattle.run_scripts.specs.declared.exit_status.Status.{Status}
use Rattle.run_scripts.specs.declared.session.Session.{Session}
use Rattle.cvm_outside.specs.Outside.{Outside}
use Rattle.run_scripts.specs.Boot.{booted, environment_of, start_state}
use Rattle.run_scripts.specs.RunStatus.{status_of_end}

-- THE TEXT of a user's journal over its start machine: the start row, the journal's rows, and `halted` or `stopped` with the rows of the machine that the
-- replay of the journal over the start machine gives; or the kernel's fault. It is there where the journal can be replayed
abbrev pub replayed_text : (u : ℕ) → (first : Flat) → List JournalEntry → CvmStatus → Option (List ℕ)
replayed_text u first j status = option_map (λ last. trace_text u first j last status) (replay first j)

-- how many turns are complete where the run of a session ends
abbrev pub session_turns : Session → ImageSystem → Rows → Outside → (before : List (List ℕ)) → ℕ
session_turns session s rows old before =
    let first = start_state session s rows before in complete (environment_of rows old) first
    (end_within (environment_of rows old) first session.turns session.steps)

-- the lines of each of its turns
abbrev pub session_lines : Session → ImageSystem → Rows → Outside → (before : List (List ℕ)) → ℕ → ℕ
session_lines session s rows old before = lines_of_turn (environment_of rows old) (start_state session s rows before)

-- WHAT IS PRINTED of user u is that text, of its journal over the complete turns
pub record IsolatedTrace (session : Session) (u : ℕ) (s : ImageSystem) (rows : Rows) (before : List (List ℕ)) (old new : Outside) (status : Status) :
    Type 0 where
  pub units : ℕ
  pub turns : ℕ
  pub last : Cvm
  pub entries : List JournalEntry
  pub text : List ℕ
  pub turns_are : turns ≡ session_turns session s rows old before
  pub run : cvm (booted s rows) (session_lines session s rows old before) units turns ≡ Some last
  pub status_is : status ≡ status_of_end (end_by true last.status)
  pub entries_are : entries ≡ journal (booted s rows) (session_lines session s rows old before) units u turns
  pub text_is : replayed_text u (first_user_machine (booted s rows) u) entries last.status ≡ Some text
  pub printed : new.sink.text ≡ append_known old.sink.text text

-- TWO TEXTS TELL THE SAME of user u: the start row and the rows of one journal, and the rows of one machine behind `halted` or `stopped`. Only which of
-- these words, or which `fault NAME` in place of word and machine, may differ, as the runs ended; where they ended alike, the texts are the same
pub record TellTheSame (u : ℕ) (first : Flat) (entries : List JournalEntry) (status : CvmStatus) (text : List ℕ) (ended : CvmStatus)
    (other : List ℕ) : Type 0 where
  pub last : Flat
  pub replayed : replay first entries ≡ Some last
  pub text_is : text ≡ trace_text u first entries last status
  pub other_is : other ≡ trace_text u first entries last ended
  pub alike : status ≡ ended → text ≡ other

-- A LAW: two traces of a user that starts alike and has the same journal tell the same of it, whatever else is in the two systems, their schedules and disks
abbrev pub EqualJournalsTellTheSame : Type 0
EqualJournalsTellTheSame = (session another : Session) (u : ℕ) (s r : ImageSystem) (rows inputs : Rows) (before present : List (List ℕ))
    (old new past now : Outside) (status ended : Status)
    (a : IsolatedTrace session u s rows before old new status) (b : IsolatedTrace another u r inputs present past now ended) →
    first_user_machine (booted s rows) u ≡ first_user_machine (booted r inputs) u → a.entries ≡ b.entries
    → TellTheSame u (first_user_machine (booted s rows) u) a.entries a.last.status a.text b.last.status b.text
