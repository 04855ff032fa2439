-- What each boot of the system with a mailbox prints: of the kernel with its text, a sender and a receiver of known messages, under every schedule.
use Rattle.std.specs.Prelude.{◌≡◌, ◌≢◌, ℕ, suc, pos, ◌+◌, ◌≤◌, List, [], ◌∷◌, ◌++◌, length, codes}
use Rattle.std.specs.Io.KnownBytes.{append_known}
use Rattle.schedule_file.specs.Rows.{Rows}
use Rattle.mips_table.specs.Device.{Environment}
use Rattle.mips_table.specs.Machine.{State, LOG_ROOM}
use Rattle.mips_table.specs.Turns.{lines_of_turn}
use Rattle.mips_table.specs.Flat.{Flat}
use Rattle.c0_meaning.specs.Value.{int, empty, part}
use Rattle.boot_turns.specs.declared.answers.View.TheVariants.{Boot}
use Rattle.cvm_model.specs.Cvm.{System, Halted, first_flat}
use Rattle.cvm_model.specs.Text.{rows_text, globals_text, log_text, users_text}
use Rattle.cvm_model.specs.Invariant.{HasUsers, dispatches_of}
use Rattle.run_bounds.specs.Steps.{steps_for}
use Rattle.kernel_linker.specs.Accept.{ImageSystem}
use Rattle.run_scripts.specs.declared.exit_status.Status.{Status}
use Rattle.run_scripts.specs.declared.exit_status.Status.TheVariants.{Done, KernelFault, Memory}
use Rattle.run_scripts.specs.declared.session.Session.{Session}
use Rattle.cvm_outside.specs.Outside.{Outside}
use Rattle.run_scripts.specs.Boot.{booted, environment_of, start_state, steps_before, IsHonest}
use Rattle.run_scripts.specs.CommandEnds.{Headlines}
use Rattle.kernel_boots.specs.Boots.{turns_made}
use Rattle.kernel_boots.specs.Systems.{AsksSystem, SystemShown}
use Rattle.mailing.specs.Text.{text as kernel_text}
use Rattle.mailing.specs.Users.{CallsInTurn, ended}
use Rattle.mailing.specs.Property.{Message, sends, receives, message_numbers, AreSmall, Mailing, IsCarried, turns_for, dispatches_for}

-- the report of the system once it has halted: the kernel's data, the messages' numbers in order, and these machines
abbrev pub report_of : (messages : List ℕ) → List Flat → List ℕ
report_of messages users =
    codes "halted\n" ++ (globals_text (codes "box" ∷ codes "waits" ∷ codes "over" ∷ []) (part (int (pos 0)) (part (int (pos 0)) (part (int (pos 3)) empty)))
    ++ log_text messages ++ users_text 1 users)

-- WHAT A RUN SHOWS of a sender and a receiver of these messages: the state where it stands has the invariant; what was sent was printed, once and in order, but
-- for three messages at most; its status is no kernel's fault; and under a schedule of so many `line` rows, with as many turns more as the steps of both users
-- and one, and with the steps of the machine for them, it is done, has halted, and printed at most a row for each trap, for each `line` row and for the start,
-- and then the report, in which the console has the messages in order and each user stands behind its end
pub record MailShown (x : Environment) (y : System) (s : State) (late raised turns steps : ℕ) (ms : List Message) (one two : ℕ) (f g : Flat) (status : Status)
    (text : List ℕ) : Type 0 where
  pub shown : SystemShown x y s late raised turns steps 200 (HasUsers y) (Mailing y ms one two f g) status text
  pub carried : (k : ℕ) → turns_made x s turns steps ≡ suc k → IsCarried (dispatches_of y (lines_of_turn x s) 200 (suc k)) shown.stands.state.core
  pub no_fault : status ≢ KernelFault
  pub halted : turns_for ms one two + raised ≤ turns → steps_for y (turns_for ms one two + raised) (dispatches_for ms + raised) 200 0 + late ≤ steps
      → (status ≡ Done) × (shown.stands.state.status ≡ Halted) × (length shown.stands.state.rows ≤ dispatches_for ms + raised)
      × (text ≡ rows_text shown.stands.state.rows ++ report_of (message_numbers ms) (ended f (sends ms) one ∷ ended g (receives ms) two ∷ []))

-- EACH BOOT of an image with the kernel's text and two such users shows this, under every schedule
abbrev pub AnyUsersMail : Type 0
AnyUsersMail = (sender receiver : List ℕ) (ms : List Message) (one two : ℕ) → CallsInTurn (first_flat sender) (sends ms) one
    → CallsInTurn (first_flat receiver) (receives ms) two
    → AreSmall ms → length ms ≤ LOG_ROOM
    → (words : List (List ℕ)) (status : Status) (old new : Outside) → Headlines words status old new
    → (session : Session) (s : ImageSystem) (rows : Rows) (before : List (List ℕ)) → (h : IsHonest words session s rows before old new)
    → status ≢ Memory → session.view ≡ Boot → AsksSystem kernel_text (sender ∷ receiver ∷ []) h.asked
    → (text : List ℕ) × (new.sink.text ≡ append_known old.sink.text text)
    × MailShown (environment_of rows old) (booted s rows) (start_state session s rows before) (steps_before session.start (booted s rows))
    (length rows.lines) session.turns session.steps
    ms one two (first_flat sender) (first_flat receiver) status text
