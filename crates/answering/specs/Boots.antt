-- What each boot of the answering system prints: of the kernel with this text, and two users that ask and end, under every schedule.
use Rattle.std.specs.Prelude.{◌≡◌, ◌≢◌, ℕ, ◌+◌, ◌^◌, ◌≤◌, ◌<◌, suc, pos, List, [], ◌∷◌, ◌++◌, length, codes}
use Rattle.std.specs.Io.KnownBytes.{append_known}
use Rattle.schedule_file.specs.Rows.{Rows}
use Rattle.mips_table.specs.Device.{Environment}
use Rattle.mips_table.specs.Machine.{State}
use Rattle.mips_table.specs.Flat.{Flat}
use Rattle.boot_turns.specs.declared.answers.View.TheVariants.{Boot}
use Rattle.cvm_model.specs.Cvm.{System, Halted, first_flat}
use Rattle.cvm_model.specs.Text.{rows_text, globals_text, log_text, users_text}
use Rattle.c0_meaning.specs.Value.{int, empty, part}
use Rattle.cvm_model.specs.Invariant.{HasUsers}
use Rattle.run_bounds.specs.Steps.{steps_for}
use Rattle.kernel_linker.specs.Accept.{ImageSystem}
use Rattle.run_scripts.specs.declared.exit_status.Status.{Status}
use Rattle.run_scripts.specs.declared.exit_status.Status.TheVariants.{Done, KernelFault, Memory}
use Rattle.run_scripts.specs.declared.session.Session.{Session}
use Rattle.cvm_outside.specs.Outside.{Outside}
use Rattle.run_scripts.specs.Boot.{booted, environment_of, start_state, steps_before, IsHonest}
use Rattle.run_scripts.specs.CommandEnds.{Headlines}
use Rattle.kernel_boots.specs.Systems.{AsksSystem, SystemShown}
use Rattle.kernel_theorems.specs.UserRuns.{after, AsksAndEnds, told}
use Rattle.answering.specs.Text.{text as kernel_text}
use Rattle.answering.specs.Property.{Answering}

-- the report of the system once it has halted, with this total and these machines: nothing was logged
abbrev pub report_of : (total : ℕ) → List Flat → List ℕ
report_of total users = codes "halted\n" ++ (globals_text (codes "total" ∷ []) (part (int (pos total)) empty) ++ log_text [] ++ users_text 1 users)

-- a user's machine behind its end
abbrev pub ended_by_trap : (steps rest answer : ℕ) → Flat → Flat
ended_by_trap steps rest answer f = after (suc rest) (told (after (suc steps) f) answer)

-- WHAT A RUN SHOWS of two users that ask with v and w, are answered by v and by the sum, and end: the state where it stands has the invariant; its status is no
-- kernel's fault; and under a schedule of so many `line` rows, with as many turns more as the users' steps and five, and with the steps of the machine for
-- them, it is done, has halted, and printed at most five rows more than there are `line` rows, and then the report, in which each user stands behind its end
pub record AnswersShown (x : Environment) (y : System) (s : State) (late raised turns steps a b c d v w : ℕ) (f g : Flat) (status : Status)
    (text : List ℕ) : Type 0 where
  pub shown : SystemShown x y s late raised turns steps 100 (HasUsers y) (Answering y a b c d v w f g) status text
  pub no_fault : status ≢ KernelFault
  pub halted : 5 + a + b + c + d + raised ≤ turns → steps_for y (5 + a + b + c + d + raised) (5 + raised) 100 0 + late ≤ steps
      → (status ≡ Done) × (shown.stands.state.status ≡ Halted) × (length shown.stands.state.rows ≤ 5 + raised)
      × (text ≡ rows_text shown.stands.state.rows ++ report_of (v + w) (ended_by_trap a b v f ∷ ended_by_trap c d (v + w) g ∷ []))

-- EACH BOOT of an image with the kernel's text and two such users shows this, under every schedule
abbrev pub AnyUsersAnswered : Type 0
AnyUsersAnswered = (one two : List ℕ) (a b c d v w : ℕ) → AsksAndEnds (first_flat one) a b v v → AsksAndEnds (first_flat two) c d w (v + w) → v + w < 2 ^ 31
    → (words : List (List ℕ)) (status : Status) (old new : Outside) → Headlines words status old new
    → (session : Session) (s : ImageSystem) (rows : Rows) (before : List (List ℕ)) → (h : IsHonest words session s rows before old new)
    → status ≢ Memory → session.view ≡ Boot → AsksSystem kernel_text (one ∷ two ∷ []) h.asked
    → (text : List ℕ) × (new.sink.text ≡ append_known old.sink.text text)
    × AnswersShown (environment_of rows old) (booted s rows) (start_state session s rows before) (steps_before session.start (booted s rows))
    (length rows.lines) session.turns session.steps
    a b c d v w (first_flat one) (first_flat two) status text
