-- What each boot of the system alternating prints: of the kernel with this text and these users, under every schedule.
use Rattle.std.specs.Prelude.{◌≡◌, ◌≢◌, ℕ, ◌+◌, ◌≤◌, List, [], ◌∷◌, ◌++◌, length, codes}
use Rattle.std.specs.Io.KnownBytes.{append_known}
use Rattle.schedule_file.specs.Rows.{Rows}
use Rattle.mips_table.specs.Device.{Environment}
use Rattle.mips_table.specs.Machine.{State}
use Rattle.boot_turns.specs.declared.answers.View.TheVariants.{Boot}
use Rattle.cvm_model.specs.Cvm.{System}
use Rattle.cvm_model.specs.Text.{rows_text}
use Rattle.cvm_model.specs.Invariant.{HasUsers}
use Rattle.run_bounds.specs.Steps.{steps_for}
use Rattle.kernel_linker.specs.Accept.{ImageSystem}
use Rattle.run_scripts.specs.declared.exit_status.Status.{Status}
use Rattle.run_scripts.specs.declared.exit_status.Status.TheVariants.{Done, KernelFault, Memory}
use Rattle.run_scripts.specs.declared.session.Session.{Session}
use Rattle.cvm_outside.specs.Outside.{Outside}
use Rattle.run_scripts.specs.Boot.{booted, environment_of, start_state, steps_before, IsHonest}
use Rattle.run_scripts.specs.CommandEnds.{Headlines}
use Rattle.kernel_theorems.specs.Lines.{by_lines}
use Rattle.kernel_boots.specs.Systems.{AsksSystem, SystemShown}
use Rattle.alternating.specs.Text.{text as kernel_text}
use Rattle.alternating.specs.Users.{user_1, user_2}
use Rattle.alternating.specs.Property.{Alternating}

-- the report of the system once it has halted: six calls, the numbers 1 to 6 in the log, and each user behind its third call, with what it brought in register
-- 4
abbrev pub report_lines : List (List ℕ)
report_lines =
    codes "halted"
    ∷ codes "global calls 6"
    ∷ codes "con 00000001"
    ∷ codes "con 00000002"
    ∷ codes "con 00000003"
    ∷ codes "con 00000004"
    ∷ codes "con 00000005"
    ∷ codes "con 00000006"
    ∷ codes "user 1 pages 1 pc 00000008"
    ∷ codes "reg 4 00000005"
    ∷ codes "mem 00000000 34040001"
    ∷ codes "mem 00000004 0000000c"
    ∷ codes "mem 00000008 24840002"
    ∷ codes "mem 0000000c 1000fffd"
    ∷ codes "user 2 pages 1 pc 00000008"
    ∷ codes "reg 4 00000006"
    ∷ codes "mem 00000000 34040002"
    ∷ codes "mem 00000004 0000000c"
    ∷ codes "mem 00000008 24840002"
    ∷ codes "mem 0000000c 1000fffd" ∷ []

-- WHAT A RUN SHOWS: the state where it stands is such; its status is no kernel's fault; and under a schedule of so many `line` rows, with 17 turns and as many
-- more as these, and with the steps of the machine for them, it is done, has halted, and printed at most 7 rows and as many more, and then that report
pub record AlternatingShown (x : Environment) (y : System) (s : State) (late raised turns steps : ℕ) (status : Status) (text : List ℕ) : Type 0 where
  pub shown : SystemShown x y s late raised turns steps 300 (HasUsers y) (Alternating y) status text
  pub no_fault : status ≢ KernelFault
  pub halted : 17 + raised ≤ turns → steps_for y (17 + raised) (7 + raised) 300 0 + late ≤ steps
      → (status ≡ Done) × (length shown.stands.state.rows ≤ 7 + raised) × (text ≡ rows_text shown.stands.state.rows ++ by_lines report_lines)

-- EACH BOOT of an image with the kernel's text and these users shows this, under every schedule
abbrev pub AlternatingBoots : Type 0
AlternatingBoots = (words : List (List ℕ)) (status : Status) (old new : Outside) → Headlines words status old new
    → (session : Session) (s : ImageSystem) (rows : Rows) (before : List (List ℕ)) → (h : IsHonest words session s rows before old new)
    → status ≢ Memory → session.view ≡ Boot → AsksSystem kernel_text (user_1 ∷ user_2 ∷ []) h.asked
    → (text : List ℕ) × (new.sink.text ≡ append_known old.sink.text text)
    × AlternatingShown (environment_of rows old) (booted s rows) (start_state session s rows before) (steps_before session.start (booted s rows))
    (length rows.lines) session.turns session.steps status text
