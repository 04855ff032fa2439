-- What each boot of the summing system prints: of the kernel with this text, and the two users with these words, under every schedule.
use Rattle.std.specs.Prelude.{◌≡◌, ◌≢◌, ℕ, ◌+◌, ◌*◌, ◌^◌, ◌≤◌, ◌<◌, suc, pos, true, List, [], ◌∷◌, ◌++◌, length, codes}
use Rattle.std.specs.Io.KnownBytes.{append_known}
use Rattle.schedule_file.specs.Rows.{Rows, longest}
use Rattle.mips_table.specs.Device.{Environment}
use Rattle.mips_table.specs.Machine.{State}
use Rattle.mips_table.specs.Flat.{Flat}
use Rattle.boot_turns.specs.declared.answers.View.TheVariants.{Boot}
use Rattle.cvm_model.specs.Cvm.{System, Halted, first_flat}
use Rattle.cvm_model.specs.Text.{rows_text, globals_text, log_text, users_text}
use Rattle.c0_meaning.specs.Value.{int, bool, empty, part}
use Rattle.cvm_model.specs.Invariant.{HasUsers}
use Rattle.run_bounds.specs.Steps.{steps_for}
use Rattle.kernel_linker.specs.Accept.{ImageSystem}
use Rattle.run_scripts.specs.declared.exit_status.Status.{Status}
use Rattle.run_scripts.specs.declared.exit_status.Status.TheVariants.{Done, KernelFault, Memory}
use Rattle.run_scripts.specs.declared.session.Session.{Session}
use Rattle.cvm_outside.specs.Outside.{Outside}
use Rattle.run_scripts.specs.Boot.{booted, environment_of, start_state, steps_before, IsHonest}
use Rattle.run_scripts.specs.CommandEnds.{Headlines}
use Rattle.kernel_theorems.specs.Lines.{by_lines}
use Rattle.kernel_boots.specs.Systems.{AsksSystem, SystemShown}
use Rattle.summing.specs.Text.{text as kernel_text}
use Rattle.kernel_theorems.specs.UserRuns.{after, CallsAfter}
use Rattle.summing.specs.Property.{Sums}
use Rattle.summing.specs.Users.{user_one, user_two}

-- the report of the system once it has halted, with this total and these machines: nothing was logged
abbrev pub report_of : (total : ℕ) → List Flat → List ℕ
report_of total users =
    codes "halted\n" ++ (globals_text (codes "total" ∷ codes "done" ∷ []) (part (int (pos total)) (part (bool true) empty))
    ++ log_text [] ++ users_text 1 users)

-- WHAT A RUN SHOWS of two users that call after m and n steps with v and w: the state where it stands has the invariant; its status is no kernel's fault; and
-- under a schedule of so many `line` rows, with as many turns more as these steps and three, and with the steps of the machine for them, it is done, has
-- halted, and printed at most three rows more than there are `line` rows, and then the report, in which each user stands behind its call
pub record SumShown (x : Environment) (y : System) (s : State) (late raised turns steps m n v w : ℕ) (f g : Flat) (status : Status)
    (text : List ℕ) : Type 0 where
  pub shown : SystemShown x y s late raised turns steps 100 (HasUsers y) (Sums y m n v w f g) status text
  pub no_fault : status ≢ KernelFault
  pub halted : 3 + m + n + raised ≤ turns → steps_for y (3 + m + n + raised) (3 + raised) 100 0 + late ≤ steps
      → (status ≡ Done) × (shown.stands.state.status ≡ Halted) × (length shown.stands.state.rows ≤ 3 + raised)
      × (text ≡ rows_text shown.stands.state.rows ++ report_of (v + w) (after (suc m) f ∷ after (suc n) g ∷ []))

-- EACH BOOT of an image with the kernel's text and two users that call shows this, under every schedule, whatever else their programs are
abbrev pub AnyUsersSum : Type 0
AnyUsersSum = (one two : List ℕ) (m n v w : ℕ) → CallsAfter (first_flat one) m v → CallsAfter (first_flat two) n w → v + w < 2 ^ 31
    → (words : List (List ℕ)) (status : Status) (old new : Outside) → Headlines words status old new
    → (session : Session) (s : ImageSystem) (rows : Rows) (before : List (List ℕ)) → (h : IsHonest words session s rows before old new)
    → status ≢ Memory → session.view ≡ Boot → AsksSystem kernel_text (one ∷ two ∷ []) h.asked
    → (text : List ℕ) × (new.sink.text ≡ append_known old.sink.text text)
    × SumShown (environment_of rows old) (booted s rows) (start_state session s rows before) (steps_before session.start (booted s rows))
    (length rows.lines) session.turns session.steps
    m n v w (first_flat one) (first_flat two) status text

-- the report of the two users of specs/Users: the total is 30, and each user stands behind its call, with its count in register 4
abbrev pub report_lines : List (List ℕ)
report_lines =
    codes "halted"
    ∷ codes "global total 30"
    ∷ codes "global done true"
    ∷ codes "user 1 pages 1 pc 00000010"
    ∷ codes "reg 4 0000000a"
    ∷ codes "reg 5 0000000a"
    ∷ codes "mem 00000000 3405000a"
    ∷ codes "mem 00000004 24840001"
    ∷ codes "mem 00000008 1485fffe"
    ∷ codes "mem 0000000c 0000000c"
    ∷ codes "user 2 pages 1 pc 00000010"
    ∷ codes "reg 4 00000014"
    ∷ codes "reg 5 00000014"
    ∷ codes "mem 00000000 34050014"
    ∷ codes "mem 00000004 24840001"
    ∷ codes "mem 00000008 1485fffe"
    ∷ codes "mem 0000000c 0000000c" ∷ []

abbrev pub last_report : List ℕ
last_report = by_lines report_lines

-- THE NAMED SYSTEM: it shows this of its users, and its report is that one, letter by letter
pub record NamedSumShown (x : Environment) (y : System) (s : State) (late raised turns steps : ℕ) (status : Status) (text : List ℕ) : Type 0 where
  pub shows : SumShown x y s late raised turns steps 21 41 10 20 (first_flat user_one) (first_flat user_two) status text
  pub halted : 65 + raised ≤ turns → steps_for y (65 + raised) (3 + raised) 100 0 + late ≤ steps
      → (status ≡ Done) × (length shows.shown.stands.state.rows ≤ 3 + raised) × (text ≡ rows_text shows.shown.stands.state.rows ++ last_report)

-- EACH BOOT of an image with the kernel's text and these two users, under every schedule
abbrev pub SummingBoots : Type 0
SummingBoots = (words : List (List ℕ)) (status : Status) (old new : Outside) → Headlines words status old new
    → (session : Session) (s : ImageSystem) (rows : Rows) (before : List (List ℕ)) → (h : IsHonest words session s rows before old new)
    → status ≢ Memory → session.view ≡ Boot → AsksSystem kernel_text (user_one ∷ user_two ∷ []) h.asked
    → (text : List ℕ) × (new.sink.text ≡ append_known old.sink.text text)
    × NamedSumShown (environment_of rows old) (booted s rows) (start_state session s rows before) (steps_before session.start (booted s rows))
    (length rows.lines) session.turns session.steps status text

-- THE STEPS in numbers: with 4 pages for each user, 8 frames and no busy times, so many for L `line` rows, before those of a ROM
abbrev pub StepsAreFew : Type 0
StepsAreFew = (s : ImageSystem) (rows : Rows) (raised : ℕ) → s.params.pages ≡ 4 → s.params.frames ≡ 8 → length s.users ≡ 2 → longest rows ≡ 0
    → steps_for (booted s rows) (65 + raised) (3 + raised) 100 0 ≡ 26240369 + 462513 * raised
