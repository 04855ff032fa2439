-- The claim of a boot and of a trace: how the run of an accepted system ends, what is printed of it, and which sectors stand.
use Rattle.std.specs.Prelude.{◌≡◌, ℕ, ◌<◌, ◌≤◌, List, [], ◌∷◌, length, Option, Some, Ok}
use Rattle.std.specs.Io.KnownBytes.{append_known}
use Rattle.cvm_outside.specs.Told.{TOO_LONG}
use Rattle.schedule_file.specs.Rows.{Rows, longest}
use Rattle.schedule_file.specs.Schedule.{schedule_of}
use Rattle.boot_image.specs.Reading.{answer as image_of}
use Rattle.real_layer.specs.Image.{layer_image}
use Rattle.mips_table.specs.Device.{Environment}
use Rattle.mips_table.specs.Machine.{State}
use Rattle.mips_machine.specs.Steps.{outside_of}
use Rattle.mips_table.specs.Turns.{lines_of_turn}
use Rattle.cvm_model.specs.Cvm.{System, Cvm, IsCvm}
use Rattle.layer_contract.specs.Follows.{loaded}
use Rattle.layer_contract.specs.Starts.{user_sectors}
use Rattle.boot_turns.specs.declared.answers.View.TheVariants as view
use Rattle.boot_turns.specs.GoesOn.{GoesOnWithin}
use Rattle.boot_turns.specs.Rom.{own_rom, rom_loaded, rom_sectors, rom_steps}
use Rattle.boot_run.specs.declared.whole.RunEnd.{RunEnd}
use Rattle.boot_run.specs.RunEnds.{SeesUser}
use Rattle.kernel_linker.specs.Accept.{ImageSystem}
use Rattle.run_scripts.specs.declared.exit_status.Status.{Status}
use Rattle.run_scripts.specs.declared.session.Session.{Session}
use Rattle.run_scripts.specs.declared.session.StartPoint.{StartPoint}
use Rattle.run_scripts.specs.declared.session.StartPoint.TheVariants.{Loaded, Rom}
use Rattle.sample_maker.specs.Parts.{SampleParts as Sampled}
use Rattle.sample_maker.specs.Sample.{sample_of}
use Rattle.run_scripts.specs.Command.{BootCommand, Trace, Sample, IsBoot, IsTrace, IsSample, boot_session, trace_session, sample_session}
use Rattle.cvm_outside.specs.Outside.{Outside}
use Rattle.run_scripts.specs.RunStatus.{status_of_end}
use Rattle.run_scripts.specs.RanFrom.{RanFrom}
use Rattle.run_scripts.specs.Plan.{Accepts, IsLinkedTo, boot_of_image}
use Rattle.run_scripts.specs.Served.{NoCallFails}

-- the abstract run of an accepted system under a schedule
abbrev pub booted : ImageSystem → Rows → System
booted s rows = record { boot = boot_of_image s; input = rows.inputs; longest = longest rows }

-- what surrounds its machine: the schedule's lines and busy times, and the number of sectors
abbrev pub environment_of : Rows → Outside → Environment
environment_of rows old = outside_of rows old.disk.size

-- THE START of a run, over a disk with these sectors: the loaded machine; or the machine with the boot ROM that loads it
abbrev pub start_of : StartPoint → System → (sectors : List (List ℕ)) → State
start_of Loaded y sectors = loaded y sectors
start_of Rom y sectors = rom_loaded y (own_rom y) sectors

-- how many sectors a run uses: the users' pages; and for a ROM the linked words behind them
abbrev pub held_of : StartPoint → System → ℕ
held_of Loaded y = user_sectors y
held_of Rom y = rom_sectors y

-- how many steps it takes at most before the layer does: none; or those of the ROM
abbrev pub steps_before : StartPoint → System → ℕ
steps_before Loaded y = 0
steps_before Rom y = rom_steps y

-- where the run of a session starts, over a disk with these sectors, and how many sectors it uses
abbrev pub start_state : Session → ImageSystem → Rows → (sectors : List (List ℕ)) → State
start_state session s rows sectors = start_of session.start (booted s rows) sectors

abbrev pub sectors_needed : Session → ImageSystem → Rows → ℕ
sectors_needed session s rows = held_of session.start (booted s rows)

-- so many turns of the abstract run lead to this, with the lines that the machine meets from there
abbrev pub IsBooted : Session → Outside → ImageSystem → Rows → (sectors : List (List ℕ)) → (turns : ℕ) → Cvm → Type 0
IsBooted session old s rows sectors turns c = IsCvm (booted s rows) (lines_of_turn (environment_of rows old) (start_state session s rows sectors)) turns c

-- the machine comes to the end of every turn of the abstract run, within its bound and the steps before the layer's
abbrev pub SessionGoesOn : Session → Outside → ImageSystem → Rows → (sectors : List (List ℕ)) → Type 0
SessionGoesOn session old s rows sectors =
    GoesOnWithin (environment_of rows old) (booted s rows) (start_state session s rows sectors) (steps_before session.start (booted s rows))

-- with no failed call: sectors, ending and text are those of the machine and of the abstract run
abbrev pub SessionRan : Session → ImageSystem → Rows → Outside → (before after : List (List ℕ)) → RunEnd → (text : List ℕ) → Type 0
SessionRan session s rows old before after e text =
    RanFrom (environment_of rows old) (booted s rows) (start_state session s rows before) (sectors_needed session s rows) before after
    session.view session.turns session.steps e text

-- THE HEADLINE, of a run with no failed call: the sectors are those of the machine that runs the image's words, and status and text are those of
-- the abstract run of the image's own kernel, with each line at the turn where the machine met it
pub record Headline (session : Session) (s : ImageSystem) (rows : Rows) (before : List (List ℕ)) (old new : Outside) (status : Status) : Type 0 where
  pub after : List (List ℕ)
  pub text : List ℕ
  pub ending : RunEnd
  pub sectors : new.disk.sectors ≡ Some after
  pub printed : new.sink.text ≡ append_known old.sink.text text
  pub status_is : status ≡ status_of_end ending
  pub ran : SessionRan session s rows old before after ending text
  pub goes_on : SessionGoesOn session old s rows before

-- these files are an accepted image and a valid schedule
pub record AreFilesOf (file : List ℕ → Option (List ℕ)) (b : BootCommand) (s : ImageSystem) (rows : Rows) : Type 0 where
  pub image : List ℕ
  pub image_told : file b.image ≡ Some image
  pub image_short : length image < TOO_LONG
  pub accepted : Accepts layer_image (image_of image) (Ok s)
  pub schedule : List ℕ
  pub schedule_told : file b.schedule ≡ Some schedule
  pub schedule_short : length schedule < TOO_LONG
  pub valid : schedule_of schedule ≡ Ok rows

-- the parts of a sample are linked to an accepted image, and have a valid schedule
pub record ArePartsOf (parts : Sampled) (s : ImageSystem) (rows : Rows) : Type 0 where
  pub image : List ℕ
  pub linked : IsLinkedTo layer_image parts image
  pub accepted : Accepts layer_image (image_of image) (Ok s)
  pub valid : schedule_of parts.schedule ≡ Ok rows

-- THESE WORDS AND FILES ASK for this session of this system under this schedule: by a boot, by a trace, or by a sample
pub data AskFor (words : List (List ℕ)) (file : List ℕ → Option (List ℕ)) (session : Session) (s : ImageSystem) (rows : Rows) : Type 0 where
  by_boot : (b : BootCommand) → IsBoot words b → session ≡ boot_session b → AreFilesOf file b s rows → AskFor words file session s rows
  by_trace : (t : Trace) → IsTrace words t → session ≡ trace_session t → AreFilesOf file t.boot s rows → AskFor words file session s rows
  by_sample : (x : Sample) → IsSample words x → session ≡ sample_session → ArePartsOf (sample_of x.number) s rows → AskFor words file session s rows

-- the files that are got for it
abbrev pub files_needed : {words : List (List ℕ)} {file : List ℕ → Option (List ℕ)} {session : Session} {s : ImageSystem} {rows : Rows} →
    AskFor words file session s rows → List (List ℕ)
files_needed (by_boot b is same files) = b.image ∷ b.schedule ∷ []
files_needed (by_trace t is same files) = t.boot.image ∷ t.boot.schedule ∷ []
files_needed (by_sample x is same parts) = []

-- THE PREMISES of the headline: words and files that ask for a run, of a trace that of a user that there is; an honest disk with sectors enough; and no
-- call fails, for which a shelf is enough that surely gives IMAGE and SCHEDULE, with a sink and a disk that don't fail
pub record IsHonest (words : List (List ℕ)) (session : Session) (s : ImageSystem) (rows : Rows) (before : List (List ℕ)) (old new : Outside) : Type 0 where
  pub asked : AskFor words old.shelf.file session s rows
  pub user : SeesUser session.view (length s.users)
  pub sectors : old.disk.sectors ≡ Some before
  pub enough : sectors_needed session s rows ≤ old.disk.size
  pub served : NoCallFails (files_needed asked) old new
