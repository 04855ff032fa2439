-- What words and files ask for is their plan: an accepted image and a valid schedule ask for their boot, so do the parts of a sample, and with a file that is
-- taken up for a resume. And a stack which is enough is enough for each run.
use Rattle.std.specs.Prelude.{Option, Some, Ok, Result, nat_lt, if◌then◌else◌}
use Rattle.std.specs.Option.{IsSome}
use Rattle.std.proofs.Common.{◌≡◌, ℕ, ◌≤◌, Bool, true, false, List, refl, sym, ap, subst, arith}
use Rattle.std.proofs.lemmas.Bool.Decides.{nat_tests}
use Rattle.cvm_outside.specs.Told.{Tells}
use Rattle.schedule_file.specs.Rows.{Rows}
use Rattle.saved_file.specs.declared.fault.SaveFault.TheVariants.{SaveTooLarge as FileTooLarge}
use Rattle.boot_image.specs.Parts.{ImageParts as Image}
use Rattle.boot_image.specs.Format.{spelling as image_bytes}
use Rattle.boot_image.specs.Reading.{answer as image_of}
use Rattle.sample_maker.specs.Parts.{SampleParts as Sampled}
use Rattle.sample_maker.specs.Sample.{sample_of}
use Rattle.real_layer.specs.Image.{layer_image}
use Rattle.kernel_linker.specs.Accept.{ImageSystem}
use Rattle.kernel_linker.specs.declared.fault.LinkFault.{LinkFault}
use Rattle.boot_run.specs.SaveRoom.{FILE_ROOM}
use Rattle.run_scripts.specs.declared.session.Session.{Session}
use Rattle.run_scripts.specs.Command.{BootCommand, Save, Command, IsCommand, boot, trace, save, resume, sample, save_session}
use Rattle.run_scripts.specs.Refusal.{bad_save}
use Rattle.run_scripts.specs.Plan.{Plan, refuses, boots, saves, resumes, whole, by_command, scheduled_plan, saved_plan, taken_plan, most_bytes, Accepts, AfterLinking, BootPlan, PartsPlan, PlanComesTo, FilesAreTold, AllTold}
use Rattle.run_scripts.specs.Served.{files_of}
use Rattle.run_scripts.specs.Boot.{AreFilesOf, ArePartsOf, AskFor, by_boot, by_trace, by_sample}
use Rattle.cvm_outside.specs.Outside.{Outside}
use Rattle.run_scripts.specs.Saves.{IsHonestSave}
use Rattle.run_scripts.specs.Resumes.{IsHonestResume}
use Rattle.boot_turns.specs.Runs.{lines_met, turns_at, steps_made, cvm_at}
use Rattle.run_scripts.specs.SessionRuns.{run_of}
use Rattle.run_scripts.specs.Checks.{StackOutIsNotMet}
use Rattle.run_scripts.proofs.OneCommand.{one_command}

tells : (o : Option (List ℕ)) (bytes : List ℕ) → o ≡ Some bytes → Tells o bytes
tells o bytes e = subst (λ (x : Option (List ℕ)). Tells x bytes) (sym e) refl

is_told : (o : Option (List ℕ)) (bytes : List ℕ) → o ≡ Some bytes → IsSome o
is_told o bytes e = subst (λ (x : Option (List ℕ)). IsSome x) (sym e) refl

-- THE PLAN of an image and a schedule, in any session
comes_to_run : (file : List ℕ → Option (List ℕ)) (b : BootCommand) (session : Session) (s : ImageSystem) (rows : Rows) → AreFilesOf file b s rows → BootPlan layer_image file b session (boots session s rows)
comes_to_run file b session s rows h =
    whole h.image (boots session s rows) (tells (file b.image) h.image h.image_told) h.image_short
    (whole h.schedule (boots session s rows) (tells (file b.schedule) h.schedule h.schedule_told) h.schedule_short
    (Ok s, h.accepted, sym (ap (scheduled_plan session s) h.valid)))

gets_told : (file : List ℕ → Option (List ℕ)) (b : BootCommand) (s : ImageSystem) (rows : Rows) → AreFilesOf file b s rows → FilesAreTold file (files_of (boot b))
gets_told file b s rows h = (is_told _ h.image h.image_told, (is_told _ h.schedule h.schedule_told, tt))

all_told : (words : List (List ℕ)) (file : List ℕ → Option (List ℕ)) (c : Command) → IsCommand words c → FilesAreTold file (files_of c) → AllTold words file
all_told words file c is told d also = subst (λ (x : Command). FilesAreTold file (files_of x)) (one_command words c d is also) told

-- of the parts of a sample
parts_run : (session : Session) (parts : Sampled) (s : ImageSystem) (rows : Rows) → ArePartsOf parts s rows → PartsPlan layer_image session parts (boots session s rows)
parts_run session parts s rows h =
    let accepted : Accepts layer_image (image_of (image_bytes h.linked.image)) (Ok s) = subst (λ (bs : List ℕ). Accepts layer_image (image_of bs) (Ok s)) h.linked.spelled h.accepted in (
      Ok h.linked.unit,
      h.linked.typed,
      subst (λ (x : Result Image LinkFault). AfterLinking layer_image session parts.schedule x (boots session s rows)) (sym h.linked.linked)
          (Ok s, accepted, sym (ap (scheduled_plan session s) h.valid)),
    )

pub asked_plan : (words : List (List ℕ)) (file : List ℕ → Option (List ℕ)) (session : Session) (s : ImageSystem) (rows : Rows) → AskFor words file session s rows
    → PlanComesTo words file (boots session s rows) × AllTold words file
asked_plan words file session s rows (by_boot b is same files) = (
  by_command (boot b) (boots session s rows) is (subst (λ (x : Session). BootPlan layer_image file b x (boots session s rows)) same (comes_to_run file b session s rows files)),
  all_told words file (boot b) is (gets_told file b s rows files),
)
asked_plan words file session s rows (by_trace t is same files) = (
  by_command (trace t) (boots session s rows) is (subst (λ (x : Session). BootPlan layer_image file t.boot x (boots session s rows)) same (comes_to_run file t.boot session s rows files)),
  all_told words file (trace t) is (gets_told file t.boot s rows files),
)
asked_plan words file session s rows (by_sample x is same parts) = (
  by_command (sample x) (boots session s rows) is (subst (λ (y : Session). PartsPlan layer_image y (sample_of x.number) (boots session s rows)) same (parts_run session (sample_of x.number) s rows parts)),
  all_told words file (sample x) is tt,
)

-- of a save, whose file isn't too long
not_below : (n m : ℕ) → m ≤ n → nat_lt n m ≡ false
not_below n m h = grind (arith, nat_tests)

not_chosen : (b : Bool) (p q : Plan) → b ≡ false → (if b then p else q) ≡ q
not_chosen true p q e = absurd cc
not_chosen false p q e = refl

pub short_plan : (session : Session) (s : ImageSystem) (rows : Rows) (name : List ℕ) → most_bytes s ≤ FILE_ROOM → saved_plan name (boots session s rows) ≡ saves session s rows name
short_plan session s rows name few =
    not_chosen (nat_lt FILE_ROOM (most_bytes s)) (refuses (bad_save (FileTooLarge (most_bytes s)))) (saves session s rows name) (not_below FILE_ROOM (most_bytes s) few)

pub asked_save : (words : List (List ℕ)) (c : Save) (s : ImageSystem) (rows : Rows) (before : List (List ℕ)) (old new : Outside) → IsHonestSave words c s rows before old new
    → PlanComesTo words old.shelf.file (saves (save_session c) s rows c.file) × AllTold words old.shelf.file
asked_save words c s rows before old new h = (
  by_command (save c) (saves (save_session c) s rows c.file) h.asked
      (boots (save_session c) s rows, comes_to_run old.shelf.file c.boot (save_session c) s rows h.files, sym (short_plan (save_session c) s rows c.file h.short)),
  all_told words old.shelf.file (save c) h.asked (gets_told old.shelf.file c.boot s rows h.files),
)

-- and of a resume
pub asked_resume : (words : List (List ℕ)) (c : Save) (s : ImageSystem) (rows : Rows) (machine : List ℕ) (left : List (List ℕ)) (old new : Outside) → IsHonestResume words c s rows machine left old new
    → PlanComesTo words old.shelf.file (resumes (save_session c) s rows machine) × AllTold words old.shelf.file
asked_resume words c s rows machine left old new h =
    let files : FilesAreTold old.shelf.file (files_of (resume c)) = (is_told _ h.files.image h.files.image_told, (is_told _ h.files.schedule h.files.schedule_told, (is_told _ h.bytes h.bytes_told, tt))) in (
      by_command (resume c) (resumes (save_session c) s rows machine) h.asked
          (whole h.files.image (resumes (save_session c) s rows machine) (tells (old.shelf.file c.boot.image) h.files.image h.files.image_told) h.files.image_short
          (whole h.files.schedule (resumes (save_session c) s rows machine) (tells (old.shelf.file c.boot.schedule) h.files.schedule h.files.schedule_told) h.files.schedule_short
          (whole h.bytes (resumes (save_session c) s rows machine) (tells (old.shelf.file c.file) h.bytes h.bytes_told) h.bytes_short
          (boots (save_session c) s rows, (Ok s, h.files.accepted, sym (ap (scheduled_plan (save_session c) s) h.files.valid)), sym (ap (taken_plan (save_session c) s rows) h.fits))))),
      all_told words old.shelf.file (resume c) h.asked files,
    )

pub stack_out_is_not_met : StackOutIsNotMet
stack_out_is_not_met s never session rows size before p is =
    let r = run_of session s rows size before in
    never rows (lines_met (run_of session s rows size before)) (turns_at (run_of session s rows size before) (steps_made (run_of session s rows size before)))
    (cvm_at (run_of session s rows size before) p (steps_made (run_of session s rows size before)))
    (is.turns (turns_at (run_of session s rows size before) (steps_made (run_of session s rows size before))) (omega arith))
