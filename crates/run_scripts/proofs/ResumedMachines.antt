-- What a resume's words and files come to: the machine that it goes on with is what the bytes of its file are read as.
use Rattle.std.specs.Prelude.{Option, Some, Result, Ok, Err}
use Rattle.std.proofs.Common.{◌≡◌, ◌≢◌, ℕ, List, refl, sym, subst}
use Rattle.cvm_outside.specs.Told.{Tells}
use Rattle.kernel_linker.specs.Accept.{ImageSystem}
use Rattle.kernel_linker.specs.declared.fault.AcceptFault.{AcceptFault}
use Rattle.real_layer.specs.Image.{layer_image}
use Rattle.saved_file.specs.Answer.{answer as machine_of}
use Rattle.saved_file.specs.declared.fault.SaveFault.{SaveFault}
use Rattle.schedule_file.specs.Rows.{Rows}
use Rattle.schedule_file.specs.Schedule.{schedule_of}
use Rattle.schedule_file.specs.declared.fault.ScheduleFault.{ScheduleFault}
use Rattle.boot_run.specs.SavedFiles.{wanted_of}
use Rattle.run_scripts.specs.declared.session.Session.{Session}
use Rattle.run_scripts.specs.Command.{Save, IsResume, resume, save_session}
use Rattle.run_scripts.specs.Plan.{Plan, refuses, resumes, Got, long, whole, AfterFiles, AfterThree, accepted_plan, taken_plan, take_up_plan, PlanComesTo, boot_of_image}
use Rattle.run_scripts.specs.Refusal.{too_long}
use Rattle.run_scripts.proofs.OneCommand.{its_plan}

-- ITS MACHINE is what these bytes are read as
abbrev IsRead : List ℕ → Plan → Type 0
IsRead bytes (resumes session s rows machine) = machine_of (wanted_of (boot_of_image s) rows.inputs session.turns) bytes ≡ Ok machine
IsRead bytes other = Unit {0}

of_bytes : (bytes : List ℕ) (session : Session) (s : ImageSystem) (rows : Rows) (r : Result (List ℕ) SaveFault) → machine_of (wanted_of (boot_of_image s) rows.inputs session.turns) bytes ≡ r →
    IsRead bytes (taken_plan session s rows r)
of_bytes bytes session s rows (Ok machine) e = e
of_bytes bytes session s rows (Err f) e = tt

of_accepted : (bytes : List ℕ) (session : Session) (v : Result Rows ScheduleFault) (a : Result ImageSystem AcceptFault) → IsRead bytes (take_up_plan bytes (accepted_plan session v a))
of_accepted bytes session (Ok rows) (Ok s) = of_bytes bytes session s rows (machine_of (wanted_of (boot_of_image s) rows.inputs session.turns) bytes) refl
of_accepted bytes session (Err f) (Ok s) = tt
of_accepted bytes session v (Err f) = tt

of_three : (session : Session) (image schedule bytes : List ℕ) (p : Plan) → AfterThree layer_image session image schedule bytes p → IsRead bytes p
of_three session image schedule bytes p w =
    subst (IsRead bytes) (sym w.2) (of_files w.0 w.1)
  where
    of_files : (q : Plan) → AfterFiles layer_image session image schedule q → IsRead bytes (take_up_plan bytes q)
    of_files q g = subst (λ (x : Plan). IsRead bytes (take_up_plan bytes x)) (sym g.2) (of_accepted bytes session (schedule_of schedule) g.0)

got : (told : Option (List ℕ)) (next : List ℕ → Plan → Type 0) (p : Plan) → refuses too_long ≢ p → Got told next p → (bytes : List ℕ) × Tells told bytes × next bytes p
got told next p other (long bytes t l) = absurd (other refl)
got told next p other (whole bytes _ t l n) = (bytes, t, n)

no_refusal : (session : Session) (s : ImageSystem) (rows : Rows) (machine : List ℕ) → refuses too_long ≢ resumes session s rows machine
no_refusal session s rows machine e = cc

pub machine_is_read : (words : List (List ℕ)) (file : List ℕ → Option (List ℕ)) (d : Save) (s : ImageSystem) (rows : Rows) (machine bytes : List ℕ) → IsResume words d →
    PlanComesTo words file (resumes (save_session d) s rows machine) → file d.file ≡ Some bytes → machine_of (wanted_of (boot_of_image s) rows.inputs d.boot.turns) bytes ≡ Ok machine
machine_is_read words file d s rows machine bytes is comes told =
    let p : Plan = resumes (save_session d) s rows machine in
    let other = no_refusal (save_session d) s rows machine in
    let image = got (file d.boot.image) _ p other (its_plan words file (resume d) p is comes) in
    let schedule = got (file d.boot.schedule) _ p other image.2 in
    let saved = got (file d.file) _ p other schedule.2 in
    let same : saved.0 ≡ bytes = subst (λ (o : Option (List ℕ)). Tells o saved.0) told saved.1 in
    subst (λ (l : List ℕ). machine_of (wanted_of (boot_of_image s) rows.inputs d.boot.turns) l ≡ Ok machine) same (of_three (save_session d) image.0 schedule.0 saved.0 p saved.2)
