-- What the files of a boot or a trace come to: the image is accepted and the schedule read, or the first fault is refused, and nothing else.
use Rattle.std.proofs.Common.{◌≡◌, ◌⊎◌, inl, inr, ℕ, List, refl, sym, ap, ◌∙◌, subst, Ok, Err}
use Rattle.std.specs.Prelude.{Result, ⊤}
use Rattle.layer_map.specs.Map.{Map}
use Rattle.boot_image.specs.Reading.{answer as image_of}
use Rattle.schedule_file.specs.Rows.{Rows}
use Rattle.schedule_file.specs.Schedule.{schedule_of, Gives}
use Rattle.schedule_file.specs.declared.fault.ScheduleFault.{ScheduleFault}
use Rattle.schedule_file.specs.declared.fault.ScheduleFault.TheVariants as scheduling
use Rattle.kernel_linker.specs.Accept.{ImageSystem, AcceptAnswers, accept_answer}
use Rattle.kernel_linker.specs.declared.fault.AcceptFault.{AcceptFault}
use Rattle.cvm_shell.specs.declared.boot.Stop.TheVariants as Stops
use Rattle.cvm_shell.specs.declared.refusal.Refusal.TheVariants as by
use Rattle.run_scripts.specs.declared.session.Session.{Session}
use Rattle.run_scripts.specs.Plan.{boots, Accepts, scheduled_plan, accepted_plan, AfterFiles, IsPlan}
use Rattle.cvm_shell.specs.Stages.{accept_stop, schedule_stop}
use Rattle.cvm_shell.specs.Views.{IfRefused}
use Rattle.cvm_shell.proofs.SourceFronts.{OneAnswer}
use Rattle.cvm_shell.proofs.ImageAnswers.{Faulty, only_answered, image_answered, image_refused, accept_stops}

abbrev Layers : Type 0
Layers = Map → List ℕ → List ℕ

-- The files come to one plan.
plan_accepted : OneAnswer → (layer : Layers) (session : Session) (image schedule : List ℕ) (a : Result ImageSystem AcceptFault) → Accepts layer (image_of image) a
    → IsPlan ⊤ (AfterFiles layer session image schedule) (accepted_plan session (schedule_of schedule) a)
plan_accepted one layer session image schedule a is = record {
  comes = (a, is, refl);
  only = λ told q other. other.2 ∙ ap (accepted_plan session (schedule_of schedule)) (only_answered one (accept_answer layer) (image_of image) other.0 a other.1 is);
}

-- a source that has no unit is answered by its fault
no_unit : (layer : Layers) → Faulty (accept_answer layer)
unfolding accept_answer
no_unit layer i f = refl

-- THE FAULT of an image
pub accept_fault : {X : Type 0} → OneAnswer → (layer : Layers) (view : X → ImageSystem) (session : Session) (image schedule : List ℕ) (r : Result X AcceptFault) (f : AcceptFault) → r ≡ Err f
    → AcceptAnswers layer view (image_of image) r → IfRefused (IsPlan ⊤ (AfterFiles layer session image schedule)) (accept_stop f)
accept_fault one layer view session image schedule r f e answers = elim (accept_stops f) [
  | inl m ↦ subst (λ (x : AcceptFault). IfRefused (IsPlan ⊤ (AfterFiles layer session image schedule)) (accept_stop x)) (sym m) tt
  | inr h ↦ subst (IfRefused (IsPlan ⊤ (AfterFiles layer session image schedule))) (sym h.1)
      (plan_accepted one layer session image schedule (Err f) (image_refused (accept_answer layer) (no_unit layer) view (image_of image) r f e h.0 answers))
]

-- THE SCHEDULE of an accepted image

-- a fault of a schedule is want of memory, or it is refused
schedule_stops : (f : ScheduleFault) (read : Result Rows ScheduleFault) → Gives (Err f) read → (f ≡ scheduling.Memory) ⊎ ((read ≡ Err f) × (schedule_stop f ≡ Stops.Refused (by.BadSchedule f)))
schedule_stops (scheduling.BadLine line) read given = inr (given, refl)
schedule_stops (scheduling.Order line) read given = inr (given, refl)
schedule_stops (scheduling.Range line value) read given = inr (given, refl)
schedule_stops (scheduling.TooManyInputs line) read given = inr (given, refl)
schedule_stops scheduling.Memory read given = inl refl

scheduled : OneAnswer → (layer : Layers) (session : Session) (image schedule : List ℕ) (s : ImageSystem) (read : Result Rows ScheduleFault) → Accepts layer (image_of image) (Ok s) → schedule_of schedule ≡ read
    → IsPlan ⊤ (AfterFiles layer session image schedule) (scheduled_plan session s read)
scheduled one layer session image schedule s read is e =
    subst (λ (x : Result Rows ScheduleFault). IsPlan ⊤ (AfterFiles layer session image schedule) (scheduled_plan session s x)) e (plan_accepted one layer session image schedule (Ok s) is)

-- THE FAULT of a schedule
pub schedule_fault : {X : Type 0} → OneAnswer → (layer : Layers) (view : X → ImageSystem) (session : Session) (image schedule : List ℕ) (x : X) (f : ScheduleFault) → AcceptAnswers layer view (image_of image) (Ok x)
    → Gives (Err f) (schedule_of schedule) → IfRefused (IsPlan ⊤ (AfterFiles layer session image schedule)) (schedule_stop f)
schedule_fault one layer view session image schedule x f answers given = elim (schedule_stops f (schedule_of schedule) given) [
  | inl m ↦ subst (λ (g : ScheduleFault). IfRefused (IsPlan ⊤ (AfterFiles layer session image schedule)) (schedule_stop g)) (sym m) tt
  | inr h ↦ subst (IfRefused (IsPlan ⊤ (AfterFiles layer session image schedule))) (sym h.1)
      (scheduled one layer session image schedule (view x) (Err f) (image_answered (accept_answer layer) (no_unit layer) view (image_of image) x answers) h.0)
]

-- ALL IS READY
pub ready_plan : {X : Type 0} → OneAnswer → (layer : Layers) (view : X → ImageSystem) (session : Session) (image schedule : List ℕ) (x : X) (rows : Rows) → AcceptAnswers layer view (image_of image) (Ok x)
    → schedule_of schedule ≡ Ok rows → IsPlan ⊤ (AfterFiles layer session image schedule) (boots session (view x) rows)
ready_plan one layer view session image schedule x rows answers e = scheduled one layer session image schedule (view x) (Ok rows) (image_answered (accept_answer layer) (no_unit layer) view (image_of image) x answers) e
