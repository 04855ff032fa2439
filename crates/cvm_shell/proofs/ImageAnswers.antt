-- What is due of the image that bytes are is one answer: its fault, or what goes by what its own source is answered by. A call that answers what is
-- due, or want of memory, answers that. This serves the images that are accepted and those that are made anew.
use Rattle.std.proofs.Common.{◌≡◌, ◌≢◌, ◌⊎◌, inl, inr, refl, sym, ap, ◌∙◌, Ok, Err}
use Rattle.std.specs.Prelude.{Result}
use Rattle.c0_tree.specs.Tree.{CUnit}
use Rattle.c0_types.specs.declared.source_fault.SourceFault.{SourceFault}
use Rattle.boot_image.specs.Parts.{ImageParts as Image}
use Rattle.boot_image.specs.declared.fault.ImageFault.{ImageFault}
use Rattle.kernel_linker.specs.Answers.{FrontGives}
use Rattle.kernel_linker.specs.Accept.{AnswersBy}
use Rattle.kernel_linker.specs.Fault.{accept_source_fault, accept_file_fault}
use Rattle.kernel_linker.specs.declared.fault.AcceptFault.{AcceptFault}
use Rattle.kernel_linker.specs.declared.fault.AcceptFault.TheVariants as accepting
use Rattle.cvm_shell.specs.declared.boot.Stop.TheVariants as Stops
use Rattle.cvm_shell.specs.declared.refusal.Refusal.TheVariants as by
use Rattle.run_scripts.specs.Plan.{Answered}
use Rattle.cvm_shell.specs.Stages.{accept_stop}
use Rattle.cvm_shell.proofs.SourceFronts.{OneAnswer, IsWant, first_or_memory, one_fault, not_both}

-- what is due of an image, by what its source is answered by
abbrev pub Due : Type 0 → Type 0
Due A = Image → Result CUnit SourceFault → Result A AcceptFault

-- a source that has no unit is answered by its fault
abbrev pub Faulty : {A : Type 0} → Due A → Type 0
Faulty due = (i : Image) (f : SourceFault) → due i (Err f) ≡ Err (accept_source_fault f)

-- WHAT IS ANSWERED of an image is one.
pub only_answered : {A : Type 0} → OneAnswer → (due : Due A) (image : Result Image ImageFault) (a b : Result A AcceptFault) → Answered due image a → Answered due image b → a ≡ b
only_answered one due (Err f) a b is other = is ∙ sym other
only_answered one due (Ok i) a b (front, is, e) (also, other, d) = e ∙ ap (due i) (one i.source front also is other) ∙ sym d

-- THE ANSWER OF A CALL, where it is not want of memory.

-- want of memory for a source is that for its image
memory_of : (f : SourceFault) → IsWant f → accept_source_fault f ≡ accepting.Memory
memory_of f (inl e) = ap accept_source_fault e
memory_of f (inr e) = ap accept_source_fault e

-- A GOOD IMAGE
good_front : {A : Type 0} (due : Due A) → Faulty due → (i : Image) (x : A) (front : Result CUnit SourceFault) → FrontGives i.source front → due i front ≡ Ok x → Answered due (Ok i) (Ok x)
good_front due faulty i x (Ok u) comes e = (Ok u, comes, sym e)
good_front due faulty i x (Err f) comes e = absurd (not_both (due i (Err f)) x (accept_source_fault f) e (faulty i f))

pub image_answered : {X A : Type 0} (due : Due A) → Faulty due → (view : X → A) (image : Result Image ImageFault) (x : X) → AnswersBy due view image (Ok x) → Answered due image (Ok (view x))
image_answered due faulty view (Err f) x h = absurd cc
image_answered due faulty view (Ok i) x (front, comes, e) = good_front due faulty i (view x) front comes e

-- ONE THAT ISN'T
refused_front : {A : Type 0} (due : Due A) → Faulty due → (i : Image) (f : AcceptFault) (front : Result CUnit SourceFault) → f ≢ accepting.Memory → FrontGives i.source front → due i front ≡ Err f → Answered due (Ok i) (Err f)
refused_front due faulty i f (Ok u) named comes e = (Ok u, comes, sym e)
refused_front due faulty i f (Err g) named comes e = elim (first_or_memory i.source g comes) [
  | inl m ↦ absurd (named (one_fault (due i (Err g)) f (accept_source_fault g) e (faulty i g) ∙ memory_of g m))
  | inr first ↦ (Err g, first, sym e)
]

pub image_refused : {X A : Type 0} (due : Due A) → Faulty due → (view : X → A) (image : Result Image ImageFault) (r : Result X AcceptFault) (f : AcceptFault) → r ≡ Err f → f ≢ accepting.Memory
    → AnswersBy due view image r → Answered due image (Err f)
image_refused due faulty view (Err g) r f e named h = ap (λ (x : AcceptFault). Err x) (one_fault r f (accept_file_fault g) e h)
image_refused due faulty view (Ok i) (Ok x) f e named h = absurd cc
image_refused due faulty view (Ok i) (Err g) f e named (front, comes, inl m) = let same : g ≡ f = one_fault (Err g) g f refl e in absurd (named (sym same ∙ m))
image_refused due faulty view (Ok i) (Err g) f e named (front, comes, inr a) =
    refused_front due faulty i f front named comes (a ∙ ap (λ (x : AcceptFault). Err x) (one_fault (Err g) g f refl e))

-- a fault of an image is want of memory, or it is refused
pub accept_stops : (f : AcceptFault) → (f ≡ accepting.Memory) ⊎ ((f ≢ accepting.Memory) × (accept_stop f ≡ Stops.Refused (by.Unaccepted f)))
accept_stops (accepting.File g) = inr (λ e. cc, refl)
accept_stops (accepting.Source g) = inr (λ e. cc, refl)
accept_stops (accepting.Types g) = inr (λ e. cc, refl)
accept_stops (accepting.ForgedCount stored made) = inr (λ e. cc, refl)
accept_stops (accepting.Forged place stored made) = inr (λ e. cc, refl)
accept_stops accepting.Memory = inl refl
