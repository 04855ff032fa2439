-- What an image of form 2 comes to: it is made anew and put, or its first fault is refused, and nothing else. What is put is accepted.
use Rattle.std.proofs.Common.{◌≡◌, inl, inr, ℕ, List, refl, sym, ap, ◌∙◌, subst, Ok, Err}
use Rattle.std.specs.Prelude.{Result, ⊤}
use Rattle.layer_map.specs.Map.{Map}
use Rattle.c0_tree.specs.Tree.{CUnit}
use Rattle.c0_types.specs.Front.{IsFrontAnswer}
use Rattle.c0_types.specs.declared.source_fault.SourceFault.{SourceFault}
use Rattle.boot_image.specs.Parts.{ImageParts as Image}
use Rattle.boot_image.specs.Format.{spelling as image_bytes}
use Rattle.boot_image.specs.Reading.{answer as image_of, old_answer as old_image_of}
use Rattle.boot_image.specs.declared.fault.ImageFault.{ImageFault}
use Rattle.kernel_linker.specs.Accept.{accept_answer}
use Rattle.kernel_linker.specs.Migrate.{migrate_answer, Migrates, MigratedAreAccepted}
use Rattle.kernel_linker.specs.declared.fault.AcceptFault.{AcceptFault}
use Rattle.cvm_shell.specs.Linked.{IsAcceptedAs, IsAcceptedAsOld}
use Rattle.run_scripts.specs.Plan.{puts, Renews, renewed_plan, AfterOld, IsPlan}
use Rattle.cvm_shell.specs.Stages.{accept_stop}
use Rattle.cvm_shell.specs.Views.{IfRefused}
use Rattle.cvm_shell.proofs.AcceptedAs.{linked_system, accepted_as}
use Rattle.cvm_shell.proofs.SourceFronts.{OneAnswer}
use Rattle.cvm_shell.proofs.ImageAnswers.{Faulty, only_answered, image_answered, image_refused, accept_stops}

abbrev Layers : Type 0
Layers = Map → List ℕ → List ℕ

-- a source that has no unit is answered by its fault
no_unit : (layer : Layers) → Faulty (migrate_answer layer)
unfolding migrate_answer
no_unit layer i f = refl

-- the bytes come to one plan
plan_renewed : OneAnswer → (layer : Layers) (name old : List ℕ) (a : Result Image AcceptFault) → Renews layer (old_image_of old) a → IsPlan ⊤ (AfterOld layer name old) (renewed_plan name a)
plan_renewed one layer name old a is = record {
  comes = (a, is, refl);
  only = λ told q other. other.2 ∙ ap (renewed_plan name) (only_answered one (migrate_answer layer) (old_image_of old) other.0 a other.1 is);
}

-- THE FAULT of an old image
pub migrate_fault : OneAnswer → (layer : Layers) (name old : List ℕ) (r : Result Image AcceptFault) (f : AcceptFault) → r ≡ Err f
    → Migrates layer (old_image_of old) r → IfRefused (IsPlan ⊤ (AfterOld layer name old)) (accept_stop f)
migrate_fault one layer name old r f e answers = elim (accept_stops f) [
  | inl m ↦ subst (λ (x : AcceptFault). IfRefused (IsPlan ⊤ (AfterOld layer name old)) (accept_stop x)) (sym m) tt
  | inr h ↦ subst (IfRefused (IsPlan ⊤ (AfterOld layer name old))) (sym h.1)
      (plan_renewed one layer name old (Err f) (image_refused (migrate_answer layer) (no_unit layer) (λ i. i) (old_image_of old) r f e h.0 answers))
]

-- THE NEW IMAGE
pub migrated_whole : OneAnswer → (layer : Layers) (name old bytes : List ℕ) (i : Image) → Migrates layer (old_image_of old) (Ok i) → bytes ≡ image_bytes i → IsPlan ⊤ (AfterOld layer name old) (puts name bytes)
migrated_whole one layer name old bytes i answers e =
    subst (λ (bs : List ℕ). IsPlan ⊤ (AfterOld layer name old) (puts name bs)) (sym e)
    (plan_renewed one layer name old (Ok i) (image_answered (migrate_answer layer) (no_unit layer) (λ x. x) (old_image_of old) i answers))

-- it is accepted
accepted_anew : MigratedAreAccepted → (layer : Layers) (old : Image) (i : Image) (bytes : List ℕ) → Renews layer (Ok old) (Ok i) → image_of bytes ≡ Ok i → IsAcceptedAs layer old.source old.params old.users bytes
accepted_anew law layer old i bytes (front, is, e) read =
    let anew = law layer old front i (sym e) in
    accepted_as layer old.source old.params old.users anew.unit i bytes (subst (IsFrontAnswer old.source) anew.read is) anew.source
    (subst (λ (x : Result CUnit SourceFault). accept_answer layer i x ≡ Ok (linked_system layer anew.unit old.params old.users)) anew.read anew.accepted) read

accepted_old : MigratedAreAccepted → (layer : Layers) (old bytes : List ℕ) (i : Image) (image : Result Image ImageFault) → old_image_of old ≡ image → Renews layer image (Ok i) → image_of bytes ≡ Ok i → IsAcceptedAsOld layer old bytes
accepted_old law layer old bytes i (Err f) same h e = absurd cc
accepted_old law layer old bytes i (Ok image) same h e = record { image = image; image_is = same; accepted = accepted_anew law layer image i bytes h e }

pub migrated_accepted : MigratedAreAccepted → (layer : Layers) (old bytes : List ℕ) (i : Image) → Migrates layer (old_image_of old) (Ok i) → image_of bytes ≡ Ok i → IsAcceptedAsOld layer old bytes
migrated_accepted law layer old bytes i answers e =
    accepted_old law layer old bytes i (old_image_of old) refl (image_answered (migrate_answer layer) (no_unit layer) (λ x. x) (old_image_of old) i answers) e
