-- An image is accepted as the system of a source, parameters and users. This serves the images that are linked and those that are made anew.
use Rattle.std.proofs.Common.{◌≡◌, ℕ, List, sym, subst, Ok, Err}
use Rattle.std.specs.Prelude.{Result, IfOk}
use Rattle.layer_map.specs.Map.{Map}
use Rattle.layer_map.specs.declared.params.Params.{Params}
use Rattle.c0_tree.specs.Tree.{CUnit}
use Rattle.c0_types.specs.Front.{IsFrontAnswer, IsUnitOf}
use Rattle.boot_image.specs.Parts.{ImageParts as Image}
use Rattle.boot_image.specs.Reading.{answer as image_of}
use Rattle.boot_image.specs.declared.fault.ImageFault.{ImageFault}
use Rattle.kernel_linker.specs.Linked.{linked, sizes_of}
use Rattle.kernel_linker.specs.Accept.{ImageSystem, accept_answer}
use Rattle.cvm_shell.specs.Linked.{IsAcceptedAs}
use Rattle.run_scripts.specs.Plan.{Accepts}

abbrev Layers : Type 0
Layers = Map → List ℕ → List ℕ

-- the system of a checked unit, parameters and users, with the words that they are linked to
abbrev pub linked_system : Layers → CUnit → Params → List (List ℕ) → ImageSystem
linked_system layer u p us = record { params = p; unit = u; words = linked layer u p (sizes_of us); users = us }

-- bytes that are an image of a source which has this unit
pub accepted_as : (layer : Layers) (source : List ℕ) (p : Params) (us : List (List ℕ)) (u : CUnit) (i : Image) (bytes : List ℕ)
    → IsUnitOf source u → i.source ≡ source → accept_answer layer i (Ok u) ≡ Ok (linked_system layer u p us) → image_of bytes ≡ Ok i → IsAcceptedAs layer source p us bytes
accepted_as layer source p us u i bytes is same so e = record {
  unit = u;
  typed = is;
  accepted = subst (λ (x : Result Image ImageFault). Accepts layer x (Ok (linked_system layer u p us))) (sym e)
      (Ok u, subst (λ (s : List ℕ). IsFrontAnswer s (Ok u)) (sym same) is, sym so);
}

-- what is so of a value is so of what was answered
pub if_ok : {A E : Type 0} (P Q : A → Type 0) → ((x : A) → P x → Q x) → (r : Result A E) → IfOk r P → IfOk r Q
if_ok P Q next (Ok x) h = next x h
if_ok P Q next (Err e) h = tt
