-- An accepted system is that of its image: the unit of the image's own source, with the image's parameters and users.
use Rattle.std.proofs.Common.{◌≡◌, ℕ, List, refl, sym, ap, subst}
use Rattle.std.specs.Prelude.{Result, Ok, Err}
use Rattle.layer_map.specs.Map.{Map}
use Rattle.boot_image.specs.Parts.{ImageParts as Image}
use Rattle.c0_tree.specs.Tree.{CUnit}
use Rattle.c0_types.specs.declared.source_fault.SourceFault.{SourceFault}
use Rattle.c0_types.specs.Front.{IsUnitOf, IsFrontAnswer}
use Rattle.kernel_linker.specs.declared.fault.AcceptFault.{AcceptFault}
use Rattle.cvm_words.specs.Reading.{◌>>=◌}
use Rattle.kernel_linker.specs.Accept.{ImageSystem, accept_answer}
use Rattle.kernel_linker.specs.Sources.{IsOfImage, AcceptedAreOfImages}

abbrev IsOk : {A B : Type 0} → Result A B → Type 0
IsOk (Ok a) = Unit {0}
IsOk (Err b) = ⊥

same_system : (s t : ImageSystem) → ◌≡◌ {A = Result ImageSystem AcceptFault} (Ok s) (Ok t) → s ≡ t
same_system s t e = cc

of_made : (i : Image) (s : ImageSystem) (u : CUnit) (made : List ℕ) (stored : Result (Unit {0}) AcceptFault) → IsUnitOf i.source u
    → Ok s ≡ (stored >>= λ same. Ok (record { params = i.params; unit = u; words = made; users = i.users })) → IsOfImage i s
of_made i s u made (Ok x) h e = subst (IsOfImage i) (sym (same_system s _ e)) (record { unit = h; params = refl; users = refl })
of_made i s u made (Err f) h e = absurd (subst IsOk e tt)

pub accepted_are_of_images : AcceptedAreOfImages
unfolding accept_answer
accepted_are_of_images layer i (Ok u) s h e = of_made i s u _ _ h e
accepted_are_of_images layer i (Err f) s h e = absurd (subst IsOk e tt)
