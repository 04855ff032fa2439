-- Of what source the unit of an accepted system is.
use Rattle.std.specs.Prelude.{◌≡◌, ℕ, List, Result, Ok}
use Rattle.layer_map.specs.Map.{Map}
use Rattle.boot_image.specs.Parts.{ImageParts as Image}
use Rattle.c0_tree.specs.Tree.{CUnit}
use Rattle.c0_types.specs.declared.source_fault.SourceFault.{SourceFault}
use Rattle.c0_types.specs.Front.{IsUnitOf, IsFrontAnswer}
use Rattle.kernel_linker.specs.declared.fault.AcceptFault.{AcceptFault}
use Rattle.kernel_linker.specs.Accept.{ImageSystem, accept_answer}

-- a law: an accepted system's unit is that of its image's own source, and its parameters and users are the image's
pub record IsOfImage (i : Image) (s : ImageSystem) : Type 0 where
  pub unit : IsUnitOf i.source s.unit
  pub params : s.params ≡ i.params
  pub users : s.users ≡ i.users

abbrev pub AcceptedAreOfImages : Type 0
AcceptedAreOfImages = (layer : Map → List ℕ → List ℕ) (i : Image) (front : Result CUnit SourceFault) (s : ImageSystem) → IsFrontAnswer i.source front
    → ◌≡◌ {A = Result ImageSystem AcceptFault} (Ok s) (accept_answer layer i front) → IsOfImage i s
