-- A system of two users that are compiled of C0: from their texts to the image that is linked of their files.
use Rattle.std.specs.Prelude.{ℕ, List, [], ◌∷◌, Ok}
use Rattle.layer_map.specs.Map.{Map}
use Rattle.boot_image.specs.Reading.{answer as image_of}
use Rattle.kernel_linker.specs.Accept.{ImageSystem}
use Rattle.cvm_shell.specs.Linked.{AreAcceptedAs}
use Rattle.run_scripts.specs.Plan.{puts, Accepts, AfterProgram}

-- A SYSTEM IS LINKED of programs with these texts: `compile program` puts the files of the texts, and the system is that of an image that was linked of an
-- object, parameters and the files
pub record IsLinkedOf (layer : Map → List ℕ → List ℕ) (first_text second_text : List ℕ) (s : ImageSystem) : Type 0 where
  pub first_name : List ℕ
  pub first_file : List ℕ
  pub first_put : AfterProgram first_name first_text (puts first_name first_file)
  pub second_name : List ℕ
  pub second_file : List ℕ
  pub second_put : AfterProgram second_name second_text (puts second_name second_file)
  pub object : List ℕ
  pub params : List ℕ
  pub image : List ℕ
  pub linked : AreAcceptedAs layer object params (first_file ∷ second_file ∷ []) image
  pub accepted : Accepts layer (image_of image) (Ok s)
