-- What the bytes are that `link` and `migrate` put: an image that is accepted, over the layer that it was linked to, as the system of its object,
-- parameters and users, or as that of the old image.
use Rattle.std.specs.Prelude.{◌≡◌, ℕ, List, Option, Ok}
use Rattle.cvm_outside.specs.Told.{Tells}
use Rattle.c0_tree.specs.Tree.{CUnit as Unit}
use Rattle.c0_types.specs.Front.{IsUnitOf}
use Rattle.layer_map.specs.Map.{Map}
use Rattle.layer_map.specs.declared.params.Params.{Params}
use Rattle.object_file.specs.Answer.{IsObjectAnswer as IsObject}
use Rattle.object_file.specs.Parts.{ObjectParts as Object}
use Rattle.system_files.specs.Params.{params_of}
use Rattle.boot_image.specs.Parts.{ImageParts as Image}
use Rattle.boot_image.specs.Reading.{answer as image_of, old_answer as old_image_of}
use Rattle.kernel_linker.specs.Linked.{linked, sizes_of}
use Rattle.run_scripts.specs.Command.{Link, Migrate}
use Rattle.run_scripts.specs.Plan.{Accepts, user_words_from}
use Rattle.cvm_shell.specs.Stages.{Fetched}

-- ACCEPTED of a source, parameters and users: the bytes are an image, and it is accepted as the system of the checked unit of that source, these
-- parameters and these users, with the words that they are linked to
pub record IsAcceptedAs (layer : Map → List ℕ → List ℕ) (source : List ℕ) (params : Params) (users : List (List ℕ)) (bytes : List ℕ) : Type 0 where
  pub unit : Unit
  pub typed : IsUnitOf source unit
  pub accepted : Accepts layer (image_of bytes) (Ok (record { params = params; unit = unit; words = linked layer unit params (sizes_of users); users = users }))

-- of files with these bytes: the object, the parameters and the users' words that they are
pub record AreAcceptedAs (layer : Map → List ℕ → List ℕ) (object params : List ℕ) (users : List (List ℕ)) (bytes : List ℕ) : Type 0 where
  pub kernel : Object
  pub limits : Params
  pub words : List (List ℕ)
  pub kernel_is : IsObject object (Ok kernel)
  pub limits_are : params_of params ≡ Ok limits
  pub words_are : user_words_from 1 users ≡ Ok words
  pub accepted : IsAcceptedAs layer kernel.source limits words bytes

-- of the files that a `link` names
pub record LinkIsAccepted (layer : Map → List ℕ → List ℕ) (told : List ℕ → Option (List ℕ)) (l : Link) (bytes : List ℕ) : Type 0 where
  pub object : List ℕ
  pub params : List ℕ
  pub users : List (List ℕ)
  pub object_told : Tells (told l.object) object
  pub params_told : Tells (told l.params) params
  pub users_told : Fetched told l.users users
  pub accepted : AreAcceptedAs layer object params users bytes

-- of an old image with these bytes: its own source, parameters and users
pub record IsAcceptedAsOld (layer : Map → List ℕ → List ℕ) (old bytes : List ℕ) : Type 0 where
  pub image : Image
  pub image_is : old_image_of old ≡ Ok image
  pub accepted : IsAcceptedAs layer image.source image.params image.users bytes

-- of the old image that a `migrate` names
pub record MigrateIsAccepted (layer : Map → List ℕ → List ℕ) (told : List ℕ → Option (List ℕ)) (m : Migrate) (bytes : List ℕ) : Type 0 where
  pub old : List ℕ
  pub old_told : Tells (told m.old) old
  pub accepted : IsAcceptedAsOld layer old bytes
