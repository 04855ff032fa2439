-- What is answered of an image of form 2: its source is read and checked, and it is the image of form 3 of the same source, parameters and
-- users, whose linked words are made anew.
use Rattle.std.specs.Prelude.{◌≡◌, ℕ, List, Result, Ok}
use Rattle.cvm_words.specs.Reading.{◌>>=◌}
use Rattle.layer_map.specs.Map.{Map}
use Rattle.boot_image.specs.Parts.{ImageParts as Image}
use Rattle.boot_image.specs.declared.fault.ImageFault.{ImageFault}
use Rattle.c0_tree.specs.Tree.{CUnit}
use Rattle.c0_types.specs.declared.source_fault.SourceFault.{SourceFault}
use Rattle.kernel_linker.specs.Linked.{linked, sizes_of}
use Rattle.kernel_linker.specs.Accept.{ImageSystem, accept_front_unit, accept_answer, AnswersBy}
use Rattle.kernel_linker.specs.declared.fault.AcceptFault.{AcceptFault}

-- MIGRATE, over a layer that has these words for a map and sizes, where the front came to this on the image's source
unfoldable pub migrate_answer : (layer : Map → List ℕ → List ℕ) → Image → Result CUnit SourceFault → Result Image AcceptFault
migrate_answer layer i front = do
  u ← accept_front_unit front
  Ok (record { params = i.params; form = 3; source = i.source; words = linked layer u i.params (sizes_of i.users); users = i.users })

-- a result is what is answered of the old image that bytes were read as, or their fault
abbrev pub Migrates : (layer : Map → List ℕ → List ℕ) → Result Image ImageFault → Result Image AcceptFault → Type 0
Migrates layer read result = AnswersBy (migrate_answer layer) (λ i. i) read result

-- A new image has the old one's source, and over the same layer it is accepted as the system of that source's unit, the old parameters, the linked words
-- and the old users.
pub record IsAcceptedAnew (layer : Map → List ℕ → List ℕ) (old : Image) (front : Result CUnit SourceFault) (new : Image) : Type 0 where
  pub unit : CUnit
  pub read : front ≡ Ok unit
  pub source : new.source ≡ old.source
  pub accepted : accept_answer layer new front
      ≡ Ok (record { params = old.params; unit = unit; words = linked layer unit old.params (sizes_of old.users); users = old.users })

-- a law: so is each that is migrated
abbrev pub MigratedAreAccepted : Type 0
MigratedAreAccepted = (layer : Map → List ℕ → List ℕ) (old : Image) (front : Result CUnit SourceFault) (new : Image) →
    migrate_answer layer old front ≡ Ok new → IsAcceptedAnew layer old front new

-- a law: with other linked words the old image is answered the same
abbrev pub OldWordsAreIgnored : Type 0
OldWordsAreIgnored = (layer : Map → List ℕ → List ℕ) (old : Image) (words : List ℕ) (front : Result CUnit SourceFault) →
    migrate_answer layer (record old { words = words }) front ≡ migrate_answer layer old front
