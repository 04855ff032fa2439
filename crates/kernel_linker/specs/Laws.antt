-- What is linked is accepted, and what an image that has a spelling is made of.
use Rattle.std.specs.Prelude.{◌≡◌, ◌≤◌, ℕ, All, List, Result, Ok, length}
use Rattle.layer_map.specs.declared.params.Params.{Params}
use Rattle.layer_map.specs.Map.{Map, ParamsInRange}
use Rattle.boot_image.specs.Format.{HasSpelling, most_user_words}
use Rattle.boot_image.specs.Parts.{ImageParts as Image}
use Rattle.object_file.specs.Parts.{ObjectParts as Object}
use Rattle.c0_tree.specs.Tree.{CUnit}
use Rattle.c0_types.specs.declared.source_fault.SourceFault.{SourceFault}
use Rattle.kernel_linker.specs.Linked.{linked, sizes_of}
use Rattle.kernel_linker.specs.Open.{open_answer}
use Rattle.kernel_linker.specs.Link.{link_answer}
use Rattle.kernel_linker.specs.Accept.{accept_answer}

-- An image that is answered has the object's source, and over the same layer it is accepted as the system of that source's unit, the parameters, the
-- linked words and the users.
pub record IsAccepted (layer : Map → List ℕ → List ℕ) (o : Object) (p : Params) (users : List (List ℕ)) (front : Result CUnit SourceFault)
    (i : Image) : Type 0 where
  pub unit : CUnit
  pub read : front ≡ Ok unit
  pub source : i.source ≡ o.source
  pub accepted : accept_answer layer i front ≡ Ok (record { params = p; unit = unit; words = linked layer unit p (sizes_of users); users = users })

-- a law: so is each
abbrev pub LinkedAreAccepted : Type 0
LinkedAreAccepted = (layer : Map → List ℕ → List ℕ) (o : Object) (p : Params) (users : List (List ℕ)) (front : Result CUnit SourceFault) (i : Image) →
    link_answer layer o p users front ≡ Ok i → IsAccepted layer o p users front i

-- parameters in range, and users that are few and short enough
pub record ImageFits (i : Image) : Type 0 where
  pub params : ParamsInRange i.params
  pub few : length i.users ≤ 64
  pub short : All (λ words. length words ≤ most_user_words i.params.pages) i.users

-- a law: an image that has a spelling is of such
abbrev pub SpelledImagesFit : Type 0
SpelledImagesFit = (i : Image) → HasSpelling i → ImageFits i

-- a law: what is opened is the unit that the front came to on the object's source
abbrev pub OpenedUnitsAreTheirSources : Type 0
OpenedUnitsAreTheirSources = (o : Object) (front : Result CUnit SourceFault) (u : CUnit) → open_answer o front ≡ Ok u → front ≡ Ok u
