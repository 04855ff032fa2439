-- What is answered of an image that is to be booted: its source is read and checked, and its linked words are compared with those that its
-- own source, parameters and users are linked to. An image of form 1 carries no linked words: they are made.
use Rattle.std.specs.Prelude.{◌≡◌, ℕ, nat_eq, List, length, map, Result, Ok, Err, if◌then◌else◌}
use Rattle.cvm_words.specs.Reading.{◌>>=◌, GivesUnless}
use Rattle.layer_map.specs.declared.params.Params.{Params}
use Rattle.layer_map.specs.Map.{Map}
use Rattle.boot_image.specs.Parts.{ImageParts as Image}
use Rattle.boot_image.specs.declared.fault.ImageFault.{ImageFault}
use Rattle.c0_tree.specs.Tree.{CUnit}
use Rattle.c0_tree.specs.View.{unit_view}
use Rattle.c0_types.specs.declared.source_fault.SourceFault.{SourceFault}
use Rattle.layer_contract.specs.declared.boot.Boot.{Boot}
use Rattle.kernel_linker.specs.Answers.{FrontGives}
use Rattle.kernel_linker.specs.Linked.{linked, sizes_of}
use Rattle.kernel_linker.specs.Difference.{compared}
use Rattle.kernel_linker.specs.declared.difference.Difference.{Difference}
use Rattle.kernel_linker.specs.Fault.{accept_source_fault, accept_file_fault, accept_difference}
use Rattle.kernel_linker.specs.declared.fault.AcceptFault.{AcceptFault}
use Rattle.kernel_linker.specs.declared.fault.AcceptFault.TheVariants.{Memory}

-- what is booted, as lists: the parameters, the checked unit, the linked words, and the words of each user
pub record ImageSystem : Type 0 where
  pub params : Params
  pub unit : CUnit
  pub words : List ℕ
  pub users : List (List ℕ)

-- a boot as lists
abbrev pub image_system : Boot → ImageSystem
image_system b = record { params = b.params; unit = unit_view b.unit; words = b.words.items; users = map (λ u. u.items) b.users.items }

-- the unit that the front came to
abbrev pub accept_front_unit : Result CUnit SourceFault → Result CUnit AcceptFault
accept_front_unit (Ok u) = Ok u
accept_front_unit (Err f) = Err (accept_source_fault f)

-- words are those that are made
abbrev pub accept_unforged : Result (Unit {0}) Difference → Result (Unit {0}) AcceptFault
accept_unforged (Ok x) = Ok x
accept_unforged (Err d) = Err (accept_difference d)

-- an image's linked words, if it has any, are those that are made
abbrev pub words_match : Image → (made : List ℕ) → Result (Unit {0}) AcceptFault
words_match i made = if nat_eq i.form 1 then Ok tt else accept_unforged (compared i.words made)

-- ACCEPT, over a layer that has these words for a map and sizes, where the front came to this on the image's source
unfoldable pub accept_answer : (layer : Map → List ℕ → List ℕ) → Image → Result CUnit SourceFault → Result ImageSystem AcceptFault
accept_answer layer i front = do
  u ← accept_front_unit front
  same ← words_match i (linked layer u i.params (sizes_of i.users))
  Ok (record { params = i.params; unit = u; words = linked layer u i.params (sizes_of i.users); users = i.users })

-- A result, seen by view, is what is due of the image that bytes were read as, or it is their fault. What is due of an image goes by what
-- the front comes to on its source.
abbrev pub AnswersBy : {X Y : Type 0} → (Image → Result CUnit SourceFault → Result Y AcceptFault) → (X → Y) → Result Image ImageFault
    → Result X AcceptFault → Type 0
AnswersBy due view (Ok i) result = (front : Result CUnit SourceFault) × FrontGives i.source front × GivesUnless Memory view result (due i front)
AnswersBy due view (Err f) result = result ≡ Err (accept_file_fault f)

-- what is due is whether the image is accepted, over a layer that has these words for a map and sizes
abbrev pub AcceptAnswers : {X : Type 0} → (layer : Map → List ℕ → List ℕ) → (X → ImageSystem) → Result Image ImageFault → Result X AcceptFault → Type 0
AcceptAnswers layer view read result = AnswersBy (accept_answer layer) view read result
