-- The one spelling of an image, and which images have one.
use Rattle.std.specs.Prelude.{ℕ, ◌≡◌, ◌⊎◌, ◌*◌, ◌<◌, ◌≤◌, ◌^◌, All, List, [], ◌∷◌, ◌++◌, length, map, codes, min, nat_eq, if◌then◌else◌}
use Rattle.cvm_words.specs.Bytes.{word}
use Rattle.std.specs.List.{flat_map}
use Rattle.layer_map.specs.Map.{ParamsInRange}
use Rattle.layer_map.specs.declared.params.Params.{Params}
use Rattle.boot_image.specs.Parts.{ImageParts}

-- the parameters of an image that carries a source alone
abbrev pub bare_params : Params
bare_params = record { pages = 1; frames = 2; heap = 1024; stack = 1024 }

-- the fields behind the mark, in the order of the file
abbrev pub fields : ImageParts → List ℕ
fields i =
    if nat_eq i.form 1 then 1 ∷ length i.source ∷ [] else
    i.form ∷ length i.users ∷ i.params.pages ∷ i.params.frames ∷ i.params.heap ∷ i.params.stack ∷ length i.source ∷ length i.words ∷ map length i.users

-- the bytes of an image: the mark, the fields, the source, the linked words, and the words of each user
abbrev pub spelling : ImageParts → List ℕ
spelling i = codes "CVMI" ++ (flat_map word (fields i) ++ (i.source ++ (flat_map word i.words ++ flat_map (flat_map word) i.users)))

-- the most words of a user of so many pages at most
abbrev pub most_user_words : ℕ → ℕ
most_user_words pages = min 65536 (1024 * pages)

-- an image of form 1 carries a source alone
pub record IsBare (i : ImageParts) : Type 0 where
  pub form : i.form ≡ 1
  pub params : i.params ≡ bare_params
  pub words : i.words ≡ []
  pub users : i.users ≡ []

-- an image of form 3 carries a whole system
pub record IsSystem (i : ImageParts) : Type 0 where
  pub form : i.form ≡ 3
  pub params : ParamsInRange i.params
  pub least : 16384 ≤ length i.words
  pub most : length i.words ≤ 4194304
  pub users : length i.users ≤ 64
  pub sizes : All (λ u. length u ≤ most_user_words i.params.pages) i.users

-- an image of form 2 carries a whole system too, in smaller ranges
pub record IsOldSystem (i : ImageParts) : Type 0 where
  pub form : i.form ≡ 2
  pub params : ParamsInRange i.params
  pub pages : i.params.pages ≤ 256
  pub least : 16384 ≤ length i.words
  pub most : length i.words ≤ 4194304
  pub users : length i.users ≤ 16
  pub sizes : All (λ u. length u ≤ most_user_words i.params.pages) i.users

-- an image of form 1 or 3, of a size that a file may have
pub record HasSpelling (i : ImageParts) : Type 0 where
  pub source : length i.source ≤ 1048576
  pub form : IsBare i ⊎ IsSystem i

-- an image of form 2, of a size that a file may have
pub record HasOldSpelling (i : ImageParts) : Type 0 where
  pub source : length i.source ≤ 1048576
  pub system : IsOldSystem i

-- an image that can be written, in its form
abbrev pub IsWritable : ImageParts → Type 0
IsWritable i = HasSpelling i ⊎ HasOldSpelling i

-- words of 32 bits
abbrev pub AreWords : List ℕ → Type 0
AreWords words = All (λ w. w < 2 ^ 32) words

-- an image that a file may be, of words of 32 bits
pub record IsInRange (i : ImageParts) : Type 0 where
  pub spelled : HasSpelling i
  pub bits : AreWords i.words
  pub user_bits : All AreWords i.users

-- an image that a file of form 2 may be, of words of 32 bits
pub record IsOldInRange (i : ImageParts) : Type 0 where
  pub spelled : HasOldSpelling i
  pub bits : AreWords i.words
  pub user_bits : All AreWords i.users
