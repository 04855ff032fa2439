-- What is answered of bytes in the format's own words: the image that they spell, or what stands first where no image has it.
use Rattle.std.specs.Prelude.{ℕ, ◌≡◌, ◌≢◌, ◌≤◌, ◌<◌, ◌^◌, suc, List, [], ◌∷◌, ◌++◌, length, take, map, codes, slice_index, slice_index_or, Result, Ok, Err}
use Rattle.std.specs.List.{concat, flat_map}
use Rattle.cvm_words.specs.Bytes.{word}
use Rattle.boot_image.specs.declared.fault.ImageFault.{ImageFault}
use Rattle.boot_image.specs.declared.fault.ImageFault.TheVariants.{Magic, Truncated, Trailing, Parameter, Memory}
use Rattle.boot_image.specs.Parts.{ImageParts}
use Rattle.boot_image.specs.Format.{fields, spelling}

-- the pieces of an image, in the order of the file: the mark, each field, the source, the linked words, and the words of each user
abbrev pub pieces : ImageParts → List (List ℕ)
pieces i = codes "CVMI" ∷ (map word (fields i) ++ (i.source ∷ flat_map word i.words ∷ map (flat_map word) i.users))

-- the first pieces of an image are whole, and fewer bytes follow than its next piece has, which begins at `at`
pub record EndsWithin (IsFit : ImageParts → Type 0) (bytes : List ℕ) (at : ℕ) : Type 0 where
  pub image : ImageParts
  pub fit : IsFit image
  pub whole : ℕ
  pub left : List ℕ
  pub spelled : bytes ≡ concat (take whole (pieces image)) ++ left
  pub short : length left < length (slice_index_or (pieces image) whole [])
  pub position : at ≡ length (concat (take whole (pieces image)))

-- behind the mark stand the first fields of an image, up to word `which`, and there a number that no image has behind these
pub record HasWrongField (IsFit : ImageParts → Type 0) (bytes : List ℕ) (which value : ℕ) : Type 0 where
  pub image : ImageParts
  pub fit : IsFit image
  pub before : ℕ
  pub field : before < length (fields image)
  pub left : List ℕ
  pub spelled : bytes ≡ codes "CVMI" ++ (flat_map word (take before (fields image)) ++ (word value ++ left))
  pub bits : value < 2 ^ 32
  pub wrong : (other : ImageParts) → IsFit other → take (suc before) (fields other) ≢ take before (fields image) ++ value ∷ []
  pub position : which ≡ suc before

-- an image is whole, and bytes follow, from `at` on
pub record GoesOnAt (IsFit : ImageParts → Type 0) (bytes : List ℕ) (at : ℕ) : Type 0 where
  pub image : ImageParts
  pub fit : IsFit image
  pub left : List ℕ
  pub spelled : bytes ≡ spelling image ++ left
  pub more : 0 < length left
  pub position : at ≡ length (spelling image)

-- what is answered of bytes, where these are the images that a file may be
abbrev pub IsImageAnswer : (IsFit : ImageParts → Type 0) → List ℕ → Result ImageParts ImageFault → Type 0
IsImageAnswer IsFit bytes (Ok i) = IsFit i × (bytes ≡ spelling i)
IsImageAnswer IsFit bytes (Err Magic) = (4 ≤ length bytes) × (take 4 bytes ≢ codes "CVMI")
IsImageAnswer IsFit bytes (Err (Truncated at)) = EndsWithin IsFit bytes at
IsImageAnswer IsFit bytes (Err (Parameter which value)) = HasWrongField IsFit bytes which value
IsImageAnswer IsFit bytes (Err (Trailing at)) = GoesOnAt IsFit bytes at
IsImageAnswer IsFit bytes (Err Memory) = ⊥

-- laws of a reading: what it answers of bytes is so of them, and nothing else is
abbrev pub AnswersAreSo : (List ℕ → Result ImageParts ImageFault) → (IsFit : ImageParts → Type 0) → Type 0
AnswersAreSo read IsFit = (bytes : List ℕ) → ((i : ℕ) → slice_index bytes i < 256) → IsImageAnswer IsFit bytes (read bytes)

abbrev pub NothingElseIsSo : (List ℕ → Result ImageParts ImageFault) → (IsFit : ImageParts → Type 0) → Type 0
NothingElseIsSo read IsFit = (bytes : List ℕ) (answer : Result ImageParts ImageFault) → IsImageAnswer IsFit bytes answer → read bytes ≡ answer
