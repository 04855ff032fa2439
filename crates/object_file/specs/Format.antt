-- The one spelling of an object, and which objects have one.
use Rattle.std.specs.Prelude.{ℕ, ◌<◌, ◌≤◌, ◌^◌, All, List, [], ◌∷◌, length, codes}
use Rattle.cvm_words.specs.Bytes.{word}
use Rattle.std.specs.List.{concat, flat_map}
use Rattle.object_file.specs.Parts.{ObjectParts}

-- the four fields of an object and its two parts, in the order of the file
abbrev pub pieces : ObjectParts → List (List ℕ)
pieces o = codes "CVMO" ∷ word 1 ∷ word (length o.source) ∷ word (length o.words) ∷ o.source ∷ flat_map word o.words ∷ []

-- the bytes of an object: its pieces, one after another
abbrev pub spelling : ObjectParts → List ℕ
spelling o = concat (pieces o)

-- an object of a size that a file may have, of words of 32 bits
pub record IsInRange (o : ObjectParts) : Type 0 where
  pub source : length o.source ≤ 1048576
  pub words : length o.words ≤ 4177920
  pub bits : All (λ w. w < 2 ^ 32) o.words
