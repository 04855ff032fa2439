-- What an image is, apart from where it lies in memory.
use Rattle.std.specs.Prelude.{ℕ, List}
use Rattle.layer_map.specs.declared.params.Params.{Params}

-- the parameters, the form, the source byte by byte, the linked words, and the words of each user
pub record ImageParts : Type 0 where
  pub params : Params
  pub form : ℕ
  pub source : List ℕ
  pub words : List ℕ
  pub users : List (List ℕ)
