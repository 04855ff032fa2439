-- What a sample is, apart from where it lies in memory.
use Rattle.std.specs.Prelude.{ℕ, List}
use Rattle.layer_map.specs.declared.params.Params.{Params}

-- the source and the schedule byte by byte, the parameters, and the words of each user
pub record SampleParts : Type 0 where
  pub source : List ℕ
  pub params : Params
  pub users : List (List ℕ)
  pub schedule : List ℕ
