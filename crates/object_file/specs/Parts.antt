-- What an object is, apart from where it lies in memory.
use Rattle.std.specs.Prelude.{ℕ, List}

-- a source, byte by byte, and the words that it was compiled to
pub record ObjectParts : Type 0 where
  pub source : List ℕ
  pub words : List ℕ
