-- What contracts see of a layer that is held in memory.
use Rattle.std.specs.Prelude.{ℕ, List}
use Rattle.layer_map.specs.Map.{Map}

-- the map and the users' sizes that it was made for, and its words
pub record MadeLayer : Type 0 where
  pub map : Map
  pub sizes : List ℕ
  pub words : List ℕ
