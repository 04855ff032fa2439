-- What calls of primitives do to the world, one after another.
use Rattle.std.specs.Prelude.{◌≡◌, ℕ, List, [], ◌∷◌, ◌++◌}
use Rattle.c0_meaning.specs.Value.{Values}
use Rattle.c0_meaning.specs.World.{PrimitiveMeaning, Cost, units, plus, Configuration, call_cost}

-- a call of a primitive: its number and its arguments
pub record PrimitiveCall : Type 0 where
  pub number : ℕ
  pub args : Values

-- the world's value after calls
abbrev pub world_after : {W E : Type 0} → PrimitiveMeaning W E → List PrimitiveCall → W → W
world_after meaning [] world = world
world_after meaning (call ∷ rest) world = world_after meaning rest (meaning call.number call.args world).world

-- the journal entries that calls make, call by call
abbrev pub entries_made : {W E : Type 0} → PrimitiveMeaning W E → List PrimitiveCall → W → List (List E)
entries_made meaning [] world = []
entries_made meaning (call ∷ rest) world = let r = meaning call.number call.args world in r.entries ∷ entries_made meaning rest r.world

-- what calls cost, the program's own part in them apart
abbrev pub cost_made : {W E : Type 0} → PrimitiveMeaning W E → List PrimitiveCall → W → Cost
cost_made meaning [] world = units 0
cost_made meaning (call ∷ rest) world = let r = meaning call.number call.args world in plus (call_cost r) (cost_made meaning rest r.world)

-- Between two places of a run, with this cost, just these primitives were called: the world's value, the entries, the units that are a
-- primitive's and the pages are those of the calls, and nothing else changed them.
pub record AreMadeBy {W E : Type 0} (meaning : PrimitiveMeaning W E) (made : List PrimitiveCall) (c : Configuration W E) (cost : Cost)
    (d : Configuration W E) : Type 0 where
  pub world : d.world ≡ world_after meaning made c.world
  pub calls : d.calls ≡ c.calls ++ entries_made meaning made c.world
  pub units : cost.primitive ≡ (cost_made meaning made c.world).primitive
  pub pages : cost.pages ≡ (cost_made meaning made c.world).pages
