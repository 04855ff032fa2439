-- What names stand for in a function whose body is read.
use Rattle.std.specs.Prelude.{slice_get}
use Rattle.c0_tree.specs.Tree.{CUnit}
use Rattle.c0_tree.specs.View.{unit_view}
use Rattle.c0_meaning.specs.Env.{Env}
use Rattle.c0_typed.specs.declared.seen_function.SeenFunction.{SeenFunction}
use Rattle.c0_typed.specs.Seen.{env_at}

-- the unit of a function
abbrev pub unit_seen : SeenFunction → CUnit
unit_seen x = unit_view x.unit.now.unit.now

-- what names stand for in it
abbrev pub env_seen : SeenFunction → Env
env_seen x = env_at (unit_seen x) (slice_get (unit_seen x).functions x.number)
