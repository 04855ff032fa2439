-- The entries so far.
use Rattle.std.proofs.Common.{◌≡◌, ◌+◌, ◌*◌, map}
use Rattle.std.specs.List.{range_with_len}
use Rattle.layer_map.specs.Map.{primitives_at}
use Rattle.c0_unit.proofs.placing.entries.Given as goal

abbrev pub invariant-loop-number : goal.invariant-loop-number
invariant-loop-number l = record { entries : l.entries.items ≡ map (λ k. 4 * (primitives_at + k)) (range_with_len 0 l.number) }
