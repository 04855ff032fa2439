-- All so far are scalars, and what is left is to be asked.
use Rattle.std.proofs.Common.{◌≡◌, drop}
use Rattle.std.specs.Prelude.{◌&&◌}
use Rattle.c0_stmt_code.specs.TypedLive as spec
use Rattle.c0_stmt_code.proofs.live.are_scalars.Given as goal

abbrev pub invariant-loop-local : goal.invariant-loop-local
invariant-loop-local l = (l.all && spec.are_scalars (drop l.local-index l.locals)) ≡ spec.are_scalars l.locals
