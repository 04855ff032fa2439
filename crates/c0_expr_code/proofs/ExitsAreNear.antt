-- The exits are addresses, divided by four.
use Rattle.std.specs.Prelude.{slice_index}
use Rattle.std.specs.List.{All}
use Rattle.std.proofs.Common.{ℕ, zero, suc, ◌^◌, ◌<◌, List, [], ◌∷◌, arith}
use Rattle.std.proofs.lemmas.List.Elements.{All-head, All-tail}
use Rattle.masm.specs.CodeAddresses.{IsJumpTarget}
use Rattle.c0_expr_code.specs.Scope.{exit_number}
use Rattle.c0_expr_code.specs.Laws.{ExitsAreNear}

small : (xs : List ℕ) (k : ℕ) → All IsJumpTarget xs → slice_index xs k < 2 ^ 28
small [] k h = omega arith
small (x ∷ xs) zero h = (All-head IsJumpTarget x xs h).1
small (x ∷ xs) (suc k) h = small xs k (All-tail IsJumpTarget x xs h)

pub exits_near : ExitsAreNear
exits_near u f addresses h fault = let a = small addresses.faults (exit_number fault) h.faults in omega (arith, a)
