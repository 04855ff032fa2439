-- What is left to patch comes to what all comes to, and the words stay as many.
use Rattle.std.proofs.Common.{◌≡◌, drop, length}
use Rattle.c0_expr_code.specs.Jumps.{patched}
use Rattle.c0_expr_code.proofs.patching.patch_all.Given as goal

abbrev pub invariant-loop-at : goal.invariant-loop-at
invariant-loop-at l =
    record {
      same : patched l.to (drop l.at-index l.jumps) l.code.items ≡ patched l.to l.jumps l.initial.code.items;
      many : length l.code.items ≡ length l.initial.code.items;
    }
