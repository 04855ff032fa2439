use Rattle.std.proofs.Common.{◌≡◌, ◌++◌, replicate}
use Rattle.real_layer.proofs.image.put_zeros.Given as goal

abbrev pub invariant-loop-done : goal.invariant-loop-done
invariant-loop-done l = l.words.items ≡ l.initial.words.items ++ replicate l.done 0
