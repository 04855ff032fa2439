use Rattle.std.proofs.Common.{◌≡◌, drop}
use Rattle.kernel_linker.specs.Difference.{words_compared}
use Rattle.kernel_linker.proofs.difference.compare_words.Given as goal

abbrev pub invariant-loop-position : goal.invariant-loop-position
invariant-loop-position l = words_compared 0 l.stored l.made ≡ words_compared l.position (drop l.position l.stored) (drop l.position l.made)
