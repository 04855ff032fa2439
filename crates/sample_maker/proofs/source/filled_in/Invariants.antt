use Rattle.std.proofs.Common.{◌≡◌, take}
use Rattle.sample_maker.specs.Source.{filled_pattern}
use Rattle.sample_maker.proofs.source.filled_in.Given as goal

abbrev pub invariant-loop-byte : goal.invariant-loop-byte
invariant-loop-byte l = l.text.items ≡ filled_pattern l.users l.base (take l.byte-index l.pattern)
