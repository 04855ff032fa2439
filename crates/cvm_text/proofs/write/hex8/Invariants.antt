-- The first digits are written.
use Rattle.std.proofs.Common.{◌≡◌, take}
use Rattle.cvm_text.specs.Hex.{hex8}
use Rattle.cvm_text.proofs.write.hex8.Given as goal

abbrev pub invariant-loop-index : goal.invariant-loop-index
invariant-loop-index l = l.text.bytes ≡ take l.index (hex8 l.word)
