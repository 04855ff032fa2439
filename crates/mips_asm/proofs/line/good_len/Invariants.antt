-- All bytes so far are good.
use Rattle.std.proofs.Common.{◌≡◌, true, take}
use Rattle.std.specs.List.{list_all}
use Rattle.mips_asm.specs.Text.{is_good_byte}
use Rattle.mips_asm.proofs.line.good_len.Given as goal

abbrev pub invariant-loop-index : goal.invariant-loop-index
invariant-loop-index l = list_all is_good_byte (take l.index l.line) ≡ true
