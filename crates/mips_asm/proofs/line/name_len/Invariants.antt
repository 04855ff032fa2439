-- All bytes so far may stand in a name.
use Rattle.std.proofs.Common.{◌≡◌, take}
use Rattle.std.specs.List.{list_all}
use Rattle.mips_asm.specs.Number.{in_name}
use Rattle.mips_asm.proofs.line.name_len.Given as goal
use Rattle.std.proofs.Common.{true}

abbrev pub invariant-loop-index : goal.invariant-loop-index
invariant-loop-index l = list_all in_name (take l.index l.text) ≡ true
