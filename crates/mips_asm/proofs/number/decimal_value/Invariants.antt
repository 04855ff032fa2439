-- The value so far is that of the digits so far.
use Rattle.std.proofs.Common.{◌≡◌, take}
use Rattle.std.specs.Str.Parse.{digits_value}
use Rattle.mips_asm.proofs.number.decimal_value.Given as goal

abbrev pub invariant-loop-c : goal.invariant-loop-c
invariant-loop-c l = l.n ≡ digits_value 10 (take l.c-index l.digits)
