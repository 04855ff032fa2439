-- The number read so far is what the digits before it spell, and is small.
use Rattle.std.proofs.Common.{◌≡◌, ◌≤◌, take}
use Rattle.c0_tokens.specs.Lexis.{digits_value}
use Rattle.c0_tokens.proofs.lexer.digits_value.Given as goal

abbrev pub invariant-loop-digit : goal.invariant-loop-digit
invariant-loop-digit l = record { small : l.value ≤ 2147483647; spelled : l.value ≡ digits_value (take l.digit-index l.digits) }
