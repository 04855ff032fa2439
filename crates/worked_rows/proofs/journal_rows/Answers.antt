-- Each row is computed.
use Rattle.std.proofs.Common.{refl}
use Rattle.std.specs.Fmt.{digits}
use Rattle.std.specs.Int.{int_wrap}
use Rattle.c0_meaning.specs.Words.{holds, struct_words}
use Rattle.worked_rows.proofs.journal_rows.Goals as goal

pub returns : goal.returns
unfolding digits holds struct_words int_wrap
returns c = record {
  overflow = refl;
  other = refl;
  products = refl;
  traps = refl;
  asked = refl;
  sizes = refl;
  third = refl;
  first = refl;
}
