-- Each row is computed.
use Rattle.std.proofs.Common.{refl}
use Rattle.worked_rows.proofs.primitive_rows.Goals as goal

pub returns-clause-arguments : goal.returns-clause-arguments
returns-clause-arguments c = record { registers = refl; sizes = refl; words = refl; copies = refl; good = refl }

pub returns-clause-calls : goal.returns-clause-calls
returns-clause-calls c = record {
  no_user = refl;
  no_word = refl;
  no_register = refl;
  too_many_pages = refl;
  past_the_end = refl;
  shared_word = refl;
  pc_is_set = refl;
  grows = refl;
  two_pieces = refl;
  four_entries = refl;
  input_is_taken = refl;
  input_is_left = refl;
  put = refl;
  is_logged = refl;
}
