-- Each row is computed.
use Rattle.std.proofs.Common.{refl}
use Rattle.std.specs.Fmt.{digits}
use Rattle.std.specs.Int.{int_wrap}
use Rattle.c0_meaning.specs.Words.{holds, struct_words}
use Rattle.worked_rows.proofs.system_rows.Goals as goal

pub returns-clause-kernels : goal.returns-clause-kernels
unfolding digits holds struct_words int_wrap
returns-clause-kernels c = record {
  truncates = refl;
  division_by_zero = refl;
  no_such_user = refl;
  below_all_users = refl;
  heap_is_full = refl;
  stack_is_enough = refl;
  stack_is_out = refl;
  index_is_out = refl;
  null_is_used = refl;
  console_is_used = refl;
}

pub returns-clause-users : goal.returns-clause-users
unfolding digits holds struct_words int_wrap
returns-clause-users c = record {
  page_faults = refl;
  overflow = refl;
  past_the_end = refl;
  copies_between_users = refl;
  bad_arguments = refl;
  products = refl;
  copy_is_changed = refl;
  four_pages = refl;
  three_pages = refl;
  bound = refl;
  stopped = refl;
  scheduled = refl;
}

pub returns-clause-lines : goal.returns-clause-lines
unfolding digits holds struct_words int_wrap
returns-clause-lines c = record { of_turn_1 = refl; of_turn_0 = refl; of_two_turns = refl; forty = refl }
