use Rattle.std.proofs.Common.{refl}
use Rattle.std.specs.Int.{int_wrap}
use Rattle.c0_meaning.specs.Words.{holds, struct_words}
use Rattle.worked_rows.proofs.TablesAnswer.{sevens_fit}
use Rattle.c0_tree.specs.declared.tree.UnaryOp.TheVariants.{Negate}
use Rattle.c0_tree.specs.Tree.{unary}
use Rattle.worked_rows.specs.Kernels as kernels
use Rattle.worked_rows.specs.SystemKernels as systems
use Rattle.worked_rows.proofs.kernel_rows.Goals as goal

pub returns-clause-runs : goal.returns-clause-runs
unfolding holds struct_words int_wrap
returns-clause-runs c = record {
  sums_wrap = refl;
  truncates = refl;
  division_by_zero = refl;
  heap_is_full = refl;
  heap_has_room = refl;
  stack_is_enough = refl;
  stack_is_out = refl;
  index_is_out = refl;
  null_is_used = refl;
  first_next = refl;
  halts = refl;
  counted = refl;
  asm_functions = refl;
  first_user = refl;
  sends = refl;
  ends = refl;
  objects = refl;
  statements_alone = refl;
  never_ends = refl;
}

pub returns-clause-order : goal.returns-clause-order
unfolding holds struct_words int_wrap
returns-clause-order c = record {
  right_side_then_place = refl;
  right_side_then_index = refl;
  left_then_right = refl;
  place_then_index = refl;
  object_then_place = refl;
  object_stays = refl;
  call_then_place = refl;
  call_stays = refl;
  argument_then_stack = refl;
  stack_alone = refl;
  stack_suffices = refl;
  left_decides = refl;
  first_argument_then_second = refl;
  below_zero = refl;
  address_is_tested = refl;
}

pub returns-clause-parts : goal.returns-clause-parts
unfolding holds struct_words int_wrap
returns-clause-parts c = record {
  asm_has_room = refl;
  asm_is_out = refl;
  entry_stays = refl;
  object_is_null = refl;
  primitive_is_cut = refl;
  primitive_alone = refl;
  primitive_is_stored = refl;
  object_alone = refl;
  elements = refl;
  inner_is_out = refl;
  outer_is_out = refl;
  inner_divides = refl;
  part_of_null = refl;
  once = refl;
  again = refl;
  counted_twice = refl;
}

pub returns-clause-systems : goal.returns-clause-systems
unfolding holds struct_words int_wrap
returns-clause-systems c = record {
  halts_at_once = refl;
  no_such_user = refl;
  below_all_users = refl;
  starts_a_user = refl;
  sees_an_overflow = refl;
  takes_two_lines = refl;
  grows_and_copies = refl;
  copies_between_users = refl;
  asks_in_order = refl;
  grows = refl;
  divides_at_start = refl;
  divides_at_a_call = refl;
  reads_and_writes = refl;
  leaves_user_3_out = refl;
}

pub returns-clause-programs : goal.returns-clause-programs
unfolding int_wrap
returns-clause-programs c = record { ends = refl; goes_on = refl; stands = refl; stands_first = refl; cut = refl; called = refl; short = refl; faults = refl }

pub returns-clause-checked : goal.returns-clause-checked
unfolding holds struct_words int_wrap
returns-clause-checked c = let all_allowed = c.words_are_allowed_as_tested.ensures in record {
  sums = record { well_formed = record { plain = refl; typed = refl; resolved = refl; allowed = all_allowed kernels.sums.functions refl }; first = refl };
  divisions = record { well_formed = record { plain = refl; typed = refl; resolved = refl; allowed = all_allowed kernels.divisions.functions refl }; first = refl };
  by_zero = record { well_formed = record { plain = refl; typed = refl; resolved = refl; allowed = all_allowed kernels.by_zero.functions refl }; first = refl };
  small_heap = record { well_formed = record { plain = refl; typed = refl; resolved = refl; allowed = all_allowed kernels.small_heap.functions refl }; first = refl };
  recursion = record { well_formed = record { plain = refl; typed = refl; resolved = refl; allowed = all_allowed kernels.recursion.functions refl }; first = refl };
  bounds = record { well_formed = record { plain = refl; typed = refl; resolved = refl; allowed = all_allowed kernels.bounds.functions refl }; first = refl };
  null_use = record { well_formed = record { plain = refl; typed = refl; resolved = refl; allowed = all_allowed kernels.null_use.functions refl }; first = refl };
  nexts = record { well_formed = record { plain = refl; typed = refl; resolved = refl; allowed = all_allowed kernels.nexts.functions refl }; first = refl };
  counts = record { well_formed = record { plain = refl; typed = refl; resolved = refl; allowed = all_allowed kernels.counting_kernel.functions refl }; first = refl };
  scheduler = record { well_formed = record { plain = refl; typed = refl; resolved = refl; allowed = all_allowed kernels.scheduler.functions refl }; first = refl };
  asm_sum = record { well_formed = record { plain = refl; typed = refl; resolved = refl; allowed = all_allowed kernels.asm_sum.functions refl }; first = refl };
  list = record { well_formed = record { plain = refl; typed = refl; resolved = refl; allowed = all_allowed kernels.list.functions refl }; first = refl };
  endless = record { well_formed = record { plain = refl; typed = refl; resolved = refl; allowed = all_allowed kernels.endless.functions refl }; first = refl };
  order = record { well_formed = record { plain = refl; typed = refl; resolved = refl; allowed = all_allowed kernels.order.functions refl }; first = refl };
  parts = record { well_formed = record { plain = refl; typed = refl; resolved = refl; allowed = all_allowed kernels.parts_kernel.functions refl }; first = refl };
  returning = record { well_formed = record { plain = refl; typed = refl; resolved = refl; allowed = all_allowed (systems.returning_kernel (unary kernels.z Negate (kernels.number 1))).functions refl }; first = refl };
  overflow = record { well_formed = record { plain = refl; typed = refl; resolved = refl; allowed = all_allowed systems.overflow.functions refl }; first = refl };
  lines = record { well_formed = record { plain = refl; typed = refl; resolved = refl; allowed = all_allowed systems.line_kernel.functions refl }; first = refl };
  copies = record { well_formed = record { plain = refl; typed = refl; resolved = refl; allowed = all_allowed systems.copies.functions refl }; first = refl };
  copies_twice = record { well_formed = record { plain = refl; typed = refl; resolved = refl; allowed = all_allowed systems.copies_twice.functions refl }; first = refl };
  probes = record { well_formed = record { plain = refl; typed = refl; resolved = refl; allowed = all_allowed systems.probes.functions refl }; first = refl };
  resizes = record { well_formed = record { plain = refl; typed = refl; resolved = refl; allowed = all_allowed (systems.resizes 4).functions refl }; first = refl };
  divides = record { well_formed = record { plain = refl; typed = refl; resolved = refl; allowed = all_allowed systems.divides.functions refl }; first = refl };
  console = record { well_formed = record { plain = refl; typed = refl; resolved = refl; allowed = all_allowed systems.console_kernel.functions refl }; first = refl };
  waits = record { well_formed = record { plain = refl; typed = refl; resolved = refl; allowed = all_allowed systems.waiting_kernel.functions refl }; first = refl };
  twice = record { well_formed = record { plain = refl; typed = refl; resolved = refl; allowed = all_allowed kernels.twice.functions refl }; first = refl };
  thrice = record { well_formed = record { plain = refl; typed = refl; resolved = refl; allowed = all_allowed kernels.thrice.functions refl }; first = refl };
  inverse = record { well_formed = record { plain = refl; typed = refl; resolved = refl; allowed = all_allowed kernels.inverse.functions refl }; first = refl };
}

pub returns-clause-fit : goal.returns-clause-fit
returns-clause-fit c = sevens_fit
