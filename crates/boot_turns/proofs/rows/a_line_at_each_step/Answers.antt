-- Each row is computed.
use Rattle.std.proofs.Common.{refl, arith, ◌^◌, ◌<◌}
use Rattle.std.specs.Prelude.{nat_eq}
use Rattle.std.proofs.lemmas.Bool.{cond_both, cond-false, ne_eqb}
use Rattle.mips_table.specs.Machine.{step}
use Rattle.mips_table.specs.Turns.{begins_turn, handled, rests}
use Rattle.boot_turns.proofs.rows.a_line_at_each_step.Goals as goal

pub returns-clause-early : goal.returns-clause-early
unfolding step begins_turn handled rests
returns-clause-early c = record { first_line = refl; lines = refl; begun = refl; complete = refl; ends = refl }

pub returns-clause-in_user_mode : goal.returns-clause-in_user_mode
unfolding step begins_turn handled rests
returns-clause-in_user_mode c = record {
  second_lines = refl;
  second_begun = refl;
  second_complete = refl;
  second_ends = refl;
  third_lines = refl;
  third_begun = refl;
  third_complete = refl;
  third_ends = refl;
}

pub returns-clause-late : goal.returns-clause-late
unfolding step begins_turn handled rests
returns-clause-late c = record { lines = refl; begun = refl; complete = refl; ends = refl }

pub returns-clause-schedule : goal.returns-clause-schedule
returns-clause-schedule c = record {
  eight = λ at t. cond_both (nat_eq t at) 8 0 (λ n. n < 2 ^ 8) (λ _. omega arith) (λ _. omega arith);
  end = λ at t lt. cond-false _ 8 0 (ne_eqb t at (λ e. absurd (omega arith)));
}
