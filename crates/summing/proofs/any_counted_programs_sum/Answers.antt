use Rattle.summing.proofs.AnyProgramsSum.{any_counted_programs_sum}
use Rattle.summing.proofs.any_counted_programs_sum.Goals as goal

pub returns : goal.returns
returns c = any_counted_programs_sum c.first_calls_come.ensures c.counts_tell.ensures c.any_users_sum.ensures
