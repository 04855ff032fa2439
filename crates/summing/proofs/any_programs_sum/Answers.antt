use Rattle.summing.proofs.AnyProgramsSum.{any_programs_sum}
use Rattle.summing.proofs.any_programs_sum.Goals as goal

pub returns : goal.returns
returns c = any_programs_sum c.first_calls_come.ensures c.any_users_sum.ensures
