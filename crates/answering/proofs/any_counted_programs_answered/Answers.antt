use Rattle.answering.proofs.AnyProgramsAnswered.{any_counted_programs_answered}
use Rattle.answering.proofs.any_counted_programs_answered.Goals as goal

pub returns : goal.returns
returns c = any_counted_programs_answered c.programs_ask_and_end.ensures c.counts_tell.ensures c.any_users_answered.ensures
