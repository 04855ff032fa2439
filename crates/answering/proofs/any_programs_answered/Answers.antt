use Rattle.answering.proofs.AnyProgramsAnswered.{any_programs_answered}
use Rattle.answering.proofs.any_programs_answered.Goals as goal

pub returns : goal.returns
returns c = any_programs_answered c.programs_ask_and_end.ensures c.any_users_answered.ensures
