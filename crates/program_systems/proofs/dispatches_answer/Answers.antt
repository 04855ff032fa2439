use Rattle.program_systems.proofs.CallerAnswered.{dispatches_answer}
use Rattle.program_systems.proofs.dispatches_answer.Goals as goal

pub returns : goal.returns
returns c = dispatches_answer c.users_go_on.ensures c.ints_are_told.ensures
