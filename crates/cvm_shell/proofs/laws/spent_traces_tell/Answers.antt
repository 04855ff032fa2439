use Rattle.cvm_shell.proofs.ProgramJournals.{spent_traces}
use Rattle.cvm_shell.proofs.laws.spent_traces_tell.Goals as goal

pub returns : goal.returns
returns c = spent_traces c.journals_replay.ensures
