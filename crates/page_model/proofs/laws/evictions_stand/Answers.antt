-- Part by part, with cases on whether an entry names the frame.
use Rattle.page_model.proofs.StepsKeepMemories.{evicted}
use Rattle.page_model.proofs.laws.evictions_stand.Goals as goal

pub returns : goal.returns
returns c = evicted
