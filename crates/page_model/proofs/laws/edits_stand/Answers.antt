-- Part by part, with cases on whether a page is the edited one.
use Rattle.page_model.proofs.StepsKeepMemories.{edited}
use Rattle.page_model.proofs.laws.edits_stand.Goals as goal

pub returns : goal.returns
returns c = edited
