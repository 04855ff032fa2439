use Rattle.program_systems.proofs.AdderTexts.{texts_are_adders}
use Rattle.program_systems.proofs.texts_are_adders.Goals as goal

pub returns : goal.returns
returns c = texts_are_adders
