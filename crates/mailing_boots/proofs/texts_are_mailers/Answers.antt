use Rattle.mailing_boots.proofs.ProgramTexts.{texts_are_mailers}
use Rattle.mailing_boots.proofs.texts_are_mailers.Goals as goal

pub returns : goal.returns
returns c = texts_are_mailers
