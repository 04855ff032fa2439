use Rattle.c0_meaning.proofs.NumbersTellTypes.{numbers_tell}
use Rattle.c0_meaning.proofs.laws.numbers_tell.Goals as goal

pub returns : goal.returns
returns c = numbers_tell
