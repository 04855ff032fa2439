use Rattle.c0_parser.proofs.OneAnswer.{one_answer}
use Rattle.c0_parser.proofs.laws.sources_have_one_answer.Goals as goal

pub returns : goal.returns
returns c = one_answer
