use Rattle.c0_parser.proofs.PlainSources.{reads_plain}
use Rattle.c0_parser.proofs.laws.readings_are_plain.Goals as goal

pub returns : goal.returns
returns c = λ source u short reads. reads_plain source u short (c.tokens_are_few_and_small.ensures.count source) (c.tokens_are_few_and_small.ensures.numbers source) reads
