use Rattle.c0_tokens.proofs.TokensAreSmall.{source_few, source_small}
use Rattle.c0_tokens.proofs.laws.tokens_are_few_and_small.Goals as goal

pub returns-clause-count : goal.returns-clause-count
returns-clause-count c = source_few

pub returns-clause-numbers : goal.returns-clause-numbers
returns-clause-numbers c = source_small
