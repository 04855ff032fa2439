use Rattle.c0_tokens.proofs.TokensEnd.{source_ends, source_order}
use Rattle.c0_tokens.proofs.laws.tokens_stand_in_order.Goals as goal

pub returns-clause-ends : goal.returns-clause-ends
returns-clause-ends c = source_ends

pub returns-clause-order : goal.returns-clause-order
returns-clause-order c = source_order
