use Rattle.c0_meaning.proofs.SpansDontMatter.{units_ignore_spans}
use Rattle.c0_meaning.proofs.reasoning.units_ignore_spans.Goals as goal

pub returns : goal.returns
returns c = units_ignore_spans
