use Rattle.c0_meaning.proofs.SpansDontMatter.{dispatches_ignore_spans}
use Rattle.c0_meaning.proofs.reasoning.dispatches_ignore_spans.Goals as goal

pub returns : goal.returns
returns g c = dispatches_ignore_spans _ _
