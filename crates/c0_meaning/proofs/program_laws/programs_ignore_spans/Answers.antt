use Rattle.c0_meaning.proofs.SpansDontMatter.{programs_ignore_spans}
use Rattle.c0_meaning.proofs.program_laws.programs_ignore_spans.Goals as goal

pub returns : goal.returns
returns c = programs_ignore_spans
