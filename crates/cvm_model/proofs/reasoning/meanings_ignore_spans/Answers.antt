use Rattle.cvm_model.proofs.BareMeanings.{meanings_ignore_spans}
use Rattle.cvm_model.proofs.reasoning.meanings_ignore_spans.Goals as goal

pub returns : goal.returns
returns c = meanings_ignore_spans c.units_ignore_spans.ensures c.dispatches_ignore_spans.ensures
