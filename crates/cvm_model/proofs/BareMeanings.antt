-- What a kernel means doesn't depend on spans in its source: neither its globals nor its dispatches do.
use Rattle.c0_meaning.specs.Bare.{UnitsIgnoreSpans, DispatchesIgnoreSpans}
use Rattle.cvm_model.specs.Kernel.{Changes}
use Rattle.cvm_model.specs.KernelMeaning.{Machines, setting_of, machines_of, outcome_of}
use Rattle.cvm_model.specs.SpansIgnored.{MeaningsIgnoreSpans}

pub meanings_ignore_spans : UnitsIgnoreSpans → DispatchesIgnoreSpans Machines Changes → MeaningsIgnoreSpans
meanings_ignore_spans units dispatches u p = λ i. record {
  global_words = units.words u i;
  names = units.names u i;
  first = units.first u i;
  dispatch = λ n c cause edata user. outcome_of c (dispatches (setting_of u p) n cause edata user c.c0 (machines_of p c) i);
}
