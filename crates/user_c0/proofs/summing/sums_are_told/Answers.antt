use Rattle.user_c0.proofs.SummingComputed.{told}
use Rattle.user_c0.proofs.summing.sums_are_told.Goals as goal

pub returns : goal.returns
returns c = told c.programs_ignore_spans.ensures c.answers_ahead_dont_matter.ensures c.traps_are_known.ensures c.programs_stay.ensures
