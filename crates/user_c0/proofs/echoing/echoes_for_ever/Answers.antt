use Rattle.user_c0.proofs.OneEntryEachTurn.{echoes}
use Rattle.user_c0.proofs.echoing.echoes_for_ever.Goals as goal

pub returns : goal.returns
returns c = echoes c.programs_ignore_spans.ensures c.answers_ahead_dont_matter.ensures c.what_is_made_is_asked.ensures c.traps_are_known.ensures
