use Rattle.c0_tokens.proofs.LongestMark.{cuts_longest}
use Rattle.c0_tokens.proofs.laws.longest_mark_is_cut.Goals as goal

pub returns : goal.returns
returns c = cuts_longest
