use Rattle.summing.proofs.SummingBoots.{summing_boots}
use Rattle.summing.proofs.summing_boots.Goals as goal

pub returns : goal.returns
returns c = summing_boots c.any_users_sum.ensures c.users_call.ensures
