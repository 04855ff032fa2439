-- The same, by the map's size of code.
use Rattle.layer_contract.proofs.TurnBegins.{user_steps_linked}
use Rattle.layer_contract.proofs.users_follow_linked.Goals as goal

pub returns : goal.returns
returns c = user_steps_linked c.words_stay_words.ensures
