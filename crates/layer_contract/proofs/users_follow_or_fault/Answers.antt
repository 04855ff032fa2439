-- Any step of a user.
use Rattle.layer_contract.proofs.TurnBegins.{user_steps_or_faults}
use Rattle.layer_contract.proofs.users_follow_or_fault.Goals as goal

pub returns : goal.returns
returns c = user_steps_or_faults c.words_stay_words.ensures
