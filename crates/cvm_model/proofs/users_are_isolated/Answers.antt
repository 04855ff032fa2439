-- Isolation.
use Rattle.cvm_model.proofs.JournalsReplay.{isolated}
use Rattle.cvm_model.proofs.users_are_isolated.Goals as goal

pub returns : goal.returns
returns c = isolated
