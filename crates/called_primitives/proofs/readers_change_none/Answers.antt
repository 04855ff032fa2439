use Rattle.called_primitives.proofs.ReadersChangeNone.{readers_change_none}
use Rattle.called_primitives.proofs.readers_change_none.Goals as goal

pub returns : goal.returns
returns c = readers_change_none
