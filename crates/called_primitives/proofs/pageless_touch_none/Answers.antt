use Rattle.called_primitives.proofs.PagelessTouchNone.{pageless_touch_none}
use Rattle.called_primitives.proofs.pageless_touch_none.Goals as goal

pub returns : goal.returns
returns c = pageless_touch_none
