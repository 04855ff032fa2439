use Rattle.std.proofs.Common.{refl}
use Rattle.kernel_theorems.specs.RoundRobinText.{text}
use Rattle.kernel_boots.proofs.separation.round_robin_separates.Goals as goal

pub returns-clause-none : goal.returns-clause-none
returns-clause-none c = c.texts_change_none.ensures _ _ _ c.text_is_round_robin.ensures refl

pub returns-clause-separates : goal.returns-clause-separates
returns-clause-separates c =
    let none = c.texts_change_none.ensures _ _ _ c.text_is_round_robin.ensures refl in
    c.boots_agree.ensures text text none none
