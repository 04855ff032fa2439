use Rattle.std.proofs.Common.{refl}
use Rattle.summing.specs.Text.{text}
use Rattle.summing.proofs.summing_separates.Goals as goal

pub returns-clause-none : goal.returns-clause-none
returns-clause-none c = c.texts_change_none.ensures _ _ _ c.text_is_tree.ensures refl

pub returns-clause-separates : goal.returns-clause-separates
returns-clause-separates c =
    let none = c.texts_change_none.ensures _ _ _ c.text_is_tree.ensures refl in
    c.boots_agree.ensures text text none none
