use Rattle.c0_types.proofs.UnitAnswer.{faultless_checked}
use Rattle.c0_types.proofs.laws.units_of_sources_are_checked.Goals as goal

pub returns : goal.returns
returns c = λ program source u is.
    faultless_checked program c.faultless_units_are_checked.ensures c.resolving_is_stable.ensures is.tree u (c.readings_are_plain.ensures source is.tree is.short is.reads) is.faultless is.resolved
