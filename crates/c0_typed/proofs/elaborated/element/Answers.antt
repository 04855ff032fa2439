use Rattle.std.proofs.Common.{rules}
use Rattle.c0_typed.proofs.elaborated.element.Goals as goal

pub returns : goal.returns
returns c = record { tree = search rules; ty = search rules; declared = search rules; resolved = c.element_of-ty.ensures.resolved _ c.requires }
