use Rattle.c0_tree.specs.declared.primitive.Program.TheVariants.{Kernel}
use Rattle.program_theorems.proofs.RunInRange.{ordinary}
use Rattle.program_theorems.proofs.booted_systems_are_ordinary.Goals as goal

pub returns : goal.returns
returns c = λ words session s rows before old new h.
    ordinary c.accepted_systems_are_of_their_images.ensures (c.units_of_sources_are_checked.ensures Kernel)
    words old.shelf.file session s rows h.asked
