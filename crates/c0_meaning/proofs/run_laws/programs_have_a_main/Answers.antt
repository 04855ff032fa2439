use Rattle.c0_tree.specs.declared.primitive.Program.TheVariants.{User}
use Rattle.c0_meaning.proofs.RunsHaveAFirst.{has_first}
use Rattle.c0_meaning.proofs.run_laws.programs_have_a_main.Goals as goal

pub returns : goal.returns
returns c = has_first User
