use Rattle.c0_tree.specs.declared.primitive.Program.TheVariants.{Kernel}
use Rattle.c0_types.proofs.OneAnswer.{one_answer}
use Rattle.c0_types.proofs.laws.sources_have_one_answer.Goals as goal

pub returns : goal.returns
returns c = one_answer Kernel c.sources_have_one_answer.ensures c.least_fault_is_there.ensures
