use Rattle.kernel_theorems.proofs.TextsMeanTrees.{program_texts}
use Rattle.kernel_theorems.proofs.program_texts_mean_trees.Goals as goal

pub returns : goal.returns
returns c = program_texts c.sources_read_by_walks.ensures c.programs_have_one_answer.ensures c.programs_ignore_spans.ensures
