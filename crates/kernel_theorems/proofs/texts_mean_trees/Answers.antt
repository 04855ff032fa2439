use Rattle.kernel_theorems.proofs.TextsMeanTrees.{texts_mean_trees}
use Rattle.kernel_theorems.proofs.texts_mean_trees.Goals as goal

pub returns : goal.returns
returns c = texts_mean_trees c.sources_read_by_walks.ensures c.sources_have_one_answer.ensures c.meanings_ignore_spans.ensures
