use Rattle.program_theorems.proofs.SumsTraced.{traced}
use Rattle.program_theorems.proofs.sums_are_traced.Goals as goal

pub returns : goal.returns
returns c = traced (c.program_texts_mean_trees.ensures _ _ _ c.text_is_summing.ensures) c.linked_users_have_their_programs.ensures c.booted_programs_run.ensures c.sums_are_told.ensures c.arguments_stay.ensures
