use Rattle.summing.proofs.CompiledSumsBoot.{compiled_sums_boot}
use Rattle.summing.proofs.compiled_sums_boot.Goals as goal

pub returns : goal.returns
returns c = compiled_sums_boot c.accepted_systems_are_of_their_images.ensures c.linked_users_have_their_programs.ensures
    (c.program_texts_mean_trees.ensures _ _ _ c.texts_are_adders.ensures.ten) (c.program_texts_mean_trees.ensures _ _ _ c.texts_are_adders.ensures.twenty)
    c.adders_call.ensures c.images_ignore_spans.ensures c.adders_are_counted.ensures c.any_counted_programs_sum.ensures
