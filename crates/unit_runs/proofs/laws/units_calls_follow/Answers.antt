-- By the laws that the body calls.
use Rattle.unit_runs.proofs.DispatchRuns.{calls_follow}
use Rattle.unit_runs.proofs.laws.units_calls_follow.Goals as goal

pub returns : goal.returns
returns c = calls_follow c.code_runs_on_the_machine.ensures c.runs_join.ensures c.words_stay_words.ensures c.alikes_stand.ensures c.rows_are_called.ensures c.units_stay_typed.ensures.ints c.kernels_are_entered.ensures
    c.runs_follow.ensures c.areas_hold.ensures c.kernels_have_a_dispatch.ensures c.types_are_equal_as_written.ensures c.held_values_are_their_words.ensures
