-- By the laws that the body calls.
use Rattle.unit_runs.proofs.WholeBoots.{whole_follows}
use Rattle.unit_runs.proofs.follows.linked_boots_follow.Goals as goal

pub returns : goal.returns
returns c = whole_follows (record {
  faultless = c.units_are_typed_or_faulty.ensures;
  zeros = c.zeros_have_the_words_of_their_types.ensures;
  short = c.units_are_short.ensures;
  placed = c.units_have_addresses.ensures;
  stand = c.units_stand.ensures;
  kernels = c.units_are_kernels.ensures;
  stay = c.units_stay_typed.ensures.typed;
  run = c.compiled_units_run.ensures;
  calls = c.compiled_units_calls_follow.ensures;
})
