use Rattle.boot_run.proofs.SavedFiles.{are_of_runs}
use Rattle.boot_run.proofs.resuming.saved_boots_are_of_runs.Goals as goal

pub returns : goal.returns
returns c = are_of_runs (record {
  begins = c.a_new_machine_is_steady.ensures;
  stays = c.machines_stay_steady.ensures;
  sums = c.runs_are_taken_up.ensures;
  counts = c.turns_are_counted.ensures;
  runs = c.machines_run.ensures;
  order = c.parts_are_in_order.ensures;
  whole = c.memory_is_whole.ensures;
})
