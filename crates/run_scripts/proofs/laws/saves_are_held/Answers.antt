use Rattle.run_scripts.proofs.PromisedSaves.{saves_are_held}
use Rattle.run_scripts.proofs.laws.saves_are_held.Goals as goal

pub returns : goal.returns
returns c = saves_are_held c.laws_below.ensures (record {
  machines = record {
    begins = c.a_new_machine_is_steady.ensures;
    stays = c.machines_stay_steady.ensures;
    sums = c.runs_are_taken_up.ensures;
    counts = c.laws_below.ensures.runs.count;
    runs = c.laws_below.ensures.runs.machines;
    order = c.parts_are_in_order.ensures;
    whole = c.memory_is_whole.ensures;
  };
  read = c.saved_machines_are_read_back.ensures;
}) c.resumable_words_are_answered.ensures.resumable
