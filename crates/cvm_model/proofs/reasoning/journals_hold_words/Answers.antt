use Rattle.cvm_model.proofs.SetValuesAreWords.{journals_hold_words}
use Rattle.cvm_model.proofs.reasoning.journals_hold_words.Goals as goal

pub returns : goal.returns
returns c = journals_hold_words c.runs_are_lawful.ensures c.first_states_are_typed.ensures c.calls_are_safe.ensures.dispatches c.entries_pass.ensures
