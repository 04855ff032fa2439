-- The words are as many as are saved of the machine.
use Rattle.std.proofs.Common.{◌∙◌, sym}
use Rattle.rom_cases.proofs.desk.Desk.latched.Goals as goal

pub save_state-requires : goal.save_state-requires
save_state-requires c = λ sectors. c.deref_mut.ensures.len ∙ c.in_ok-words.ensures.len ∙ sym (c.state_words.ensures.words sectors 1 1)
