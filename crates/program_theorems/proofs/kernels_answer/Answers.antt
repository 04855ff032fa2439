use Rattle.std.proofs.Common.{◌∙◌}
use Rattle.run_scripts.specs.Boot.{booted}
use Rattle.run_scripts.specs.Isolation.{session_lines}
use Rattle.program_theorems.proofs.EventsAnswered.{are_events}
use Rattle.program_theorems.proofs.kernels_answer.Goals as goal

pub returns : goal.returns
returns c = record {
  journals = λ y n u lines k answers. are_events y n u lines k answers;
  traces = λ words session u s rows before old new status h a answers.
      let events = are_events (booted s rows) a.units u (session_lines session s rows old before) a.turns answers in
      c.traces_are_answered.ensures words session u s rows before old new status h a events.0 (a.entries_are ∙ events.1);
}
