use Rattle.std.proofs.Common.{sym, subst, ◌∙◌}
use Rattle.run_scripts.specs.Boot.{booted}
use Rattle.run_scripts.specs.Isolation.{session_lines}
use Rattle.user_c0.specs.Events.{IsAnsweredJournal}
use Rattle.program_theorems.proofs.traces_are_answered.Goals as goal

pub returns : goal.returns
returns c = λ words session u s rows before old new status h a es e.
    subst IsAnsweredJournal (sym a.entries_are)
    (c.journals_are_answered.ensures.in_runs (booted s rows) s.unit (c.booted_systems_are_ordinary.ensures words session s rows before old new h) (session_lines session s rows old before) a.units a.turns u es
    (sym a.entries_are ∙ e))
