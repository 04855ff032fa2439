-- No count of faults rises, since each stays 0.
use Rattle.shell_cases.proofs.SureStatuses.{no_rise, no_sink, too_long_only, too_small_only}
use Rattle.shell_cases.proofs.sure.run_surely.Goals as goal

pub returns-clause-sink : goal.returns-clause-sink
returns-clause-sink c = no_sink _ _ _ _ no_rise (c.statuses_are_caused.ensures _ _ _ _ c.run.ensures.script)

pub returns-clause-shelf : goal.returns-clause-shelf
returns-clause-shelf c = λ e.
    let long = too_long_only _ _ _ _ no_rise (c.statuses_are_caused.ensures _ _ _ _ c.run.ensures.script) e in
    record { comes = long.is_plan.comes; taken_is = long.taken }

pub returns-clause-disk : goal.returns-clause-disk
returns-clause-disk c = λ e.
    let small = too_small_only _ _ _ _ no_rise (c.statuses_are_caused.ensures _ _ _ _ c.run.ensures.script) e in
    record { plan = small.plan; comes = small.is_plan.comes; more = small.is }
