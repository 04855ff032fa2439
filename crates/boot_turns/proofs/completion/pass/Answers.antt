-- A stretch of the machine, or none.
use Rattle.boot_turns.proofs.QuietStretches.{none_pass}
use Rattle.boot_turns.proofs.completion.pass.Goals as goal

pub returns-then-is_some-clause-passes : goal.returns-then-is_some-clause-passes
returns-then-is_some-clause-passes c = none_pass c.args.machine.now

pub returns-clause-passes : goal.returns-clause-passes
returns-clause-passes c = record { stretch = c.run_quiet-done.ensures.run; rest = c.run_quiet-done.ensures.rest }
