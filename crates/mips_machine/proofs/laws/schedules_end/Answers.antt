-- What the schedule says of its last step.
use Rattle.std.proofs.Common.{◌<◌, subst, sym}
use Rattle.mips_machine.proofs.laws.schedules_end.Goals as goal

pub returns-clause-end : goal.returns-clause-end
returns-clause-end c count t past = c.last_step.ensures.quiet t (subst (λ n. n < t) (sym c.last_step.ensures.value) past)
