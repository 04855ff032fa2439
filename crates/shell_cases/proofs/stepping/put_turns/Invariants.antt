-- The disk has its sectors, and steps done and steps left stay together what they were.
use Rattle.std.proofs.Common.{◌≡◌, ◌+◌}
use Rattle.shell_cases.proofs.stepping.put_turns.Given as goal

abbrev pub invariant-loop : goal.invariant-loop
invariant-loop g l = record {
  size : g.D.Sectors.size l.disk ≡ l.run.count;
  time : l.run.machine.time + l.budget ≡ l.fn.steps;
}
