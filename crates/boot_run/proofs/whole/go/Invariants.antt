use Rattle.std.proofs.Common.{◌≡◌, ◌+◌, ◌-◌, ◌≤◌, None, Ok}
use Rattle.boot_turns.specs.LoopScripts.{SomeMake}
use Rattle.boot_run.specs.AnyScripts.{TurnsUntold}
use Rattle.boot_run.specs.TurnCalls.{run_around, KeepsLoad}
use Rattle.boot_run.proofs.AnyRunCalls.{AnyGoing}
use Rattle.boot_run.proofs.GoScripts.{KeepsMade}
use Rattle.boot_run.proofs.LoopOverTurns.{KeepsGoing}
use Rattle.boot_run.proofs.whole.go.Given as goal

abbrev pub invariant-loop-left : goal.invariant-loop-left
invariant-loop-left g l = record {
  kept : KeepsLoad l.fn.run l.run;
  fault : l.run.fault ≡ None;
  size : g.D.Sectors.size l.disk ≡ g.D.Sectors.size l.fn.disk;
  time : l.run.machine.time + l.budget ≡ l.fn.run.machine.time + l.fn.budget;
  few : l.left ≤ l.fn.turns;
  going : KeepsGoing (g.D.Sectors.size l.fn.disk) l.fn.run (run_around l.fn.run (g.D.Sectors.sectors l.fn.disk) l.fn.budget) (l.fn.turns - l.left)
      (run_around l.run (g.D.Sectors.sectors l.disk) l.budget);
  anyhow : AnyGoing (g.D.Sectors.size l.fn.disk) l.fn.run (run_around l.fn.run (g.D.Sectors.sectors l.fn.disk) l.fn.budget) (l.fn.turns - l.left)
      (run_around l.run (g.D.Sectors.sectors l.disk) l.budget);
  still : l.fn.turns - l.left ≡ 0 → (l.run.machine.time ≡ l.fn.run.machine.time) × (l.run.ended ≡ l.fn.run.ended);
  made : KeepsMade g.O.Sink g.D.Sectors l.fn.run l.fn.out l.fn.disk l.out l.disk l.fn.budget (l.fn.turns - l.left) l.run.machine.time;
  some : SomeMake {T = Unit {0}} g.O.Sink g.D.Sectors (l.fn.out, l.fn.disk) (l.out, l.disk) (Ok tt);
  less : l.budget ≤ l.fn.budget;
  untraced : l.fn.run.tracer ≡ None → l.run.tracer ≡ None;
  untold : TurnsUntold {T = Unit {0}} g.O.Sink g.D.Sectors l.fn.run (l.fn.out, l.fn.disk) (l.out, l.disk) (l.fn.budget - l.budget) (Ok tt);
}

abbrev pub decreases-loop-left : goal.decreases-loop-left
decreases-loop-left g l = l.left
