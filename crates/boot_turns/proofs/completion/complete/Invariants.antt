use Rattle.std.proofs.Common.{◌≡◌, ℕ, ◌+◌, ◌-◌, ◌<◌, ◌≤◌, Some, None, Ok}
use Rattle.std.specs.Prelude.{length, IfSome}
use Rattle.std.specs.Option.{option_map}
use Rattle.mips_table.specs.Fits.{NamesSector}
use Rattle.mips_table.specs.Machine.{State, run}
use Rattle.mips_machine.specs.Steps.{outside_of}
use Rattle.boot_turns.specs.Completes.{state_seen, Progress, SkipsTurns}
use Rattle.boot_turns.specs.Tracing.{CanTrace}
use Rattle.boot_turns.specs.LoopScripts.{StepsCall}
use Rattle.boot_turns.proofs.TraceLoops.{Tracks}
use Rattle.boot_turns.proofs.completion.complete.Given as goal

abbrev pub invariant-loop-begun : goal.invariant-loop-begun
invariant-loop-begun g l = record {
  rows : l.machine.rows ≡ l.fn.machine.rows;
  memory : length l.machine.hardware.memory ≡ length l.fn.machine.hardware.memory;
  sector : NamesSector (g.D.Sectors.size l.disk) l.machine.hardware.ports.pending;
  size : g.D.Sectors.size l.disk ≡ g.D.Sectors.size l.fn.disk;
  time : l.machine.time + l.budget ≡ l.fn.machine.time + l.fn.budget;
  few : l.skipped < l.fn.most;
  limit : l.limit < l.fn.most;
  fresh : l.skipped < l.limit → l.begun ≡ None;
  ran : (s : State) (t : ℕ) → state_seen (g.D.Sectors.sectors l.fn.disk) l.fn.machine ≡ Some (run (outside_of l.fn.machine.rows (g.D.Sectors.size l.fn.disk)) s t) →
      (u : ℕ) × (t + l.skipped ≤ u) × (l.budget + u ≡ l.fn.budget + t) × (state_seen (g.D.Sectors.sectors l.disk) l.machine ≡ Some (run (outside_of l.fn.machine.rows (g.D.Sectors.size l.fn.disk)) s u))
      × Progress (outside_of l.fn.machine.rows (g.D.Sectors.size l.fn.disk)) s (t + l.skipped) u l.begun × SkipsTurns (outside_of l.fn.machine.rows (g.D.Sectors.size l.fn.disk)) s t l.skipped
      × (l.skipped < l.limit → u ≡ t + l.skipped)
      × ((j : ℕ) → t ≤ j → j < u → (run (outside_of l.fn.machine.rows (g.D.Sectors.size l.fn.disk)) s j).off ≡ None);
  can : IfSome l.tracer (CanTrace l.map (length l.machine.hardware.memory) l.machine.time (g.D.Sectors.size l.disk));
  user : option_map (λ k. k.user) l.tracer ≡ option_map (λ k. k.user) l.fn.tracer;
  untraced : l.fn.tracer ≡ None → (l.tracer ≡ None) × (l.out ≡ l.fn.out);
  tracks : Tracks (outside_of l.fn.machine.rows (g.D.Sectors.size l.fn.disk)) l.map (state_seen (g.D.Sectors.sectors l.fn.disk) l.fn.machine) (state_seen (g.D.Sectors.sectors l.disk) l.machine)
      (record { tracer = l.fn.tracer; budget = l.fn.budget }) (record { tracer = l.tracer; budget = l.budget });
  less : l.budget ≤ l.fn.budget;
  script : StepsCall {T = Unit {0}} g.O.Sink g.D.Sectors l.map l.fn.machine l.fn.tracer (l.fn.out, l.fn.disk) (l.out, l.disk) (l.fn.budget - l.budget) (Ok tt);
}

abbrev pub decreases-loop-begun : goal.decreases-loop-begun
decreases-loop-begun g l = l.budget
