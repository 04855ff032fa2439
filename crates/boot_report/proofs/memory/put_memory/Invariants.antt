use Rattle.std.proofs.Common.{◌≡◌, [], None, length}
use Rattle.mips_machine.specs.Machine.{state_of}
use Rattle.cvm_outside.specs.Outside.{Files, output, drive}
use Rattle.cvm_outside.specs.Script.{Performs}
use Rattle.boot_report.specs.Scripts.{pages_script}
use Rattle.boot_report.proofs.memory.put_memory.Given as goal

abbrev pub invariant-loop-p : goal.invariant-loop-p
invariant-loop-p g l = record {
  script : (shelf : Files) → Performs (pages_script l.map (state_of l.machine []) (g.D.Sectors.sectors l.fn.disk) l.first l.p)
      (record { shelf = shelf; sink = output g.O.Sink l.fn.out; disk = drive g.D.Sectors l.fn.disk }) (record { shelf = shelf; sink = output g.O.Sink l.out; disk = drive g.D.Sectors l.disk }) None;
  sectors : g.D.Sectors.sectors l.disk ≡ g.D.Sectors.sectors l.fn.disk;
  size : g.D.Sectors.size l.disk ≡ g.D.Sectors.size l.fn.disk;
  whole : length l.words ≡ 1024;
}
