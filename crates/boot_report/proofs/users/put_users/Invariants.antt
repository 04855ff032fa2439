use Rattle.std.proofs.Common.{◌≡◌, None}
use Rattle.cvm_outside.specs.Outside.{Files, output, drive}
use Rattle.cvm_outside.specs.Script.{Performs}
use Rattle.boot_report.specs.Scripts.{users_script}
use Rattle.boot_report.proofs.users.put_users.Given as goal

abbrev pub invariant-loop-i : goal.invariant-loop-i
invariant-loop-i g l = record {
  script : (shelf : Files) → Performs (users_script l.map l.machine (g.D.Sectors.sectors l.fn.disk) l.running l.i)
      (record { shelf = shelf; sink = output g.O.Sink l.fn.out; disk = drive g.D.Sectors l.fn.disk }) (record { shelf = shelf; sink = output g.O.Sink l.out; disk = drive g.D.Sectors l.disk }) None;
  sectors : g.D.Sectors.sectors l.disk ≡ g.D.Sectors.sectors l.fn.disk;
  size : g.D.Sectors.size l.disk ≡ g.D.Sectors.size l.fn.disk;
}
