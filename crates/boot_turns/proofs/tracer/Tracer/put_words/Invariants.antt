use Rattle.std.proofs.Common.{◌≡◌, [], Option, None}
use Rattle.cvm_outside.specs.Outside.{Files, output, drive}
use Rattle.cvm_outside.specs.Script.{Performs}
use Rattle.page_model.specs.Paging.{Paged}
use Rattle.mips_machine.specs.Machine.{state_of}
use Rattle.boot_turns.specs.Copies.{copied_kept, steps_left}
use Rattle.boot_turns.specs.RowScripts.{ArePages, copy_script}
use Rattle.boot_turns.proofs.tracer.Tracer.put_words.Given as goal

abbrev pub invariant-loop-i : goal.invariant-loop-i
invariant-loop-i g l = record {
  user : l.self.user ≡ l.fn.self.user;
  steps : l.self.steps ≡ steps_left l.fn.self.steps l.i;
  self : l.self ≡ copied_kept l.fn.self l.i;
  sectors : g.D.Sectors.sectors l.disk ≡ g.D.Sectors.sectors l.fn.disk;
  size : g.D.Sectors.size l.disk ≡ g.D.Sectors.size l.fn.disk;
  script : (pages : Option Paged) → ArePages (g.D.Sectors.sectors l.fn.disk) l.fn.machine l.map pages → (shelf : Files) →
      Performs (copy_script l.map (state_of l.fn.machine []) pages l.fn.self.user l.fn.self.steps l.address l.i)
      (record { shelf = shelf; sink = output g.O.Sink l.fn.out; disk = drive g.D.Sectors l.fn.disk }) (record { shelf = shelf; sink = output g.O.Sink l.out; disk = drive g.D.Sectors l.disk }) None;
}
