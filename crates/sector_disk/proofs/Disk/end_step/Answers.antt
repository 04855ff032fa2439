-- No command is under way.
use Rattle.std.proofs.Common.{rules, sym, ap, ◌∙◌}
use Rattle.mips_table.specs.Device.{is_busy}
use Rattle.cvm_outside.specs.Script.{done}
use Rattle.sector_disk.specs.Ports.{Ports}
use Rattle.sector_disk.proofs.CommandEnds.{idle_stays, not_busy}
use Rattle.sector_disk.proofs.Disk.end_step.Goals as goal

pub returns-then-not-is_busy-clause-end : goal.returns-then-not-is_busy-clause-end
returns-then-not-is_busy-clause-end g c = record {
  ended = idle_stays _ _ _ _ (g.met.D.Sectors.sized c.args.disk.now) (not_busy _ (ap (λ (p : Ports). is_busy p.pending) (sym c.self.view_is) ∙ sym c.is_busy.ensures ∙ c.if-not-is_busy.true));
  fault = search rules;
  ports = search rules;
  under_way = search rules;
  size = search rules;
}

pub returns-then-not-is_busy-clause-script : goal.returns-then-not-is_busy-clause-script
returns-then-not-is_busy-clause-script g c shelf sink =
    let e = not_busy _ (ap (λ (p : Ports). is_busy p.pending) (sym c.self.view_is) ∙ sym c.is_busy.ensures ∙ c.if-not-is_busy.true) in rw e (done _)
