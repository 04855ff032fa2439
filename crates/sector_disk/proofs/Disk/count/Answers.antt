-- The end of a step, by the command that was under way.
use Rattle.std.proofs.Common.{◌-◌, rules, sym, ap, ◌∙◌, arith}
use Rattle.mips_table.specs.Device as device
use Rattle.sector_disk.specs.Ports.{Ports}
use Rattle.frame_store.specs.Words.{frame_of}
use Rattle.cvm_outside.specs.Script.{done}
use Rattle.sector_disk.specs.Transfers.{pending_of}
use Rattle.sector_disk.proofs.CommandEnds.{idle_stays, no_read, no_write, reading_later, writing_later, reading_now, writing_now}
use Rattle.sector_disk.proofs.Disk.count.Goals as goal

pub returns-in-Idle-clause-end : goal.returns-in-Idle-clause-end
returns-in-Idle-clause-end g c = record {
  ended = idle_stays _ _ _ _ (g.met.D.Sectors.sized c.args.disk.now) (ap (λ (p : Ports). p.pending) (sym c.self.view_is) ∙ ap pending_of c.in-Idle.is);
  fault = search rules;
  ports = search rules;
  under_way = search rules;
  size = search rules;
}

pub returns-in-Reading-eq0-default-clause-end : goal.returns-in-Reading-eq0-default-clause-end
returns-in-Reading-eq0-default-clause-end g c = record {
  ended = reading_now _ _ _ _ c.in-Reading-eq0-default.left c.in-Reading-eq0-default.sector _ _ _ _ (g.met.D.Sectors.sized c.args.disk.now) c.requires.sector (sym c.in-Reading-eq0-default.left-is ∙ c.in-Reading-eq0-default.left-test) (ap (λ (p : Ports). p.pending) (sym c.self.view_is) ∙ ap pending_of c.in-Reading-eq0-default.is) (ap (λ (p : Ports). let q : Ports = record { sector = p.sector; pending = device.Idle; commands = p.commands } in q) c.self.view_is) c.read_sector.ensures.words c.read_sector.ensures.sectors;
  fault = search rules;
  ports = search rules;
  under_way = search rules;
  size = search rules;
}

pub returns-in-Writing-eq0-default-clause-end : goal.returns-in-Writing-eq0-default-clause-end
returns-in-Writing-eq0-default-clause-end g c = record {
  ended = writing_now _ _ _ _ c.in-Writing-eq0-default.left c.in-Writing-eq0-default.sector _ _ _ (g.met.D.Sectors.sized c.args.disk.now) (sym c.in-Writing-eq0-default.left-is ∙ c.in-Writing-eq0-default.left-test) (ap (λ (p : Ports). p.pending) (sym c.self.view_is) ∙ ap pending_of c.in-Writing-eq0-default.is) (ap (λ (p : Ports). let q : Ports = record { sector = p.sector; pending = device.Idle; commands = p.commands } in q) c.self.view_is) c.write_sector.ensures.words;
  fault = search rules;
  ports = search rules;
  under_way = search rules;
  size = search rules;
}

pub returns-in-Reading-clause-end : goal.returns-in-Reading-clause-end
returns-in-Reading-clause-end g c = record {
  ended = reading_later _ _ _ c.in-Reading.left c.in-Reading.sector _ _ (g.met.D.Sectors.sized c.args.disk.now) (let some = rw c.in-Reading.is at c.in-Reading.left-test.1 in omega arith) (ap (λ (p : Ports). p.pending) (sym c.self.view_is) ∙ ap pending_of c.in-Reading.is) (ap (λ (p : Ports). let q : Ports = record { sector = p.sector; pending = device.Reading (c.in-Reading.left - 1) c.in-Reading.sector; commands = p.commands } in q) c.self.view_is);
  fault = search rules;
  ports = search rules;
  under_way = search rules;
  size = search rules;
}

pub returns-in-Writing-clause-end : goal.returns-in-Writing-clause-end
returns-in-Writing-clause-end g c = record {
  ended = writing_later _ _ _ c.in-Writing.left c.in-Writing.sector _ _ (g.met.D.Sectors.sized c.args.disk.now) (let some = rw c.in-Writing.is at c.in-Writing.left-test.1 in omega arith) (ap (λ (p : Ports). p.pending) (sym c.self.view_is) ∙ ap pending_of c.in-Writing.is) (ap (λ (p : Ports). let q : Ports = record { sector = p.sector; pending = device.Writing (c.in-Writing.left - 1) c.in-Writing.sector; commands = p.commands } in q) c.self.view_is);
  fault = search rules;
  ports = search rules;
  under_way = search rules;
  size = search rules;
}

pub returns-in-Idle-clause-script : goal.returns-in-Idle-clause-script
returns-in-Idle-clause-script g c shelf sink =
    let e = ap (λ (p : Ports). p.pending) (sym c.self.view_is) ∙ ap pending_of c.in-Idle.is in rw e (done _)

pub returns-in-Reading-clause-script : goal.returns-in-Reading-clause-script
returns-in-Reading-clause-script g c shelf sink =
    let e = ap (λ (p : Ports). p.pending) (sym c.self.view_is) ∙ ap pending_of c.in-Reading.is in
    let some = rw c.in-Reading.is at c.in-Reading.left-test.1 in
    rw (e, no_read c.in-Reading.left c.in-Reading.sector (frame_of c.args.frames.now c.args.buffer) (omega arith)) (done _)

pub returns-in-Writing-clause-script : goal.returns-in-Writing-clause-script
returns-in-Writing-clause-script g c shelf sink =
    let e = ap (λ (p : Ports). p.pending) (sym c.self.view_is) ∙ ap pending_of c.in-Writing.is in
    let some = rw c.in-Writing.is at c.in-Writing.left-test.1 in
    rw (e, no_write c.in-Writing.left c.in-Writing.sector (frame_of c.args.frames.now c.args.buffer) (omega arith)) (done _)

pub returns-in-Writing-eq0-default-clause-script : goal.returns-in-Writing-eq0-default-clause-script
returns-in-Writing-eq0-default-clause-script g c shelf sink =
    let e = ap (λ (p : Ports). p.pending) (sym c.self.view_is) ∙ ap pending_of c.in-Writing-eq0-default.is in
    let none = sym c.in-Writing-eq0-default.left-is ∙ c.in-Writing-eq0-default.left-test in
    rw (e, none) (c.write_sector.ensures.script shelf sink)
