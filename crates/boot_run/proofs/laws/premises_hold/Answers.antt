use Rattle.boot_run.proofs.PremisesOfBoots.{are_disk}
use Rattle.boot_run.proofs.laws.premises_hold.Goals as goal

pub returns-clause-loaded : goal.returns-clause-loaded
returns-clause-loaded g c = λ old is room.
    c.systems_can_boot.ensures.loaded (g.D.Sectors.size c.args.disk.now) room old (are_disk (g.D.Sectors.size c.args.disk.now) (g.D.Sectors.sectors c.args.disk.now) (g.met.D.Sectors.sized c.args.disk.now) c.are_sectors.ensures old is)

pub returns-clause-rom : goal.returns-clause-rom
returns-clause-rom g c = λ old is room.
    c.systems_can_boot.ensures.rom (g.D.Sectors.size c.args.disk.now) room old (are_disk (g.D.Sectors.size c.args.disk.now) (g.D.Sectors.sectors c.args.disk.now) (g.met.D.Sectors.sized c.args.disk.now) c.are_sectors.ensures old is)
