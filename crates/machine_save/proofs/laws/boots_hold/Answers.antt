use Rattle.boot_run.proofs.PremisesOfBoots.{are_disk}
use Rattle.machine_save.proofs.PremisesOfSaves.{are_taken_up}
use Rattle.machine_save.proofs.laws.boots_hold.Goals as goal

pub returns-clause-boots : goal.returns-clause-boots
returns-clause-boots g c = c.systems_can_boot.ensures.loaded (g.D.Sectors.size c.args.disk.now)

pub returns-clause-disk : goal.returns-clause-disk
returns-clause-disk g c = are_disk (g.D.Sectors.size c.args.disk.now) (g.D.Sectors.sectors c.args.disk.now) (g.met.D.Sectors.sized c.args.disk.now) c.are_sectors.ensures

pub returns-clause-taken_up : goal.returns-clause-taken_up
returns-clause-taken_up g c =
    are_taken_up c.saved_boots_are_of_runs.ensures c.saved_machines_are_read_back.ensures c.args.boot.now c.args.schedule.now (g.D.Sectors.size c.args.disk.now) (c.systems_can_boot.ensures.loaded (g.D.Sectors.size c.args.disk.now))
