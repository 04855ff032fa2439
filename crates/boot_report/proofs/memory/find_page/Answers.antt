use Rattle.std.proofs.Common.{◌≡◌, [], true, sym, ◌∙◌}
use Rattle.mips_machine.specs.Machine.{state_of}
use Rattle.cvm_outside.specs.Script.{done}
use Rattle.boot_report.specs.Resident.{is_resident}
use Rattle.boot_report.proofs.memory.find_page.Goals as goal

pub returns-then-is_resident-clause-asks : goal.returns-then-is_resident-clause-asks
returns-then-is_resident-clause-asks g c shelf sink =
    let there : is_resident c.args.map.now (state_of c.args.machine.now []) c.args.q ≡ true = sym c.is_resident.ensures ∙ c.if-is_resident.true in
    rw there (done _)
