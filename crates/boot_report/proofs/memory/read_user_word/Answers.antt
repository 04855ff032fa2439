-- Where the page is in a frame the disk isn't called.
use Rattle.std.proofs.Common.{◌≡◌, [], true, sym, ◌∙◌}
use Rattle.mips_machine.specs.Machine.{state_of}
use Rattle.cvm_outside.specs.Script.{done}
use Rattle.boot_report.specs.Resident.{is_resident, page_of_word}
use Rattle.boot_report.proofs.memory.read_user_word.Goals as goal

pub returns-then-is_resident-clause-asks : goal.returns-then-is_resident-clause-asks
returns-then-is_resident-clause-asks g c shelf sink =
    let test = rw c.params.ensures.value at c.is_resident.ensures in
    let there : is_resident c.args.map.now (state_of c.args.machine.now []) (page_of_word c.args.map.now c.args.user c.args.k) ≡ true = sym test ∙ c.if-is_resident.true in
    rw there (done _)
