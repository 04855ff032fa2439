-- By the laws that the body calls.
use Rattle.boot_turns.proofs.RomIsStart.{rom_starts}
use Rattle.boot_turns.proofs.the_rom_starts.Goals as goal

pub returns : goal.returns
returns c = rom_starts c.the_loaded_machine_resets.ensures c.the_loaded_machine_starts.ensures.beyond c.the_machine_boots_from_its_rom.ensures c.memory_is_whole.ensures
