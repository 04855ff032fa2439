use Rattle.c0_meaning.proofs.OwnRegistersOnly.{look_at_theirs}
use Rattle.c0_meaning.proofs.run_laws.asm_bodies_look_at_their_registers.Goals as goal

pub returns : goal.returns
returns c = look_at_theirs
