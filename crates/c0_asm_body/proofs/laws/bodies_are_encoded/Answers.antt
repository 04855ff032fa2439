-- By the law that the body calls.
use Rattle.c0_asm_body.proofs.WordsSetRegisters.{are_encoded}
use Rattle.c0_asm_body.proofs.laws.bodies_are_encoded.Goals as goal

pub returns : goal.returns
returns c = are_encoded c.encoding_of_decoding.ensures
