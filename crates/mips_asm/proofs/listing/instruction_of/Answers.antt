-- An instruction is read back by its row of the table, and another word by its digits.
use Rattle.mips_asm.proofs.LineBack.{reads_back}
use Rattle.mips_asm.proofs.listing.instruction_of.Goals as goal

pub returns-clause-back : goal.returns-clause-back
returns-clause-back c = reads_back c.args.word c.decode.result c.decode.ensures.value c.decode.ensures.found c.ranges.word.fits
