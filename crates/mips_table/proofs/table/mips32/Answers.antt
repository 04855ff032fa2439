-- The rows of the code are the plain rows of the proof, by computation; all that is said of them follows from that.
use Rattle.std.proofs.Common.{refl}
use Rattle.mips_table.proofs.RowsShareNoWord.{one}
use Rattle.mips_table.proofs.RowsHaveTheirWords.{instructions}
use Rattle.mips_table.proofs.table.mips32.Goals as goal

pub returns-clause-one_row : goal.returns-clause-one_row
returns-clause-one_row c = one _ refl

pub returns-clause-instructions : goal.returns-clause-instructions
returns-clause-instructions c = instructions _ refl
