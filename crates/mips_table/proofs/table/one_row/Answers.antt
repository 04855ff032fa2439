-- The law of rows that pass the test, for any rows.
use Rattle.mips_table.proofs.RowsShareNoWord.{one}
use Rattle.mips_table.proofs.table.one_row.Goals as goal

pub returns : goal.returns
returns c = one c.args.rows.now c.requires
