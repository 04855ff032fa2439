-- The law on rows follows from that on numbers.
use Rattle.schedule_file.proofs.ReadIsSpelling.{spelled_back}
use Rattle.schedule_file.proofs.row.read_rows_are_spelled.Goals as goal

pub returns : goal.returns
returns c = spelled_back c.whole_numbers_are_spelled.ensures.spelled
