-- The law on rows follows from that on numbers.
use Rattle.schedule_file.proofs.SpelledIsRead.{read_back}
use Rattle.schedule_file.proofs.row.spelled_rows_are_read.Goals as goal

pub returns : goal.returns
returns c = read_back c.whole_numbers_are_spelled.ensures.read
