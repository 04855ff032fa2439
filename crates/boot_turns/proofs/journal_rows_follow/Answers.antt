use Rattle.boot_turns.proofs.JournalRows.{rows_follow}
use Rattle.boot_turns.proofs.journal_rows_follow.Goals as goal

pub returns : goal.returns
returns c = rows_follow
