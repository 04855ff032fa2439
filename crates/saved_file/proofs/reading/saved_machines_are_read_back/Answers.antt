use Rattle.saved_file.proofs.ReadBack.{read_back}
use Rattle.saved_file.proofs.reading.saved_machines_are_read_back.Goals as goal

pub returns : goal.returns
returns c = read_back c.saved_machines_are_accepted.ensures
