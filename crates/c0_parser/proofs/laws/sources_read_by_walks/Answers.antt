use Rattle.c0_parser.proofs.WalksDerive.{reads_by}
use Rattle.c0_parser.proofs.laws.sources_read_by_walks.Goals as goal

pub returns : goal.returns
returns c = reads_by
