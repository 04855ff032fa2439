-- By the laws that the body calls.
use Rattle.masm.proofs.SectorTransfers.{transfers}
use Rattle.masm.proofs.waiting.sectors_are_transferred.Goals as goal

pub returns : goal.returns
returns c w f = transfers w c.runs_compose.ensures (c.straight_code_runs.ensures w f) (c.the_disk_is_waited_for.ensures w f)
