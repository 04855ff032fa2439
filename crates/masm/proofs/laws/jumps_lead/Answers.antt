-- One step each; the targets by arithmetic.
use Rattle.masm.proofs.JumpsLead.{jumps}
use Rattle.masm.proofs.laws.jumps_lead.Goals as goal

pub returns : goal.returns
returns c = jumps
