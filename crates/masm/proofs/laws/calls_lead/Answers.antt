-- From where jumps lead.
use Rattle.masm.proofs.CallsAndReturns.{calls_lead}
use Rattle.masm.proofs.laws.calls_lead.Goals as goal

pub returns : goal.returns
returns c w f = calls_lead w f
