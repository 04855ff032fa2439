use Rattle.c0_expr_runs.proofs.WordStored.{stores}
use Rattle.c0_expr_runs.proofs.laws.stores_run.Goals as goal

pub returns : goal.returns
returns c = λ w f. stores w (record { sound = f; straight = c.straight_code_runs.ensures w f; leads = c.jumps_lead.ensures w f })
