use Rattle.c0_expr_runs.proofs.TestsWhole.{given_tests}
use Rattle.c0_expr_runs.proofs.laws.tests_run.Goals as goal

pub returns : goal.returns
returns c = λ w sc p live fs s f area is_typed e h few cover. given_tests w sc p live s (record { sound = f; straight = c.straight_code_runs.ensures w f; leads = c.jumps_lead.ensures w f }) area is_typed fs e h few cover
