use Rattle.c0_expr_runs.proofs.EveryExpression.{right, places}
use Rattle.c0_expr_runs.proofs.laws.expressions_run.Goals as goal

pub returns-clause-typed : goal.returns-clause-typed
returns-clause-typed c = λ w sc p live fs s f area is_typed e t h few cover. right w sc p live s (record { sound = f; straight = c.straight_code_runs.ensures w f; leads = c.jumps_lead.ensures w f }) area is_typed fs e t h few cover

pub returns-clause-given : goal.returns-clause-given
returns-clause-given c = λ w sc p live fs s f area is_typed e t h few cover. Rattle.c0_expr_runs.proofs.EveryExpression.given w sc p live s (record { sound = f; straight = c.straight_code_runs.ensures w f; leads = c.jumps_lead.ensures w f }) area is_typed fs e t h few cover

pub returns-clause-places : goal.returns-clause-places
returns-clause-places c = λ w sc p live fs s f area is_typed e t h few cover lvalue none. places w sc p live s (record { sound = f; straight = c.straight_code_runs.ensures w f; leads = c.jumps_lead.ensures w f }) area is_typed fs e t h few cover lvalue none
