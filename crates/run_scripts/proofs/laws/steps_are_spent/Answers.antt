use Rattle.run_scripts.proofs.laws.steps_are_spent.Goals as goal

pub returns : goal.returns
returns c = λ r e. (c.turns_are_counted.ensures.none r.around r.first r.turns r.steps e).0
