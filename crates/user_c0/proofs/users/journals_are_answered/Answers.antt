use Rattle.user_c0.proofs.AnsweredJournals.{answered}
use Rattle.user_c0.proofs.users.journals_are_answered.Goals as goal

pub returns : goal.returns
returns c = record {
  answered = answered;
  in_runs = λ y kernel ordinary lines units turns n es e. answered _ es e (c.journals_hold_words.ensures y kernel ordinary lines units turns n);
}
