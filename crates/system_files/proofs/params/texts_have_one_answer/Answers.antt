use Rattle.system_files.proofs.FirstTextFault.{answer_so, answer_only}
use Rattle.system_files.proofs.params.texts_have_one_answer.Goals as goal

pub returns-clause-so : goal.returns-clause-so
returns-clause-so c = answer_so c.whole_numbers_are_spelled.ensures.read c.whole_numbers_are_spelled.ensures.spelled

pub returns-clause-only : goal.returns-clause-only
returns-clause-only c = answer_only c.whole_numbers_are_spelled.ensures.read c.whole_numbers_are_spelled.ensures.spelled
