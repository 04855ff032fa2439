-- The law is the lemma on names that are set one after another.
use Rattle.c0_name_check.proofs.OneMoreDeclared.{twice_by_is}
use Rattle.c0_name_check.proofs.spaces.twice_by_test_is_twice.Goals as goal

pub returns : goal.returns
returns c = twice_by_is
