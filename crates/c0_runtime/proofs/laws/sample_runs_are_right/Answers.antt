-- The runs are computed.
use Rattle.std.proofs.Common.{refl}
use Rattle.mips_table.specs.Code.{act}
use Rattle.c0_runtime.proofs.laws.sample_runs_are_right.Goals as goal

pub returns-clause-made : goal.returns-clause-made
unfolding act
returns-clause-made c = record { at = refl; answer = refl; used = refl; before = refl; first = refl; last = refl; behind = refl }

pub returns-clause-refused : goal.returns-clause-refused
unfolding act
returns-clause-refused c = record { at = refl; answer = refl; used = refl; first = refl }

pub returns-clause-answers : goal.returns-clause-answers
unfolding act
returns-clause-answers c = record {
  product = record { at = refl; is = refl };
  quotient = record { at = refl; is = refl };
  remainder = record { at = refl; is = refl };
  least = record { at = refl; is = refl };
  nothing_left = record { at = refl; is = refl };
  by_zero = refl;
}

pub returns-clause-entered : goal.returns-clause-entered
unfolding act
returns-clause-entered c = record { at = refl; globals = refl; frames = refl; stack = refl; back = refl }
