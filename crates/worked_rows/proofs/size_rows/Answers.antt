use Rattle.std.proofs.Common.{refl}
use Rattle.c0_meaning.specs.Words.{holds, struct_words}
use Rattle.worked_rows.proofs.size_rows.Goals as goal

pub returns-clause-sizes : goal.returns-clause-sizes
unfolding holds struct_words
returns-clause-sizes c = record {
  small = refl;
  nested = refl;
  product = refl;
  undefined = refl;
  through_pointer = refl;
  through_array = refl;
  both = refl;
  merely = refl;
  cycle = refl;
  above = refl;
}

pub returns-clause-types : goal.returns-clause-types
unfolding holds struct_words
returns-clause-types c = record { unknown = refl; empty = refl; full = refl; large = refl; far = refl }

pub returns-clause-names : goal.returns-clause-names
returns-clause-names c = record { twice = refl; primitive = refl; order = refl }
