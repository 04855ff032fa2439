-- The six laws together.
use Rattle.real_layer.proofs.laws.the_layer_is_lawful.Goals as goal

pub returns : goal.returns
returns c = λ m sizes code made. record {
  enters_first = c.the_kernel_begins.ensures m sizes code made;
  enters = c.the_kernel_is_called.ensures m sizes code made;
  leaves = c.the_kernel_is_left.ensures m sizes code made;
  exits = c.faults_exit.ensures m sizes code made;
  primitives = (c.primitives_answer.ensures m sizes code made).answers;
  settles = (c.faults_settle.ensures m sizes code made).settles;
}
