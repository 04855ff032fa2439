use Rattle.c0_expr_runs.proofs.ScalarStores.{stored, registered, typed}
use Rattle.c0_expr_runs.proofs.laws.stores_hold.Goals as goal

pub returns : goal.returns
returns g = record {
  in_memory = λ w sc p live s c area spread h l t x leads o scalar. stored w sc p live s c area l t x spread h leads o scalar;
  in_register = λ w sc p live s c area h n t x form e. registered w sc p live s c area n t x form h e;
  typed = λ sc p s h l t x leads f. typed sc p s l t x h leads f;
}
