-- By computing.
use Rattle.std.proofs.Common.{refl}
use Rattle.cvm_model.specs.Naming.{NamesAreCalls}
use Rattle.cvm_model.proofs.names_are_calls.Goals as goal

pub returns : goal.returns
returns c = record {
  vm_get = λ u r. refl;
  vm_set = λ u r v. refl;
  vm_size = λ u. refl;
  vm_resize = λ u pages. refl;
  vm_word = λ u a. refl;
  vm_put = λ u a v. refl;
  vm_copy = λ u a v b n. refl;
  con_put = λ w. refl;
  con_get = refl;
  con_left = refl;
}
