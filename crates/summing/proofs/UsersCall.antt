-- The users call: their steps compute.
use Rattle.std.proofs.Common.{refl}
use Rattle.cvm_model.specs.Cvm.{first_flat}
use Rattle.kernel_theorems.proofs.UserRuns.{all_go}
use Rattle.summing.specs.Users.{user_one, user_two, UsersCall}

pub users_call : UsersCall
users_call = record {
  one = record { calls = record { goes = all_go 21 (first_flat user_one) refl; edata = 12; traps = refl }; value_is = refl };
  two = record { calls = record { goes = all_go 41 (first_flat user_two) refl; edata = 12; traps = refl }; value_is = refl };
}
