-- The two users of the system: each counts register 4 up to a number, and then calls.
use Rattle.std.specs.Prelude.{ℕ, List, [], ◌∷◌}
use Rattle.cvm_model.specs.Cvm.{first_flat}
use Rattle.kernel_theorems.specs.UserRuns.{CallsAfter}

-- ori r5, r0, 10; addiu r4, r4, 1; bne r4, r5, -2; syscall
abbrev pub user_one : List ℕ
user_one = 0x3405000a ∷ 0x24840001 ∷ 0x1485fffe ∷ 0x0000000c ∷ []

-- the same up to 20
abbrev pub user_two : List ℕ
user_two = 0x34050014 ∷ 0x24840001 ∷ 0x1485fffe ∷ 0x0000000c ∷ []

-- THEY CALL: after 21 steps with 10, and after 41 with 20
pub record UsersCall : Type 0 where
  pub one : CallsAfter (first_flat user_one) 21 10
  pub two : CallsAfter (first_flat user_two) 41 20
