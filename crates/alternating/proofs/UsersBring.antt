-- The users bring the odd and the even numbers: their steps compute.
use Rattle.std.proofs.Common.{ℕ, zero, suc, ◌*◌, ◌≤◌, refl, arith}
use Rattle.mips_table.specs.Flat.{Flat}
use Rattle.cvm_model.specs.Cvm.{first_flat}
use Rattle.kernel_theorems.specs.UserRuns.{CallsAfter}
use Rattle.kernel_theorems.proofs.UserRuns.{all_go}
use Rattle.alternating.specs.Users.{user_1, user_2}
use Rattle.alternating.specs.Property.{leg, behind_calls}

abbrev f1 : Flat
f1 = first_flat user_1

abbrev f2 : Flat
f2 = first_flat user_2

pub brings_odd : (c : ℕ) → c ≤ 2 → CallsAfter (behind_calls f1 c) (leg c) (suc (2 * c))
brings_odd zero few = record { calls = record { goes = all_go 1 f1 refl; edata = 12; traps = refl }; value_is = refl }
brings_odd (suc zero) few = record { calls = record { goes = all_go 2 (behind_calls f1 1) refl; edata = 12; traps = refl }; value_is = refl }
brings_odd (suc (suc zero)) few = record { calls = record { goes = all_go 2 (behind_calls f1 2) refl; edata = 12; traps = refl }; value_is = refl }
brings_odd (suc (suc (suc c))) few = absurd (omega (arith, few))

pub brings_even : (c : ℕ) → c ≤ 2 → CallsAfter (behind_calls f2 c) (leg c) (suc (suc (2 * c)))
brings_even zero few = record { calls = record { goes = all_go 1 f2 refl; edata = 12; traps = refl }; value_is = refl }
brings_even (suc zero) few = record { calls = record { goes = all_go 2 (behind_calls f2 1) refl; edata = 12; traps = refl }; value_is = refl }
brings_even (suc (suc zero)) few = record { calls = record { goes = all_go 2 (behind_calls f2 2) refl; edata = 12; traps = refl }; value_is = refl }
brings_even (suc (suc (suc c))) few = absurd (omega (arith, few))
