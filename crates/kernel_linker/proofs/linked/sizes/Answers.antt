use Rattle.std.proofs.Common.{ℕ, ◌≡◌, ◌≤◌, List, Vec, Global, length, subst, sym, arith}
use Rattle.kernel_linker.proofs.UserLists.{all_at}
use Rattle.kernel_linker.proofs.linked.sizes.Goals as goal

pub overflow_cast-len : goal.overflow_cast-len
overflow_cast-len c =
    let short : length c.user-item.result.items ≤ 65536 = subst (λ (v : Vec ℕ Global). length v.items ≤ 65536) (sym c.user-item.is)
    (all_at (λ (u : List ℕ). length u ≤ 65536) (λ (v : Vec ℕ Global). v.items) c.args.users.now c.loop-user.user-index c.user-item.result c.requires c.loop-user-test.true) in
    omega arith

pub overflow_add-len : goal.overflow_add-len
overflow_add-len c =
    let short : length c.user-item.result.items ≤ 65536 = subst (λ (v : Vec ℕ Global). length v.items ≤ 65536) (sym c.user-item.is)
    (all_at (λ (u : List ℕ). length u ≤ 65536) (λ (v : Vec ℕ Global). v.items) c.args.users.now c.loop-user.user-index c.user-item.result c.requires c.loop-user-test.true) in
    omega arith
