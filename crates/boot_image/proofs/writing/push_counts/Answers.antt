use Rattle.std.proofs.Common.{◌≤◌, List, ℕ, length, ap, arith}
use Rattle.boot_image.proofs.OneUserMore.{all_at}
use Rattle.boot_image.proofs.writing.push_counts.Goals as goal

pub overflow_cast-len : goal.overflow_cast-len
overflow_cast-len c =
    let fits = all_at (λ (u : List ℕ). length u ≤ 65536) (λ v. v.items) c.args.users.now c.loop-user.user-index c.user-item.result c.requires c.loop-user-test.true in
    let seen = ap (λ v. length v.items) c.user-item.is in
    omega (arith, fits, seen, c.len.ensures, c.user-item.result.ok.0)
