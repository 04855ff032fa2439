use Rattle.std.proofs.Common.{◌≡◌, map, take}
use Rattle.kernel_linker.proofs.linking.copies.Given as goal

abbrev pub invariant-loop-user : goal.invariant-loop-user
invariant-loop-user l = map (λ u. u.items) l.copies.items ≡ map (λ u. u.items) (take l.user-index l.users)
