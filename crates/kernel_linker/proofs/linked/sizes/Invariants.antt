use Rattle.std.proofs.Common.{◌≡◌, map, take}
use Rattle.kernel_linker.specs.Linked.{sizes_of}
use Rattle.kernel_linker.proofs.linked.sizes.Given as goal

abbrev pub invariant-loop-user : goal.invariant-loop-user
invariant-loop-user l = l.sizes.items ≡ sizes_of (map (λ u. u.items) (take l.user-index l.users))
