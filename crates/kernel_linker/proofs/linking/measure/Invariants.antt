use Rattle.std.proofs.Common.{◌≡◌, ◌+◌, map, drop}
use Rattle.kernel_linker.specs.Link.{measured}
use Rattle.kernel_linker.proofs.linking.measure.Given as goal

abbrev pub invariant-loop-user : goal.invariant-loop-user
invariant-loop-user l = record {
  number : l.number ≡ l.user-index + 1;
  left : measured l.most 1 (map (λ u. u.items) l.users) ≡ measured l.most l.number (map (λ u. u.items) (drop l.user-index l.users));
}
