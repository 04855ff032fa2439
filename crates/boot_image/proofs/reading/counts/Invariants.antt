use Rattle.std.proofs.Common.{◌≡◌, ◌-◌, [], length}
use Rattle.boot_image.specs.Reading.{counts_at}
use Rattle.boot_image.proofs.reading.counts.Given as goal

abbrev pub invariant-loop-user : goal.invariant-loop-user
invariant-loop-user l = record {
  counted : length l.counts.items ≡ l.user;
  left : counts_at [] l.most l.users l.bytes ≡ counts_at l.counts.items l.most (l.users - l.user) l.rest;
}
