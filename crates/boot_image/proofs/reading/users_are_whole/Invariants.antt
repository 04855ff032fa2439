use Rattle.std.proofs.Common.{◌≡◌, ◌≤◌, ◌+◌, ◌*◌, drop}
use Rattle.boot_image.specs.Reading.{users_at}
use Rattle.boot_image.proofs.reading.users_are_whole.Given as goal

abbrev pub invariant-loop-count : goal.invariant-loop-count
invariant-loop-count l = record {
  small : l.position ≤ l.at + 17179869184 * l.count-index;
  left : users_at l.at l.counts l.bytes ≡ users_at l.position (drop l.count-index l.counts) l.rest;
}
