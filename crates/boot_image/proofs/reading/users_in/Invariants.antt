use Rattle.std.proofs.Common.{◌≡◌, ◌++◌, ℕ, Ok, map, drop}
use Rattle.boot_image.specs.Reading.{users_at, users_of}
use Rattle.boot_image.proofs.reading.users_in.Given as goal

abbrev pub invariant-loop-count : goal.invariant-loop-count
invariant-loop-count l = record {
  whole : (at : ℕ) × (users_at at (drop l.count-index l.counts) l.rest ≡ Ok tt);
  made : map (λ u. u.items) l.users.items ++ users_of (drop l.count-index l.counts) l.rest ≡ users_of l.counts l.bytes;
}
