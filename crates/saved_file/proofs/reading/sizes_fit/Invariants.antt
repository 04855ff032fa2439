-- What comes of the users from this one on is what comes of all.
use Rattle.std.proofs.Common.{◌≡◌, ◌+◌, ◌-◌, length}
use Rattle.saved_file.specs.Tests.{all_tried, each, size_test}
use Rattle.saved_file.proofs.reading.sizes_fit.Given as goal

abbrev pub invariant-loop-user : goal.invariant-loop-user
invariant-loop-user l =
    all_tried (length l.words) (each (size_test l.sizes.frames l.sizes.pages l.words) 1 l.sizes.users)
    ≡ all_tried (length l.words) (each (size_test l.sizes.frames l.sizes.pages l.words) l.user (l.sizes.users + 1 - l.user))
