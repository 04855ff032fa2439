-- What comes of the linked words from this one on is what comes of all.
use Rattle.std.proofs.Common.{◌≡◌, ◌-◌, length}
use Rattle.saved_file.specs.Tests.{all_tried, each, linked_test}
use Rattle.saved_file.proofs.reading.links.Given as goal

abbrev pub invariant-loop-position : goal.invariant-loop-position
invariant-loop-position l =
    all_tried (length l.words) (each (linked_test l.frames l.linked l.words) 0 (length l.linked))
    ≡ all_tried (length l.words) (each (linked_test l.frames l.linked l.words) l.position (length l.linked - l.position))
