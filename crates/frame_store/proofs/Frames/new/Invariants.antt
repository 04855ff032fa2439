-- The words so far are zeros, and the room left is for the rest: so the loop ends with all words 0 and no room.
use Rattle.std.proofs.Common.{◌≡◌, ◌+◌, ◌-◌, ◌≤◌, replicate}
use Rattle.frame_store.proofs.Frames.new.Given as goal

abbrev pub invariant-loop-i : goal.invariant-loop-i
invariant-loop-i l =
    (l.i ≤ l.size) × (l.region.words ≡ replicate l.i 0) × (l.region.count ≡ l.i) × (l.region.count + l.region.room ≡ l.size) × (l.deed.at ≡ l.region.at) × (l.deed.size ≡ l.size) × (l.deed.alloc ≡ l.alloc)

abbrev pub decreases-loop-i : goal.decreases-loop-i
decreases-loop-i l = l.size - l.i
