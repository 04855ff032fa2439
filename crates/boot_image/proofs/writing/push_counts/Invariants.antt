use Rattle.std.proofs.Common.{◌≡◌, ◌++◌, length, map, take}
use Rattle.std.specs.List.{flat_map}
use Rattle.cvm_words.specs.Bytes.{word}
use Rattle.boot_image.proofs.writing.push_counts.Given as goal

abbrev pub invariant-loop-user : goal.invariant-loop-user
invariant-loop-user l = l.bytes.items ≡ l.initial.bytes.items ++ flat_map word (map length (map (λ u. u.items) (take l.user-index l.users)))
