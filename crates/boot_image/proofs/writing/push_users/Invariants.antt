use Rattle.std.proofs.Common.{◌≡◌, ◌++◌, All, map, take}
use Rattle.std.specs.List.{flat_map}
use Rattle.cvm_words.specs.Bytes.{word}
use Rattle.boot_image.specs.Format.{AreWords}
use Rattle.boot_image.proofs.writing.push_users.Given as goal

abbrev pub invariant-loop-user : goal.invariant-loop-user
invariant-loop-user l = record {
  written : l.bytes.items ≡ l.initial.bytes.items ++ flat_map (flat_map word) (map (λ u. u.items) (take l.user-index l.users));
  bits : All AreWords (map (λ u. u.items) (take l.user-index l.users));
}
