use Rattle.std.proofs.Common.{◌≡◌, ◌+◌, map, drop}
use Rattle.run_scripts.specs.Plan.{user_words_from}
use Rattle.cvm_shell.proofs.UserWords.{behind}
use Rattle.cvm_shell.proofs.linking.words_of_users.Given as goal

abbrev pub invariant-loop-file : goal.invariant-loop-file
invariant-loop-file l = record {
  number : l.number ≡ l.file-index + 1;
  left : user_words_from 1 (map (λ b. b.items) l.files) ≡ behind (map (λ w. w.items) l.users.items) (user_words_from l.number (map (λ b. b.items) (drop l.file-index l.files)));
}
