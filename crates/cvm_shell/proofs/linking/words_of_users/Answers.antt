use Rattle.std.proofs.Common.{◌≡◌, ◌++◌, ◌∷◌, [], arith, rules}
use Rattle.cvm_shell.proofs.UserWords.{next_words}
use Rattle.cvm_shell.proofs.linking.words_of_users.Goals as goal

pub loop-file-preserved : goal.loop-file-preserved
loop-file-preserved c =
    let more : c.push.new.self.items ≡ c.loop-file.users.items ++ c.in_ok-words.words ∷ [] = search rules in
    record {
      number = omega (arith, c.loop-file.invariant.number);
      left = next_words _ c.loop-file.users.items c.push.new.self.items c.args.files.now c.loop-file.file-index c.loop-file.number c.file-item.result c.in_ok-words.words c.deref.result.now c.loop-file-test.true c.file-item.is c.deref.ensures.value c.in_ok-words.ensures.spelled c.in_ok-words.ensures.words more c.loop-file.invariant.left;
    }
