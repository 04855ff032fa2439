-- No spelling so far is the word.
use Rattle.std.proofs.Common.{◌≡◌, find, bytes_eq, drop}
use Rattle.c0_tokens.proofs.spelling.first_word.Given as goal

abbrev pub invariant-loop-spelling : goal.invariant-loop-spelling
invariant-loop-spelling l = find (λ s. bytes_eq s.text.now l.word) (drop l.spelling-index l.spellings) ≡ find (λ s. bytes_eq s.text.now l.word) l.spellings
