use Rattle.std.proofs.Common.{◌≡◌, ℕ, ◌+◌, ◌<◌, get_or, length}
use Rattle.boot_run.proofs.pages.page_words.Given as goal

abbrev pub invariant-loop-i : goal.invariant-loop-i
invariant-loop-i l = record {
  long : length l.page ≡ 1024;
  words : (k : ℕ) → k < l.i → get_or l.page k 0 ≡ get_or l.words (l.first + k) 0;
}
