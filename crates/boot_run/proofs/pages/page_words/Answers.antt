use Rattle.std.proofs.Common.{◌<◌, ◌≢◌, length, ◌∙◌, arith, below_more, length-set, get_or-set_other, get_or-set_same}
use Rattle.boot_run.proofs.pages.page_words.Goals as goal

pub loop-i-preserved : goal.loop-i-preserved
loop-i-preserved c = record {
  long = length-set c.loop-i.page c.loop-i.i c.word_at.result ∙ c.loop-i.invariant.long;
  words = below_more _ _
      (λ k h. let ne : k ≢ c.loop-i.i = omega arith in get_or-set_other c.loop-i.page c.loop-i.i k c.word_at.result 0 ne ∙ c.loop-i.invariant.words k h)
      (let lt : c.loop-i.i < length c.loop-i.page = omega arith in get_or-set_same c.loop-i.page c.loop-i.i c.word_at.result 0 lt ∙ c.word_at.ensures);
}
