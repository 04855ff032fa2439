use Rattle.std.proofs.Common.{◌*◌, ◌/◌, ◌+◌, ◌∙◌, refl, arith, get_or}
use Rattle.boot_run.proofs.PagesWritten.{put_more, put_step}
use Rattle.boot_run.proofs.pages.put_words.Goals as goal

pub loop-i-preserved : goal.loop-i-preserved
loop-i-preserved c =
    c.set_word.ensures ∙ put_step c.loop-i.machine c.args.machine.now _ _ (4 * (c.args.at + c.loop-i.i) / 4) (get_or c.args.words.now c.loop-i.i 0) c.loop-i.invariant
    (put_more c.args.at c.args.words.now c.args.machine.now.hardware.memory c.loop-i.i (4 * (c.args.at + c.loop-i.i) / 4) (c.loop-i.i + 1) (get_or c.args.words.now c.loop-i.i 0) (omega arith) (omega arith) refl (omega arith) refl)
