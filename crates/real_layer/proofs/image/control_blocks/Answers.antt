use Rattle.std.proofs.Common.{◌+◌, ◌++◌, drop, get_or, sym, ap, ◌∙◌, append_assoc, drop-cons, add-one}
use Rattle.real_layer.specs.Image.{block_words, blocks}
use Rattle.real_layer.proofs.image.control_blocks.Goals as goal

pub loop-pages-preserved : goal.loop-pages-preserved
loop-pages-preserved c =
    let i = c.loop-pages.pages-index in
    let rest = blocks (drop (i + 1) c.args.sizes.now) in
    let old = c.loop-pages.words.items in
    ap (λ l. l ++ rest) c.in_ok-put_block.ensures ∙ append_assoc old (block_words (get_or c.args.sizes.now i 0)) rest
    ∙ ap (λ l. old ++ l) (rw add-one (sym (ap blocks (drop-cons c.args.sizes.now i 0 c.loop-pages-test.true)))) ∙ c.loop-pages.invariant
