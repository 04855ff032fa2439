-- The text is that of all words, and reads back as them.
use Rattle.std.proofs.Common.{◌∙◌, ap, take_all, subst, All, arith}
use Rattle.std.proofs.lemmas.Grind.{common_steps}
use Rattle.std.proofs.lemmas.List.Elements.{All-more}
use Rattle.mips_asm.specs.Assembled.{assembled}
use Rattle.mips_asm.specs.Listing.{listing}
use Rattle.mips_asm.specs.Back.{ReadsBack}
use Rattle.mips_asm.proofs.TextBack.{assembled_back}
use Rattle.mips_asm.proofs.listing.disassemble.Goals as goal

pub loop-word-preserved : goal.loop-word-preserved
loop-word-preserved c = (
  let so_far = c.loop-word.invariant.0 in grind (arith, common_steps, so_far),
  All-more ReadsBack c.args.words.now c.loop-word.word-index 0 c.loop-word-test.true c.loop-word.invariant.1 c.put_line.ensures.back,
)

pub returns : goal.returns
returns c =
    let whole = take_all c.loop-word.word-index c.args.words.now c.loop-word-test.false in
    let text = c.loop-word.invariant.0 ∙ ap listing whole in
    record {
      text = text;
      back = ap assembled text ∙ assembled_back c.args.words.now (subst (All ReadsBack) whole c.loop-word.invariant.1) c.requires;
    }
