-- The loop stops where the longest front of good bytes ends.
use Rattle.std.proofs.Common.{sym, ◌∙◌, take_all, ap}
use Rattle.std.specs.List.{list_all}
use Rattle.mips_asm.specs.Text.{is_good_byte}
use Rattle.cvm_text.proofs.FrontsOfDigits.{prefix_len_at, prefix_len_all}
use Rattle.mips_asm.proofs.line.good_len.Goals as goal

pub returns-then-not-is_good_byte-clause-value : goal.returns-then-not-is_good_byte-clause-value
returns-then-not-is_good_byte-clause-value c = prefix_len_at is_good_byte c.args.line.now c.loop-index.index c.loop-index-test.true c.loop-index.invariant (sym c.is_good_byte.ensures ∙ c.if-not-is_good_byte.true)

pub returns-clause-value : goal.returns-clause-value
returns-clause-value c = prefix_len_all is_good_byte c.args.line.now (sym (ap (list_all is_good_byte) (take_all c.loop-index.index c.args.line.now c.loop-index-test.false)) ∙ c.loop-index.invariant)
