-- The loop stops where the longest front without the byte ends.
use Rattle.std.proofs.Common.{◌==◌, not, sym, ◌∙◌, take_all, ap, eq-eqb}
use Rattle.std.specs.List.{list_all}
use Rattle.cvm_text.proofs.FrontsOfDigits.{prefix_len_at, prefix_len_all}
use Rattle.mips_asm.proofs.operand.len_before.Goals as goal

pub returns-then-c-byte-clause-value : goal.returns-then-c-byte-clause-value
returns-then-c-byte-clause-value c = prefix_len_at (λ k. not (k == c.args.byte)) c.args.text.now c.loop-index.index c.loop-index-test.true c.loop-index.invariant (ap not (eq-eqb _ c.args.byte c.if-c-byte.true))

pub returns-clause-value : goal.returns-clause-value
returns-clause-value c = prefix_len_all (λ k. not (k == c.args.byte)) c.args.text.now (sym (ap (list_all (λ k. not (k == c.args.byte))) (take_all c.loop-index.index c.args.text.now c.loop-index-test.false)) ∙ c.loop-index.invariant)
