-- The loop stops where the longest name ends.
use Rattle.std.proofs.Common.{sym, ◌∙◌, take_all, ap}
use Rattle.std.specs.List.{list_all}
use Rattle.mips_asm.specs.Number.{in_name}
use Rattle.cvm_text.proofs.FrontsOfDigits.{prefix_len_at, prefix_len_all}
use Rattle.mips_asm.proofs.line.name_len.Goals as goal

pub returns-then-not-in_name-clause-value : goal.returns-then-not-in_name-clause-value
returns-then-not-in_name-clause-value c = prefix_len_at in_name c.args.text.now c.loop-index.index c.loop-index-test.true c.loop-index.invariant (sym c.in_name.ensures ∙ c.if-not-in_name.true)

pub returns-clause-value : goal.returns-clause-value
returns-clause-value c = prefix_len_all in_name c.args.text.now (sym (ap (list_all in_name) (take_all c.loop-index.index c.args.text.now c.loop-index-test.false)) ∙ c.loop-index.invariant)
