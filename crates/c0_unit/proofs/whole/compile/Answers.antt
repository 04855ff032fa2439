-- The unit is the checked one, and its first function the one that runs first.
use Rattle.std.proofs.Common.{◌≡◌, ℕ, ap, ◌∙◌}
use Rattle.std.proofs.lemmas.Result.{IfOk-weaker}
use Rattle.c0_tree.specs.declared.tree.Unit.{Unit as Source}
use Rattle.c0_tree.specs.View.{unit_view}
use Rattle.c0_unit.specs.Code.{unit_words, words_from}
use Rattle.c0_unit.proofs.whole.compile.Goals as goal

pub returns-clause-words : goal.returns-clause-words
returns-clause-words c =
    IfOk-weaker c.compile_from.result (λ v. v.items ≡ words_from (unit_view c.measured.result) c.first.result) (λ v. v.items ≡ unit_words (unit_view c.args.unit.now))
    (λ v h. h ∙ (ap (λ (s : Source). words_from (unit_view s) c.first.result) c.measured.ensures ∙ ap (λ (n : ℕ). words_from (unit_view c.args.unit.now) n) c.first.ensures.is))
    c.compile_from.ensures.words
