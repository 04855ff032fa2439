use Rattle.std.proofs.Common.{◌≡◌, ℕ, Vec, Global, ap, ◌∙◌}
use Rattle.c0_tree.specs.declared.tree.Unit.{Unit as Source}
use Rattle.c0_tree.specs.View.{unit_view}
use Rattle.bound_check.specs.Text.{answer_text}
use Rattle.run_scripts.specs.Check.{TellsUnit}
use Rattle.cvm_shell.proofs.AcceptedAs.{if_ok}
use Rattle.cvm_shell.proofs.CheckPlans.{told_of}
use Rattle.cvm_shell.proofs.check.unit_text.Goals as goal

pub returns : goal.returns
returns c =
    let stack = c.args.stack in
    let answer = c.in_ok-answer.answer in
    if_ok (λ (v : Vec ℕ Global). v.items ≡ answer_text (unit_view c.unit.result.now) stack answer) (λ (v : Vec ℕ Global). TellsUnit stack (unit_view c.args.unit.now) v.items)
    (λ v e. told_of stack (unit_view c.args.unit.now) answer v.items c.in_ok-answer.ensures (e ∙ ap (λ (u : Source). answer_text (unit_view u) stack answer) c.unit.ensures.same)) c.answer_text.result c.answer_text.ensures
