-- By what is left of a list of flags of which one is cleared.
use Rattle.std.proofs.Common.{◌≡◌, ℕ, Bool, true, false}
use Rattle.c0_typed.specs.Tree.{local}
use Rattle.c0_expr_code.specs.declared.facts.Facts.{Facts}
use Rattle.c0_expr_code.specs.Facts.{facts_called, facts_followed, is_not_null, renewed}
use Rattle.c0_stmt_code.specs.Behind.{all_followed, answer_known, stored_facts}
use Rattle.c0_stmt_code.proofs.FactsEnded.{answer_forgotten, cleared, in_no_register, no_param}
use Rattle.c0_stmt_code.proofs.laws.facts_end.Goals as goal

answered_cleared : (r : Bool) (f : Facts) (n w : ℕ) → is_not_null (answer_known r (local n w) (stored_facts (local n w) (facts_called f))) n ≡ false
answered_cleared true f n w = cleared f.sure n
answered_cleared false f n w = cleared f.sure n

pub returns : goal.returns
returns c = record {
  called = λ r k i args p f n. no_param r p (all_followed args f) n;
  elsewhere = λ r k i args p f e. answer_forgotten r p (all_followed args f) e;
  assigned = λ r n w v f. cleared (facts_followed v f).sure n;
  answered = λ r k i args n w f. answered_cleared r (all_followed args f) n w;
  made = λ r words n w f. cleared f.sure n;
  moved = λ r n w v f. in_no_register (facts_followed v f) n;
  moved_by_new = λ r words n w f. in_no_register (renewed f) n;
}
