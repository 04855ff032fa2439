-- Where no call that is to come fails, this one doesn't.
use Rattle.std.proofs.Common.{◌≡◌, true, sym, subst, ◌∙◌, rules}
use Rattle.cvm_outside.specs.Numbering.{Numbering, is_spent}
use Rattle.cvm_outside.proofs.CallsToCome.{unlisted, spent_later}
use Rattle.cvm_outside.proofs.calls.Calls.begin.Goals as goal

pub returns-clause-sure : goal.returns-clause-sure
returns-clause-sure c = λ h. (search rules) ∙ unlisted c.args.self.now.next c.args.self.now.failing h

pub returns-clause-spent : goal.returns-clause-spent
returns-clause-spent c = λ h.
    let before = subst (λ (k : Numbering). is_spent k ≡ true) (sym c.self.view_is) h in
    spent_later c.self.inside.tally.all_calls c.count_call.new.self.all_calls c.self.inside.failing.items c.count_call.ensures.more before
