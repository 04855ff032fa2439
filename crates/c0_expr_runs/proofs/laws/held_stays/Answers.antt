use Rattle.c0_expr_runs.proofs.SideBySide.{ready_on}
use Rattle.c0_expr_runs.proofs.StoredAtPath.{region_same, put_word}
use Rattle.c0_expr_runs.proofs.LiveLocals.{locals_same, locals_put}
use Rattle.c0_expr_runs.proofs.laws.held_stays.Goals as goal

pub returns : goal.returns
returns c = record {
  ready = ready_on;
  same = λ sc p opened m other a types v same h. region_same sc p opened m other a types v same h;
  written = λ sc p opened m other a k types path t v x l scalar is here others h. put_word sc p opened m other a k types path t v x l scalar is here others h;
  same_locals = λ sc p opened live m other a types v same h. locals_same sc p opened live m other a types v same h;
  written_local = λ sc p opened live later m other a k types path t v x l scalar is here others grows h.
      locals_put sc p opened live later m other a k types path t v x l scalar is here others grows h;
}
