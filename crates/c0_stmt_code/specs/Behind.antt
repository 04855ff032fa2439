-- What is known of a function's variables behind a statement.
use Rattle.std.specs.Prelude.{ℕ, Bool, false, List, [], ◌∷◌, Option, Some, None}
use Rattle.c0_typed.specs.Tree.{TExpr, TStmt, assign, call, new, choice, loop, TStmts, done, next}
use Rattle.c0_expr_code.specs.declared.facts.Facts.{Facts}
use Rattle.c0_expr_code.specs.Facts.{facts_answered, assigned_to, facts_called, facts_followed, renewed, variable_in}

-- a value goes to a place: of a variable that it is nothing is known any more
abbrev pub kill_variable : Option ℕ → Facts → Facts
kill_variable None f = f
kill_variable (Some n) f = assigned_to f n

abbrev pub kill_place : TExpr → Facts → Facts
kill_place p f = kill_variable (variable_in p) f

-- an answer went from register 2 to a place: of a variable in the frame that it is the word stands in both
abbrev pub variable_answered : (in_registers : Bool) → Option ℕ → Facts → Facts
variable_answered false (Some n) f = facts_answered f n
variable_answered b o f = f

abbrev pub answer_known : (in_registers : Bool) → TExpr → Facts → Facts
answer_known b p f = variable_answered b (variable_in p) f

-- behind expressions one after another
abbrev pub all_followed : List TExpr → Facts → Facts
all_followed [] f = f
all_followed (e ∷ es) f = all_followed es (facts_followed e f)

-- where a value has gone to a place that was found under these facts
abbrev pub stored_facts : TExpr → Facts → Facts
stored_facts p f = kill_place p (facts_followed p f)

-- without what a statement may end, and without what statements may
abbrev mutual
  pub changed : TStmt → Facts → Facts
  changed (assign p v) f = kill_place p f
  changed (call k n args p) f = kill_place p (facts_called f)
  changed (new w p) f = kill_place p (renewed f)
  changed (choice t a b) f = all_changed b (all_changed a f)
  changed (loop t b) f = all_changed b f

  pub all_changed : TStmts → Facts → Facts
  all_changed done f = f
  all_changed (next s rest) f = all_changed rest (changed s f)

-- behind a statement, and behind statements
abbrev pub facts_behind : (in_registers : Bool) → TStmt → Facts → Facts
facts_behind r (assign p v) f = stored_facts p (facts_followed v f)
facts_behind r (call k n args p) f = answer_known r p (stored_facts p (facts_called (all_followed args f)))
facts_behind r (new w p) f = stored_facts p (renewed f)
facts_behind r (choice t a b) f = all_changed b (all_changed a (facts_followed t f))
facts_behind r (loop t b) f = facts_followed t (all_changed b f)

abbrev pub facts_behind_all : (in_registers : Bool) → TStmts → Facts → Facts
facts_behind_all r done f = f
facts_behind_all r (next s rest) f = facts_behind_all r rest (facts_behind r s f)
