-- What is known behind the statements that are left is what is known behind all.
use Rattle.std.proofs.Common.{◌≡◌, drop}
use Rattle.c0_typed.specs.View.{typed_stmts_view}
use Rattle.c0_stmt_code.specs.Behind as spec
use Rattle.c0_stmt_code.proofs.behind.facts_behind_all.Given as goal

abbrev pub invariant-loop-stmt : goal.invariant-loop-stmt
invariant-loop-stmt l = spec.facts_behind_all l.in_registers (typed_stmts_view (drop l.stmt-index l.stmts)) l.here ≡ spec.facts_behind_all l.in_registers (typed_stmts_view l.stmts) l.fn.facts
