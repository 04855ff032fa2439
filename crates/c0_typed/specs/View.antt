-- What contracts see of the typed tree.
use Rattle.std.specs.Prelude.{List, [], ◌∷◌, map}
use Rattle.c0_typed.specs.Tree.{TExpr, global, local, part, element, target, constant, address, negative, negation, plain, quotient, remainder, both}
use Rattle.c0_typed.specs.Tree.{either, TStmt, assign, call, new, choice, loop, TStmts, done, next, TBody, code, asm, TFunction}
use Rattle.c0_typed.specs.declared.tree.TypedExpr.{TypedExpr, fold-TypedExpr}
use Rattle.c0_typed.specs.declared.tree.TypedExpr.TheOpen.{TypedExpr-F}
use Rattle.c0_typed.specs.declared.tree.TypedStmt.{TypedStmt, fold-TypedStmt}
use Rattle.c0_typed.specs.declared.tree.TypedStmt.TheOpen.{TypedStmt-F}
use Rattle.c0_typed.specs.declared.tree.TypedBody.{TypedBody}
use Rattle.c0_typed.specs.declared.tree.TypedBody.TheVariants.{Code, Asm}
use Rattle.c0_typed.specs.declared.tree.TypedFunction.{TypedFunction}

-- one node of an expression, its parts being seen already
abbrev pub typed_expr_step : TypedExpr-F TExpr → TExpr
typed_expr_step (TypedExpr-F.Global n) = global n
typed_expr_step (TypedExpr-F.Local n w) = local n w
typed_expr_step (TypedExpr-F.Part p n) = part p.value n
typed_expr_step (TypedExpr-F.Element p i x) = element p.value i.value x
typed_expr_step (TypedExpr-F.Target p) = target p.value
typed_expr_step (TypedExpr-F.Constant n) = constant n
typed_expr_step (TypedExpr-F.Address p) = address p.value
typed_expr_step (TypedExpr-F.Negative e) = negative e.value
typed_expr_step (TypedExpr-F.Negation e) = negation e.value
typed_expr_step (TypedExpr-F.Plain o a b) = plain o a.value b.value
typed_expr_step (TypedExpr-F.Quotient a b) = quotient a.value b.value
typed_expr_step (TypedExpr-F.Remainder a b) = remainder a.value b.value
typed_expr_step (TypedExpr-F.Both a b) = both a.value b.value
typed_expr_step (TypedExpr-F.Either a b) = either a.value b.value

-- an expression
abbrev pub typed_expr_view : TypedExpr → TExpr
typed_expr_view = fold-TypedExpr TExpr typed_expr_step

-- statements one after another
abbrev pub typed_stmts_of : List TStmt → TStmts
typed_stmts_of [] = done
typed_stmts_of (s ∷ ss) = next s (typed_stmts_of ss)

-- one node of a statement, its parts being seen already
abbrev pub typed_stmt_step : TypedStmt-F TStmt → TStmt
typed_stmt_step (TypedStmt-F.Assign p v) = assign (typed_expr_view p) (typed_expr_view v)
typed_stmt_step (TypedStmt-F.Call k n args p) = call k n (map typed_expr_view args.items) (typed_expr_view p)
typed_stmt_step (TypedStmt-F.New w p) = new w (typed_expr_view p)
typed_stmt_step (TypedStmt-F.If t a b) = choice (typed_expr_view t) (typed_stmts_of a.items) (typed_stmts_of b.items)
typed_stmt_step (TypedStmt-F.While t b) = loop (typed_expr_view t) (typed_stmts_of b.items)

-- a statement
abbrev pub typed_stmt_view : TypedStmt → TStmt
typed_stmt_view = fold-TypedStmt TStmt typed_stmt_step

-- statements
abbrev pub typed_stmts_view : List TypedStmt → TStmts
typed_stmts_view ss = typed_stmts_of (map typed_stmt_view ss)

-- a body
abbrev pub typed_body_view : TypedBody → TBody
typed_body_view (Code c) = code c.locals.items (typed_stmts_view c.stmts.items) (typed_expr_view c.answer)
typed_body_view (Asm words) = asm words.items

-- a function
abbrev pub typed_function_view : TypedFunction → TFunction
typed_function_view f = record { params = f.params; frame = f.frame; in_registers = f.in_registers; calling = f.calling; body = typed_body_view f.body }
