-- What contracts see of the check of statements.
use Rattle.std.specs.Prelude.{◌≡◌, List, ◌++◌, map, Option, option_map}
use Rattle.c0_tree.specs.declared.tree.Span.{Span}
use Rattle.c0_tree.specs.declared.tree.Name.{Name}
use Rattle.c0_tree.specs.declared.tree.CType.{CType}
use Rattle.c0_tree.specs.declared.tree.Expr.{Expr}
use Rattle.c0_tree.specs.Tree.{CExpr, CStmt, CStmts}
use Rattle.c0_tree.specs.View.{expr_view, name_view, type_view}
use Rattle.c0_name_check.specs.declared.met.Fault.{Fault as MetFault}
use Rattle.c0_name_check.specs.Met.{met_view}
use Rattle.c0_body_check.specs.declared.scope.Callee.{Callee}
use Rattle.c0_body_check.specs.Scope.{callee_view}
use Rattle.c0_tree.specs.Size.{need}
use Rattle.c0_meaning.specs.Ty.{Ty, bool}
use Rattle.c0_meaning.specs.Env.{Env}
use Rattle.c0_meaning.specs.Fault.{Fault, kept_all}
use Rattle.c0_meaning.specs.Expression.{span_of, resolved}
use Rattle.c0_meaning.specs.DeclaredTypes.{type_faults}
use Rattle.c0_meaning.specs.Resolved.{resolved_type}
use Rattle.c0_meaning.specs.Statement.{parameter_types, call_faults, new_faults, args_faults, given_faults, tested_faults, deep_faults}
use Rattle.c0_meaning.specs.Statement.{left_type, left_faults, stmt_faults, stmts_faults, stmt_resolved, stmts_resolved}

-- an expression is checked where a type may be asked: its faults are met, and its names are resolved
abbrev pub ChecksGiven : Env → Option Ty → CExpr → Option Fault → Option Fault → CExpr → Type 0
ChecksGiven env want e old new after = (new ≡ kept_all old (given_faults env want e)) × (after ≡ resolved env e)

-- a condition or a returned expression is checked
abbrev pub ChecksTested : Env → Option Ty → CExpr → Option Fault → Option Fault → CExpr → Type 0
ChecksTested env want e old new after =
    (new ≡ kept_all old (given_faults env want e ++ deep_faults (span_of e) (need e))) × (after ≡ resolved env e)

-- a left side is checked
abbrev pub ChecksLeft : Env → CExpr → Option Ty → Option Fault → Option Fault → CExpr → Type 0
ChecksLeft env p type old new after = (type ≡ left_type env p) × (new ≡ kept_all old (left_faults env p)) × (after ≡ resolved env p)

-- the faults of a statement in an environment
abbrev pub faults_of_stmt : Env → CStmt → List Fault
faults_of_stmt env s = stmt_faults (type_faults env.structs) env s

-- the faults of a list of statements, in an environment
abbrev pub faults_of_stmts : Env → CStmts → List Fault
faults_of_stmts env ss = stmts_faults (type_faults env.structs) env ss

-- a statement with its names resolved
abbrev pub resolved_of_stmt : Env → CStmt → CStmt
resolved_of_stmt env s = stmt_resolved (resolved_type env.structs) env s

-- a list of statements with its names resolved
abbrev pub resolved_of_stmts : Env → CStmts → CStmts
resolved_of_stmts env ss = stmts_resolved (resolved_type env.structs) env ss

-- a statement is checked
abbrev pub ChecksStmt : Env → CStmt → Option Fault → Option Fault → CStmt → Type 0
ChecksStmt env s old new after = (new ≡ kept_all old (faults_of_stmt env s)) × (after ≡ resolved_of_stmt env s)

-- statements are checked
abbrev pub ChecksStmts : Env → CStmts → Option Fault → Option Fault → CStmts → Type 0
ChecksStmts env ss old new after = (new ≡ kept_all old (faults_of_stmts env ss)) × (after ≡ resolved_of_stmts env ss)

-- arguments are checked, of which these types are asked
abbrev pub ChecksArgs : Env → List Ty → List CExpr → Option Fault → Option Fault → List CExpr → Type 0
ChecksArgs env params es old new after = (new ≡ kept_all old (args_faults env params es)) × (after ≡ map (resolved env) es)

-- the faults of `if`
abbrev pub choice_faults : Env → CExpr → CStmts → CStmts → List Fault
choice_faults env t a b = tested_faults env bool t ++ (faults_of_stmts env a ++ faults_of_stmts env b)

-- the faults of `while`
abbrev pub loop_faults : Env → CExpr → CStmts → List Fault
loop_faults env t b = tested_faults env bool t ++ faults_of_stmts env b

-- the faults of the statements of a body, and of the expression that is returned where this type is asked
abbrev pub code_faults : Env → Ty → CStmts → CExpr → List Fault
code_faults env result stmts answer = faults_of_stmts env stmts ++ tested_faults env result answer

-- arguments of what is called are checked
abbrev pub PassesArgs : Env → Option Callee → List Expr → Option MetFault → Option MetFault → List Expr → Type 0
PassesArgs env callee es old new after =
    ChecksArgs env (parameter_types (option_map callee_view callee)) (map expr_view es) (met_view old) (met_view new) (map expr_view after)

-- the faults of a call in an environment
abbrev pub faults_of_call : Env → Span → Expr → Span → Name → List Expr → List Fault
faults_of_call env span place call_span name args = call_faults env span (expr_view place) call_span (name_view name) (map expr_view args)

-- the faults of a new object in an environment
abbrev pub faults_of_new : Env → Span → Expr → CType → Span → List Fault
faults_of_new env span place ty ty_span = new_faults (type_faults env.structs) env span (expr_view place) (type_view ty) ty_span
