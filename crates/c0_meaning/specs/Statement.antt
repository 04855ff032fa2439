-- Which faults stand in statements and in the expression that is returned, and what their names stand for.
--
-- `declared` gives the faults of the type behind `new`, by the type and its span, and `settled` that type with its names resolved.
use Rattle.std.specs.Prelude.{ℕ, ◌+◌, ◌==◌, max, nat_lt, if◌then◌else◌, Bool, List, [], ◌∷◌, ◌++◌, map, length, Option, Some, None}
use Rattle.c0_tree.specs.declared.tree.Span.{Span}
use Rattle.c0_tree.specs.Tree.{CName, CTy, CExpr, CStmt, assign, call, new, choice, loop, CStmts, done, next}
use Rattle.c0_tree.specs.Size.{need, args_need}
use Rattle.c0_meaning.specs.Ty.{Ty, bool, pointer, ty_of, same_ty, is_scalar}
use Rattle.c0_meaning.specs.Env.{Env, Callee, callee_named}
use Rattle.c0_meaning.specs.Fault.{Fault, fault, UNKNOWN_NAME, WRONG_TYPE, WRONG_COUNT, NOT_A_PLACE, TOO_DEEP}
use Rattle.c0_meaning.specs.Expression.{Verdict, has, wrong, type_given, own, rule_on_one, rule_on_both}
use Rattle.c0_meaning.specs.Expression.{span_of, is_lvalue, type_asked, asked_faults, type_of, faults, resolved}

-- the registers that an expression may need
abbrev pub MAX_NEED : ℕ
MAX_NEED = 12

-- the fault of what needs so many registers
abbrev pub deep_faults : Span → ℕ → List Fault
deep_faults s registers = if nat_lt MAX_NEED registers then fault TOO_DEEP s ∷ [] else []

-- the type that is asked, and the one that stands there
abbrev pub same_rule : Span → Ty → Ty → Verdict
same_rule s want t = if same_ty want t then has want else wrong (fault WRONG_TYPE s)

-- what is said of an expression where a type may be asked
abbrev pub given_verdict : Env → Option Ty → CExpr → Verdict
given_verdict env want e = rule_on_both want (type_asked want e (type_of env e)) (same_rule (span_of e))

-- the faults of an expression where a type may be asked: a right side, an argument, a condition, a returned expression
abbrev pub given_faults : Env → Option Ty → CExpr → List Fault
given_faults env want e = asked_faults want e (faults env e) ++ own (given_verdict env want e)

-- the faults of a condition, or of a returned expression
abbrev pub tested_faults : Env → Ty → CExpr → List Fault
tested_faults env want e = given_faults env (Some want) e ++ deep_faults (span_of e) (need e)

-- a left side: whether it is a place, where it stands, and its type
abbrev pub left_rule : Bool → Span → Ty → Verdict
left_rule place s t = if place then (if is_scalar t then has t else wrong (fault WRONG_TYPE s)) else wrong (fault NOT_A_PLACE s)

-- what is said of a left side
abbrev pub left_verdict : Env → CExpr → Verdict
left_verdict env p = rule_on_one (type_of env p) (left_rule (is_lvalue p) (span_of p))

-- the type that a left side asks of the right side, if it is right itself
abbrev pub left_type : Env → CExpr → Option Ty
left_type env p = type_given (left_verdict env p)

-- the faults of a left side
abbrev pub left_faults : Env → CExpr → List Fault
left_faults env p = faults env p ++ own (left_verdict env p)

-- the fault of a result that is stored: the type that is asked, if one is, and the type that comes
abbrev pub result_faults : Span → Option Ty → Ty → List Fault
result_faults s want t = own (rule_on_one want (λ w. same_rule s w t))

-- the faults of a name before `(`, of the number of arguments, and of the result
abbrev pub callee_faults : Span → CName → Option Ty → ℕ → Option Callee → List Fault
callee_faults s f want count None = fault UNKNOWN_NAME f.span ∷ []
callee_faults s f want count (Some c) = (if length c.params == count then [] else fault WRONG_COUNT s ∷ []) ++ result_faults s want c.answer

-- the types that are asked of arguments: none where the name is unknown
abbrev pub parameter_types : Option Callee → List Ty
parameter_types None = []
parameter_types (Some c) = c.params

-- the type that is asked of the next argument: none where all parameters have had theirs
abbrev pub first_of : List Ty → Option Ty
first_of [] = None
first_of (t ∷ rest) = Some t

-- the types that are asked of the arguments after the next
abbrev pub rest_of : List Ty → List Ty
rest_of [] = []
rest_of (t ∷ rest) = rest

-- the faults of arguments of which these types are asked
abbrev pub args_faults : Env → List Ty → List CExpr → List Fault
args_faults env params [] = []
args_faults env params (e ∷ es) = given_faults env (first_of params) e ++ args_faults env (rest_of params) es

-- the registers that an assignment needs: the place is found while the value is held
abbrev pub assign_need : CExpr → CExpr → ℕ
assign_need p v = max (need v) (need p + 1)

-- the registers that a call needs
abbrev pub call_need : CExpr → List CExpr → ℕ
call_need p args = max (args_need args + 1) (need p + 1)

-- the registers that `new` needs
abbrev pub new_need : CExpr → ℕ
new_need p = need p + 1

-- the faults of an assignment
abbrev pub assign_faults : Env → Span → CExpr → CExpr → List Fault
assign_faults env s p v = left_faults env p ++ (given_faults env (left_type env p) v ++ deep_faults s (assign_need p v))

-- the faults of a call whose result is stored
abbrev pub call_faults : Env → Span → CExpr → Span → CName → List CExpr → List Fault
call_faults env s p cs f args =
    left_faults env p
    ++ (callee_faults cs f (left_type env p) (length args) (callee_named env f.text)
    ++ (args_faults env (parameter_types (callee_named env f.text)) args ++ deep_faults s (call_need p args)))

-- the faults of `new`
abbrev pub new_faults : (CTy → Span → List Fault) → Env → Span → CExpr → CTy → Span → List Fault
new_faults declared env s p t ts =
    left_faults env p ++ (declared t ts ++ (result_faults ts (left_type env p) (pointer (ty_of t)) ++ deep_faults s (new_need p)))

-- every fault that stands in a statement, and in a list of them
abbrev mutual
  pub stmt_faults : (CTy → Span → List Fault) → Env → CStmt → List Fault
  stmt_faults declared env (assign s p v) = assign_faults env s p v
  stmt_faults declared env (call s p cs f args) = call_faults env s p cs f args
  stmt_faults declared env (new s p t ts) = new_faults declared env s p t ts
  stmt_faults declared env (choice s t a b) = tested_faults env bool t ++ (stmts_faults declared env a ++ stmts_faults declared env b)
  stmt_faults declared env (loop s t b) = tested_faults env bool t ++ stmts_faults declared env b

  pub stmts_faults : (CTy → Span → List Fault) → Env → CStmts → List Fault
  stmts_faults declared env done = []
  stmts_faults declared env (next s rest) = stmt_faults declared env s ++ stmts_faults declared env rest

-- a called name with what it stands for
abbrev pub numbered_callee : CName → Option Callee → CName
numbered_callee f None = f
numbered_callee f (Some c) = record { text = f.text; span = f.span; kind = c.kind; number = c.number }

-- a statement whose names say what they stand for, and a list of them
abbrev mutual
  pub stmt_resolved : (CTy → CTy) → Env → CStmt → CStmt
  stmt_resolved settled env (assign s p v) = assign s (resolved env p) (resolved env v)
  stmt_resolved settled env (call s p cs f args) =
      call s (resolved env p) cs (numbered_callee f (callee_named env f.text)) (map (resolved env) args)
  stmt_resolved settled env (new s p t ts) = new s (resolved env p) (settled t) ts
  stmt_resolved settled env (choice s t a b) = choice s (resolved env t) (stmts_resolved settled env a) (stmts_resolved settled env b)
  stmt_resolved settled env (loop s t b) = loop s (resolved env t) (stmts_resolved settled env b)

  pub stmts_resolved : (CTy → CTy) → Env → CStmts → CStmts
  stmts_resolved settled env done = done
  stmts_resolved settled env (next s rest) = next (stmt_resolved settled env s) (stmts_resolved settled env rest)
