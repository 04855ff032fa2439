-- What contracts see of the check of an expression.
use Rattle.std.specs.Prelude.{◌≡◌, Option}
use Rattle.c0_tree.specs.declared.tree.Expr.{Expr}
use Rattle.c0_tree.specs.Tree.{CExpr}
use Rattle.c0_tree.specs.View.{expr_view}
use Rattle.c0_meaning.specs.Ty.{Ty}
use Rattle.c0_meaning.specs.Env.{Env}
use Rattle.c0_meaning.specs.Fault.{Fault, kept_all}
use Rattle.c0_meaning.specs.declared.form.Found.{Found}
use Rattle.c0_meaning.specs.declared.form.Form.{Form}
use Rattle.c0_meaning.specs.Form.{form_view, found_view}
use Rattle.c0_name_check.specs.declared.met.Fault.{Fault as MetFault}
use Rattle.c0_name_check.specs.Met.{met_view}
use Rattle.c0_meaning.specs.Expression.{Verdict, rule_on_one, rule_on_both, type_given, own, type_of, faults, resolved, type_asked, asked_faults}

-- a type, and the least fault met before and after, are as a rule says
abbrev pub SettlesType : Option Ty → Option Fault → Option Fault → Verdict → Type 0
SettlesType type old new v = (type ≡ type_given v) × (new ≡ kept_all old (own v))

-- what is found, and the least fault met before and after, are as a rule says
abbrev pub IsByRule : Found → Option MetFault → Option MetFault → Verdict → Type 0
IsByRule found old new v = SettlesType (found_view found) (met_view old) (met_view new) v

-- a rule of the type of one part
abbrev pub by_one : Form → (Ty → Verdict) → Verdict
by_one part rule = rule_on_one (form_view part) rule

-- a rule of the types of two parts
abbrev pub by_both : Form → Form → (Ty → Ty → Verdict) → Verdict
by_both left right rule = rule_on_both (form_view left) (form_view right) rule

-- an expression is checked: its type comes out, its faults are met, and its names are resolved
abbrev pub Checks : Env → CExpr → Option Ty → Option Fault → Option Fault → CExpr → Type 0
Checks env e type old new after = (type ≡ type_of env e) × (new ≡ kept_all old (faults env e)) × (after ≡ resolved env e)

-- the same where a type may be asked
abbrev pub ChecksAsked : Env → Option Ty → CExpr → Option Ty → Option Fault → Option Fault → CExpr → Type 0
ChecksAsked env want e type old new after =
    (type ≡ type_asked want e (type_of env e)) × (new ≡ kept_all old (asked_faults want e (faults env e))) × (after ≡ resolved env e)

-- and so over the tree, with what is found
abbrev pub FindsAsked : Env → Found → Expr → Found → Option MetFault → Option MetFault → Expr → Type 0
FindsAsked env want e found old new after = ChecksAsked env (found_view want) (expr_view e) (found_view found) (met_view old) (met_view new) (expr_view after)
