-- The parts of statements: what the checks of expressions make of them.
use Rattle.std.proofs.Common.{◌≡◌, ℕ, zero, suc, ◌+◌, ◌<◌, length, get_or, slice_get, add-one, Bool, List, [], ◌∷◌, ◌++◌, Option, nat_lt, refl, sym, ap, ◌∙◌}
use Rattle.c0_tree.specs.declared.tree.Span.{Span}
use Rattle.c0_tree.specs.Tree.{CName, CTy, CExpr}
use Rattle.c0_tree.specs.Size.{need}
use Rattle.c0_meaning.specs.Ty.{Ty, pointer, ty_of}
use Rattle.c0_meaning.specs.Env.{Env, Callee, callee_named}
use Rattle.c0_meaning.specs.Fault.{Fault, kept_all, TOO_DEEP}
use Rattle.c0_meaning.specs.DeclaredTypes.{fault_if, type_faults}
use Rattle.c0_meaning.specs.Expression.{own, rule_on_one, rule_on_both, is_lvalue, span_of, type_asked, asked_faults, type_of, faults}
use Rattle.c0_meaning.specs.Statement.{MAX_NEED, same_rule, given_verdict, given_faults, deep_faults, left_rule, left_type, left_faults, result_faults, callee_faults, parameter_types, first_of, rest_of, args_faults, assign_need, call_need, new_need, assign_faults, call_faults, new_faults}
use Rattle.c0_body_check.specs.Check.{SettlesType, Checks, ChecksAsked}
use Rattle.c0_body_check.specs.Stmts.{ChecksGiven, ChecksTested, ChecksLeft, ChecksArgs}
use Rattle.c0_body_check.proofs.NodeChecks.{one_part}
use Rattle.c0_name_check.proofs.FaultsMet.{kept_all-append, two_met}
use Rattle.c0_body_check.proofs.InPlace.{rest, rest-next}

pub given_part : (env : Env) (want a w b : Option Ty) (e : CExpr) (s : Span) (m n n' : Option Fault) (new : CExpr)
    → ChecksAsked env want e a m n new → w ≡ want → b ≡ a → s ≡ span_of e → n' ≡ kept_all n (own (rule_on_both w b (same_rule s))) → ChecksGiven env want e m n' new
given_part env want a w b e s m n n' new c p q k met =
    let rule : rule_on_both w b (same_rule s) ≡ given_verdict env want e =
    ap (λ x. rule_on_both x b (same_rule s)) p ∙ (ap (λ x. rule_on_both want x (same_rule s)) (q ∙ c.0) ∙ ap (λ x. rule_on_both want (type_asked want e (type_of env e)) (same_rule x)) k) in (
      two_met m n n' (asked_faults want e (faults env e)) (own (given_verdict env want e)) c.1 (met ∙ ap (λ x. kept_all n (own x)) rule),
      c.2,
    )

pub tested_part : (env : Env) (want : Option Ty) (e : CExpr) (s : Span) (deep : Bool) (m n n' : Option Fault) (new : CExpr)
    → ChecksGiven env want e m n new → s ≡ span_of e → deep ≡ nat_lt MAX_NEED (need e) → n' ≡ kept_all n (fault_if deep TOO_DEEP s) → ChecksTested env want e m n' new
tested_part env want e s deep m n n' new c k d met = (
  two_met m n n' (given_faults env want e) (deep_faults (span_of e) (need e)) c.0
      (met ∙ (ap (λ x. kept_all n (fault_if deep TOO_DEEP x)) k ∙ ap (λ b. kept_all n (fault_if b TOO_DEEP (span_of e))) d)),
  c.1,
)

pub left_part : (env : Env) (p : CExpr) (place : Bool) (s : Span) (t r : Option Ty) (m n n' : Option Fault) (new : CExpr)
    → Checks env p t m n new → place ≡ is_lvalue p → s ≡ span_of p → SettlesType r n n' (rule_on_one t (left_rule place s)) → ChecksLeft env p r m n' new
left_part env p place s t r m n n' new c k l q =
    let rule : rule_on_one t (left_rule place s) ≡ rule_on_one t (left_rule (is_lvalue p) (span_of p)) =
    ap (λ x. rule_on_one t (left_rule x s)) k ∙ ap (λ x. rule_on_one t (left_rule (is_lvalue p) x)) l in
    let d = one_part env p (λ x. rule_on_one x (left_rule (is_lvalue p) (span_of p))) t m n n' new r _ c rule q in
    (d.0, d.1, c.2)

-- what a list of types asks of the argument after some
first-rest : (i : ℕ) (ps : List Ty) → first_of (rest i ps) ≡ slice_get ps i
first-rest zero [] = refl
first-rest zero (p ∷ ps) = refl
first-rest (suc i) [] = refl
first-rest (suc i) (p ∷ ps) = first-rest i ps

rest-rest : (i : ℕ) (ps : List Ty) → rest_of (rest i ps) ≡ rest (suc i) ps
rest-rest zero [] = refl
rest-rest zero (p ∷ ps) = refl
rest-rest (suc i) [] = refl
rest-rest (suc i) (p ∷ ps) = rest-rest i ps

-- one argument more is checked
pub args_step : (env : Env) (ps : List Ty) (es : List CExpr) (i : ℕ) (e : CExpr) (want : Option Ty) (m n : Option Fault) (target : Option Fault)
    → i < length es → e ≡ get_or es i e → want ≡ slice_get ps i → n ≡ kept_all m (given_faults env want e)
    → kept_all m (args_faults env (rest i ps) (rest i es)) ≡ target → kept_all n (args_faults env (rest (i + 1) ps) (rest (i + 1) es)) ≡ target
args_step env ps es i e want m n target within was asked met inv =
    let next : rest i es ≡ e ∷ rest (i + 1) es = rest-next i es e within ∙ ap (λ x. x ∷ rest (i + 1) es) (sym was) in
    let params : rest_of (rest i ps) ≡ rest (i + 1) ps = rest-rest i ps ∙ ap (λ k. rest k ps) (sym (add-one i)) in
    ap (λ x. kept_all x (args_faults env (rest (i + 1) ps) (rest (i + 1) es))) (met ∙ ap (λ x. kept_all m (given_faults env x e)) (asked ∙ sym (first-rest i ps)))
    ∙ (ap (λ x. kept_all (kept_all m (given_faults env (first_of (rest i ps)) e)) (args_faults env x (rest (i + 1) es))) (sym params)
    ∙ (sym (kept_all-append m (given_faults env (first_of (rest i ps)) e) (args_faults env (rest_of (rest i ps)) (rest (i + 1) es)))
    ∙ (ap (λ l. kept_all m (args_faults env (rest i ps) l)) (sym next) ∙ inv)))

-- the fault of what needs too many registers
deep_met : (s : Span) (registers : ℕ) (deep : Bool) (m n : Option Fault) → deep ≡ nat_lt MAX_NEED registers → n ≡ kept_all m (fault_if deep TOO_DEEP s) → n ≡ kept_all m (deep_faults s registers)
deep_met s registers deep m n d met = met ∙ ap (λ b. kept_all m (fault_if b TOO_DEEP s)) d

pub assign_met : (env : Env) (s : Span) (p v after value : CExpr) (t : Option Ty) (deep : Bool) (m n n' n'' : Option Fault)
    → ChecksLeft env p t m n after → ChecksGiven env t v n n' value → deep ≡ nat_lt MAX_NEED (assign_need p v) → n'' ≡ kept_all n' (fault_if deep TOO_DEEP s)
    → n'' ≡ kept_all m (assign_faults env s p v)
assign_met env s p v after value t deep m n n' n'' l g d met =
    two_met m n n'' (left_faults env p) (given_faults env (left_type env p) v ++ deep_faults s (assign_need p v)) l.1
    (two_met n n' n'' (given_faults env (left_type env p) v) (deep_faults s (assign_need p v)) (g.0 ∙ ap (λ x. kept_all n (given_faults env x v)) l.0)
    (deep_met s (assign_need p v) deep n' n'' d met))

pub call_met : (env : Env) (s cs : Span) (p after : CExpr) (f : CName) (args after_args : List CExpr) (t w : Option Ty) (found : Option Callee) (count : ℕ) (deep : Bool) (m n n1 n2 n3 : Option Fault)
    → ChecksLeft env p t m n after → w ≡ t → found ≡ callee_named env f.text → count ≡ length args
    → n1 ≡ kept_all n (callee_faults cs f w count found) → ChecksArgs env (parameter_types found) args n1 n2 after_args
    → deep ≡ nat_lt MAX_NEED (call_need p args) → n3 ≡ kept_all n2 (fault_if deep TOO_DEEP s)
    → n3 ≡ kept_all m (call_faults env s p cs f args)
call_met env s cs p after f args after_args t w found count deep m n n1 n2 n3 l k e h a b d met =
    let callee = callee_faults cs f (left_type env p) (length args) (callee_named env f.text) in
    let given = args_faults env (parameter_types (callee_named env f.text)) args in
    two_met m n n3 (left_faults env p) (callee ++ (given ++ deep_faults s (call_need p args))) l.1
    (two_met n n1 n3 callee (given ++ deep_faults s (call_need p args))
    (a ∙ (ap (λ x. kept_all n (callee_faults cs f x count found)) (k ∙ l.0)
    ∙ (ap (λ x. kept_all n (callee_faults cs f (left_type env p) x found)) h ∙ ap (λ x. kept_all n (callee_faults cs f (left_type env p) (length args) x)) e)))
    (two_met n1 n2 n3 given (deep_faults s (call_need p args)) (b.0 ∙ ap (λ x. kept_all n1 (args_faults env (parameter_types x) args)) e)
    (deep_met s (call_need p args) deep n2 n3 d met)))

pub new_met : (env : Env) (s ts : Span) (p after : CExpr) (ty : CTy) (t : Option Ty) (deep : Bool) (m n n1 n2 n3 : Option Fault)
    → ((m : Option Fault) (fs gs : List Fault) → kept_all (kept_all m fs) gs ≡ kept_all (kept_all m gs) fs)
    → ChecksLeft env p t m n after → n1 ≡ kept_all n (result_faults ts t (pointer (ty_of ty)))
    → n2 ≡ kept_all n1 (type_faults env.structs ty ts) → deep ≡ nat_lt MAX_NEED (new_need p) → n3 ≡ kept_all n2 (fault_if deep TOO_DEEP s)
    → n3 ≡ kept_all m (new_faults (type_faults env.structs) env s p ty ts)
new_met env s ts p after ty t deep m n n1 n2 n3 swap l a b d met =
    let declared = type_faults env.structs ty ts in
    let stored = result_faults ts (left_type env p) (pointer (ty_of ty)) in
    let both : n2 ≡ kept_all (kept_all n declared) stored =
    b ∙ (ap (λ x. kept_all x declared) (a ∙ ap (λ x. kept_all n (result_faults ts x (pointer (ty_of ty)))) l.0) ∙ swap n stored declared) in
    two_met m n n3 (left_faults env p) (declared ++ (stored ++ deep_faults s (new_need p))) l.1
    (two_met n (kept_all n declared) n3 declared (stored ++ deep_faults s (new_need p)) refl
    (two_met (kept_all n declared) n2 n3 stored (deep_faults s (new_need p)) both (deep_met s (new_need p) deep n2 n3 d met)))
