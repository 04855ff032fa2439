-- An expression that is given where a type is asked: by the rules it may stand there exactly where no fault stands in it. The same for
-- left sides, for arguments and for what is tested.
use Rattle.std.proofs.Common.{◌≡◌, ℕ, suc, ◌≤◌, ◌==◌, Bool, true, false, ◌&&◌, nat_lt, if◌then◌else◌, List, [], ◌∷◌, ◌++◌, length, Option, Some, refl, sym, ap, ◌∙◌, subst, arith}
use Rattle.std.proofs.lemmas.Bool.Decides.{nat_tests}
use Rattle.c0_tree.specs.declared.tree.Span.{Span}
use Rattle.c0_tree.specs.Tree.{CExpr, null}
use Rattle.c0_tree.specs.Size.{need}
use Rattle.c0_meaning.specs.Ty.{Ty, pointer, same_ty, is_scalar}
use Rattle.c0_meaning.specs.Env.{Env}
use Rattle.c0_meaning.specs.Fault.{fault, WRONG_TYPE, WRONG_COUNT, NOT_A_PLACE, TOO_DEEP}
use Rattle.c0_meaning.specs.Expression.{has, wrong, type_given, own, rule_on_one, rule_on_both, span_of, is_lvalue, is_null, is_pointer, is_null_for, type_of, faults}
use Rattle.c0_meaning.specs.Judgement.{HasType, IsGiven, a_value, a_null}
use Rattle.c0_meaning.specs.Statement.{MAX_NEED, deep_faults, same_rule, given_faults, tested_faults, left_rule, left_verdict, left_type, left_faults, result_faults, args_faults}
use Rattle.c0_meaning.specs.Rules.{IsLvalue, AreGiven, none, more, IsTested, TestedIsFaultless}
use Rattle.c0_meaning.proofs.TypeEquality.{same_ty-itself, equal-same_ty}
use Rattle.c0_meaning.proofs.ComparedOperands.{unfilled}
use Rattle.c0_meaning.proofs.TypedIsFaultless.{typed_is_faultless, typed_no_null, no_faults}
use Rattle.c0_meaning.proofs.FaultlessIsTyped.{nonempty, left_nil, right_nil, type_is, null_of, pointer_of, faultless_is_typed}

-- a limit is kept exactly where no fault of it stands
pub shallow_clean : (s : Span) (n : ℕ) → n ≤ MAX_NEED → deep_faults s n ≡ []
shallow_clean s n h = ap (λ (b : Bool). if b then fault TOO_DEEP s ∷ [] else []) (below n h)
  where
    below : (n : ℕ) → n ≤ MAX_NEED → nat_lt MAX_NEED n ≡ false
    below n h = grind (arith, nat_tests)

pub clean_shallow : (s : Span) (n : ℕ) → deep_faults s n ≡ [] → n ≤ MAX_NEED
clean_shallow s n h = by_test (nat_lt MAX_NEED n) refl h
  where
    below : (n : ℕ) → nat_lt MAX_NEED n ≡ false → n ≤ MAX_NEED
    below n e = grind (arith, nat_tests)

    by_test : (b : Bool) → nat_lt MAX_NEED n ≡ b → (if b then fault TOO_DEEP s ∷ [] else []) ≡ [] → n ≤ MAX_NEED
    by_test true e h = nonempty h
    by_test false e h = below n e

-- a type that stands where itself is asked
pub same_clean : (s : Span) (t : Ty) → own (same_rule s t t) ≡ []
same_clean s t = ap (λ (b : Bool). own (if b then has t else wrong (fault WRONG_TYPE s))) (same_ty-itself t)

pub clean_same : (s : Span) (t u : Ty) → own (same_rule s t u) ≡ [] → t ≡ u
clean_same s t u h = by_test (same_ty t u) refl h
  where
    by_test : (b : Bool) → same_ty t u ≡ b → own (if b then has t else wrong (fault WRONG_TYPE s)) ≡ [] → t ≡ u
    by_test true e h = equal-same_ty t u e
    by_test false e h = nonempty h

-- by whether it is a null that takes the type
abbrev Clean : Env → Ty → CExpr → Bool → Type 0
Clean env t e fills =
    (if fills then [] else faults env e) ++ own (rule_on_both (Some t) (if fills then Some t else type_of env e) (same_rule (span_of e))) ≡ []

pub given_clean : (env : Env) (e : CExpr) (t : Ty) → IsGiven env e t → given_faults env (Some t) e ≡ []
given_clean env e t (a_value h) = subst (Clean env t e) (sym (unfilled (Some t) e (typed_no_null env e t h))) here
  where
    here : Clean env t e false
    here = no_faults _ _ (typed_is_faultless env e t h).0
        (ap (λ o. own (rule_on_both (Some t) o (same_rule (span_of e)))) (type_is env e t h) ∙ same_clean (span_of e) t)
given_clean env _ _ (a_null {s = s} {t = t}) = same_clean s (pointer t)

pub clean_given : (env : Env) (e : CExpr) (t : Ty) → given_faults env (Some t) e ≡ [] → IsGiven env e t
clean_given env e t h = by_test (is_null_for (Some t) e) refl h
  where
    parts : (x y : Bool) → (x && y) ≡ true → (x ≡ true) × (y ≡ true)
    parts true y h = (refl, h)
    parts false y h = absurd (cc)

    by_test : (b : Bool) → is_null_for (Some t) e ≡ b → Clean env t e b → IsGiven env e t
    by_test true f h =
        let p = parts (is_null e) (is_pointer (Some t)) f in
        let n = null_of e p.0 in
        let u = pointer_of t p.1 in
        subst (λ x. IsGiven env x t) n.1 (subst (λ x. IsGiven env (null n.0) x) (sym u.1) a_null)
    by_test false f h =
        let v = faultless_is_typed env e (left_nil (faults env e) _ h) in
        let same = clean_same (span_of e) t v.0
        (ap (λ o. own (rule_on_both (Some t) o (same_rule (span_of e)))) (sym (type_is env e v.0 v.1)) ∙ right_nil (faults env e) _ h) in
        a_value (subst (HasType env e) (sym same) v.1)

tested_clean : (env : Env) (t : Ty) (e : CExpr) → IsTested env e t → tested_faults env t e ≡ []
tested_clean env t e h = no_faults _ _ (given_clean env e t h.value) (shallow_clean (span_of e) (need e) h.shallow)

clean_tested : (env : Env) (t : Ty) (e : CExpr) → tested_faults env t e ≡ [] → IsTested env e t
clean_tested env t e h = record {
  value = clean_given env e t (left_nil (given_faults env (Some t) e) _ h);
  shallow = clean_shallow (span_of e) (need e) (right_nil (given_faults env (Some t) e) _ h);
}

pub tested_is_faultless : TestedIsFaultless
tested_is_faultless env t e = (tested_clean env t e, clean_tested env t e)

-- a left side: its faults, and the type that it asks
pub record Left (env : Env) (p : CExpr) (t : Ty) : Type 0 where
  pub clean : left_faults env p ≡ []
  pub asks : left_type env p ≡ Some t

pub left_clean : (env : Env) (p : CExpr) (t : Ty) → IsLvalue env p t → Left env p t
left_clean env p t h =
    let v : left_verdict env p ≡ has t =
    ap (λ o. rule_on_one o (left_rule (is_lvalue p) (span_of p))) (type_is env p t h.typed)
    ∙ (ap (λ b. left_rule b (span_of p) t) h.place ∙ ap (λ (b : Bool). if b then has t else wrong (fault WRONG_TYPE (span_of p))) h.scalar) in
    record { clean = no_faults _ _ (typed_is_faultless env p t h.typed).0 (ap own v); asks = ap type_given v }

pub clean_left : (env : Env) (p : CExpr) → left_faults env p ≡ [] → (t : Ty) × IsLvalue env p t
clean_left env p h =
    let v = faultless_is_typed env p (left_nil (faults env p) _ h) in
    let r : own (left_rule (is_lvalue p) (span_of p) v.0) ≡ [] =
    ap (λ o. own (rule_on_one o (left_rule (is_lvalue p) (span_of p)))) (sym (type_is env p v.0 v.1)) ∙ right_nil (faults env p) _ h in
    let q = tests (span_of p) v.0 (is_lvalue p) (is_scalar v.0) r in
    (v.0, record { place = q.0; scalar = q.1; typed = v.1 })
  where
    tests : (s : Span) (t : Ty) (x y : Bool) → own (if x then (if y then has t else wrong (fault WRONG_TYPE s)) else wrong (fault NOT_A_PLACE s)) ≡ [] → (x ≡ true) × (y ≡ true)
    tests s t true true h = (refl, refl)
    tests s t true false h = nonempty h
    tests s t false y h = nonempty h

pub args_clean : (env : Env) (es : List CExpr) (ts : List Ty) → AreGiven env es ts → args_faults env ts es ≡ []
args_clean env _ _ none = refl
args_clean env _ _ (more {e = e} {t = t} h k) = no_faults _ _ (given_clean env e t h) (args_clean env _ _ k)

pub args_count : (env : Env) (es : List CExpr) (ts : List Ty) → AreGiven env es ts → length ts ≡ length es
args_count env _ _ none = refl
args_count env _ _ (more h k) = ap suc_of (args_count env _ _ k)
  where
    suc_of : ℕ → ℕ
    suc_of n = suc n

pub clean_args : (env : Env) (es : List CExpr) (ts : List Ty) → length ts ≡ length es → args_faults env ts es ≡ [] → AreGiven env es ts
clean_args env [] [] c h = none
clean_args env (e ∷ es) (t ∷ ts) c h =
    more (clean_given env e t (left_nil (given_faults env (Some t) e) _ h)) (clean_args env es ts (less c) (right_nil (given_faults env (Some t) e) _ h))
  where
    less : suc (length ts) ≡ suc (length es) → length ts ≡ length es
    less e = omega (arith, e)
clean_args env [] (t ∷ ts) c h = absurd (cc)
clean_args env (e ∷ es) [] c h = absurd (cc)

-- a result of the type that is asked
pub result_clean : (s : Span) (want : Option Ty) (t : Ty) → want ≡ Some t → result_faults s want t ≡ []
result_clean s want t e = ap (λ w. result_faults s w t) e ∙ same_clean s t

pub clean_result : (s : Span) (want : Option Ty) (w t : Ty) → want ≡ Some w → result_faults s want t ≡ [] → w ≡ t
clean_result s want w t e h = clean_same s w t (ap (λ o. result_faults s o t) (sym e) ∙ h)

-- the number of arguments
pub count_clean : (s : Span) (m n : ℕ) → m ≡ n → (if m == n then [] else fault WRONG_COUNT s ∷ []) ≡ []
count_clean s m n e = ap (λ (b : Bool). if b then [] else fault WRONG_COUNT s ∷ []) (equal m n e)
  where
    equal : (m n : ℕ) → m ≡ n → (m == n) ≡ true
    equal m n e = grind (arith, nat_tests)

pub clean_count : (s : Span) (m n : ℕ) → (if m == n then [] else fault WRONG_COUNT s ∷ []) ≡ [] → m ≡ n
clean_count s m n h = by_test (m == n) refl h
  where
    equal : (m n : ℕ) → (m == n) ≡ true → m ≡ n
    equal m n e = grind (arith, nat_tests)

    by_test : (b : Bool) → (m == n) ≡ b → (if b then [] else fault WRONG_COUNT s ∷ []) ≡ [] → m ≡ n
    by_test true e h = equal m n e
    by_test false e h = nonempty h
