-- What the check of a node makes of the checks of its parts.
use Rattle.std.proofs.Common.{◌≡◌, ℕ, Bool, true, false, ◌&&◌, if◌then◌else◌, List, [], ◌++◌, Option, Some, None, refl, sym, ap, ◌∙◌, subst}
use Rattle.c0_tree.specs.declared.tree.Span.{Span}
use Rattle.c0_tree.specs.declared.tree.BinaryOp.{BinaryOp}
use Rattle.c0_tree.specs.declared.tree.Expr.{Expr}
use Rattle.c0_tree.specs.View.{expr_view}
use Rattle.c0_tree.specs.Tree.{CName, CExpr, null, field, arrow, index, address, binary}
use Rattle.c0_meaning.specs.Ty.{Ty}
use Rattle.c0_meaning.specs.Env.{Env, Typed}
use Rattle.c0_meaning.specs.Fault.{Fault, kept_all}
use Rattle.c0_meaning.specs.Expression.{Verdict, type_given, own, rule_on_one, rule_on_both, is_lvalue, is_local, span_of, is_null, is_pointer, is_null_for, type_asked, asked_faults, compares, operand_type, member, target, place_field_rule, arrow_rule, index_rule, address_rule, binary_rule, type_of, faults, numbered_field, resolved}
use Rattle.c0_body_check.specs.Check.{SettlesType, Checks, ChecksAsked}
use Rattle.c0_name_check.proofs.FaultsMet.{kept_all-append}

-- the same of an expression that is seen otherwise
pub seen : (env : Env) (x y : CExpr) (t : Option Ty) (m n : Option Fault) (new after : CExpr) → x ≡ y → new ≡ after → Checks env y t m n after → Checks env x t m n new
seen env x y t m n new after e k w = (
  w.0 ∙ ap (type_of env) (sym e),
  w.1 ∙ ap (λ z. kept_all m (faults env z)) (sym e),
  k ∙ (w.2 ∙ ap (resolved env) (sym e)),
)

-- the check of a part that was lent
pub part : (env : Env) (x y : Expr) (t : Option Ty) (m n : Option Fault) (new : CExpr) → x ≡ y → Checks env (expr_view x) t m n new → Checks env (expr_view y) t m n new
part env x y t m n new e w = subst (λ z. Checks env (expr_view z) t m n new) e w

pub part_asked : (env : Env) (want : Option Ty) (x y : Expr) (t : Option Ty) (m n : Option Fault) (new : CExpr) → x ≡ y
    → ChecksAsked env want (expr_view x) t m n new → ChecksAsked env want (expr_view y) t m n new
part_asked env want x y t m n new e w = subst (λ z. ChecksAsked env want (expr_view z) t m n new) e w

-- a test of a part that was lent
pub tested : (test : CExpr → Bool) (x y : Expr) (r v : Bool) → x ≡ y → r ≡ test (expr_view x) → r ≡ v → test (expr_view y) ≡ v
tested test x y r v e a b = ap (λ z. test (expr_view z)) (sym e) ∙ (sym a ∙ b)

-- a node of one part, whose rule depends on the part's type
pub one_part : (env : Env) (e : CExpr) (rule : Option Ty → Verdict) (t : Option Ty) (m n n' : Option Fault) (new : CExpr) (r : Option Ty) (v : Verdict)
    → Checks env e t m n new → v ≡ rule t → SettlesType r n n' v
    → (r ≡ type_given (rule (type_of env e))) × (n' ≡ kept_all m (faults env e ++ own (rule (type_of env e))))
one_part env e rule t m n n' new r v w s q =
    let same : v ≡ rule (type_of env e) = s ∙ ap rule w.0 in (
      q.0 ∙ ap type_given same,
      q.1 ∙ (ap (λ x. kept_all n (own x)) same ∙ (ap (λ x. kept_all x (own (rule (type_of env e)))) w.1 ∙ sym (kept_all-append m (faults env e) (own (rule (type_of env e)))))),
    )

-- a node of two parts
pub two_parts : (env : Env) (fs gs : List Fault) (rule : Option Ty → Option Ty → Verdict) (t t' u u' : Option Ty) (m n n' : Option Fault) (r : Option Ty) (v : Verdict)
    → n ≡ kept_all (kept_all m fs) gs → t ≡ t' → u ≡ u' → v ≡ rule t u → SettlesType r n n' v
    → (r ≡ type_given (rule t' u')) × (n' ≡ kept_all m (fs ++ (gs ++ own (rule t' u'))))
two_parts env fs gs rule t t' u u' m n n' r v k p q s w =
    let same : v ≡ rule t' u' = s ∙ (ap (λ x. rule x u) p ∙ ap (rule t') q) in (
      w.0 ∙ ap type_given same,
      w.1 ∙ (ap (λ x. kept_all n (own x)) same ∙ (ap (λ x. kept_all x (own (rule t' u'))) k
          ∙ (sym (kept_all-append (kept_all m fs) gs (own (rule t' u'))) ∙ sym (kept_all-append m fs (gs ++ own (rule t' u')))))),
    )

numbered_field-span : (f : CName) (found : Option (ℕ × Typed)) → (numbered_field f found).span ≡ f.span
numbered_field-span f None = refl
numbered_field-span f (Some p) = refl

pub field_node : (env : Env) (s at : Span) (e : CExpr) (f f' : CName) (place : Bool) (t o : Option Ty) (found : Option (ℕ × Typed)) (m n n' : Option Fault) (new : CExpr) (r : Option Ty)
    → Checks env e t m n new → o ≡ t → place ≡ is_lvalue e → at ≡ span_of e → found ≡ member env o f.text → f' ≡ numbered_field f found
    → SettlesType r n n' (rule_on_one o (place_field_rule s place at f'.span found)) → Checks env (field s e f) r m n' (field s new f')
field_node env s at e f f' place t o found m n n' new r w g p a h k q =
    let rule : rule_on_one o (place_field_rule s place at f'.span found) ≡ rule_on_one t (place_field_rule s (is_lvalue e) (span_of e) f.span (member env t f.text)) =
    ap (λ x. rule_on_one o (place_field_rule s x at f'.span found)) p
    ∙ (ap (λ x. rule_on_one o (place_field_rule s (is_lvalue e) x f'.span found)) a
    ∙ (ap (λ x. rule_on_one o (place_field_rule s (is_lvalue e) (span_of e) x found)) (ap (λ x. x.span) k ∙ numbered_field-span f found)
    ∙ (ap (λ x. rule_on_one o (place_field_rule s (is_lvalue e) (span_of e) f.span x)) h
    ∙ ap (λ x. rule_on_one x (place_field_rule s (is_lvalue e) (span_of e) f.span (member env x f.text))) g))) in
    let d = one_part env e (λ x. rule_on_one x (place_field_rule s (is_lvalue e) (span_of e) f.span (member env x f.text))) t m n n' new r _ w rule q in (
      d.0,
      d.1,
      ap (λ x. field s x f') w.2 ∙ ap (field s (resolved env e)) (k ∙ ap (numbered_field f) (h ∙ ap (λ x. member env x f.text) (g ∙ w.0))),
    )

pub arrow_node : (env : Env) (s : Span) (e : CExpr) (f f' : CName) (t o b : Option Ty) (found : Option (ℕ × Typed)) (m n n' : Option Fault) (new : CExpr) (r : Option Ty)
    → Checks env e t m n new → o ≡ t → b ≡ target o → found ≡ member env b f.text → f' ≡ numbered_field f found
    → SettlesType r n n' (rule_on_one o (arrow_rule s f'.span found)) → Checks env (arrow s e f) r m n' (arrow s new f')
arrow_node env s e f f' t o b found m n n' new r w g l h k q =
    let there : found ≡ member env (target o) f.text = h ∙ ap (λ x. member env x f.text) l in
    let rule : rule_on_one o (arrow_rule s f'.span found) ≡ rule_on_one t (arrow_rule s f.span (member env (target t) f.text)) =
    ap (λ x. rule_on_one o (arrow_rule s x found)) (ap (λ x. x.span) k ∙ numbered_field-span f found)
    ∙ (ap (λ x. rule_on_one o (arrow_rule s f.span x)) there ∙ ap (λ x. rule_on_one x (arrow_rule s f.span (member env (target x) f.text))) g) in
    let d = one_part env e (λ x. rule_on_one x (arrow_rule s f.span (member env (target x) f.text))) t m n n' new r _ w rule q in (
      d.0,
      d.1,
      ap (λ x. arrow s x f') w.2 ∙ ap (arrow s (resolved env e)) (k ∙ ap (numbered_field f) (there ∙ ap (λ x. member env (target x) f.text) (g ∙ w.0))),
    )

pub index_node : (env : Env) (s at : Span) (e i : CExpr) (place : Bool) (t o u p : Option Ty) (m n n' n'' : Option Fault) (new after : CExpr) (r : Option Ty)
    → Checks env e t m n new → Checks env i u n n' after → o ≡ t → p ≡ u → place ≡ is_lvalue e → at ≡ span_of e
    → SettlesType r n' n'' (rule_on_both o p (index_rule s place at)) → Checks env (index s e i) r m n'' (index s new after)
index_node env s at e i place t o u p m n n' n'' new after r w v g h b a q =
    let rule : rule_on_both o p (index_rule s place at) ≡ rule_on_both o p (index_rule s (is_lvalue e) (span_of e)) =
    ap (λ x. rule_on_both o p (index_rule s x at)) b ∙ ap (λ x. rule_on_both o p (index_rule s (is_lvalue e) x)) a in
    let d = two_parts env (faults env e) (faults env i) (λ x y. rule_on_both x y (index_rule s (is_lvalue e) (span_of e))) o (type_of env e) p (type_of env i) m n' n'' r _
    (v.1 ∙ ap (λ x. kept_all x (faults env i)) w.1) (g ∙ w.0) (h ∙ v.0) rule q in (
      d.0,
      d.1,
      ap (λ x. index s x after) w.2 ∙ ap (index s (resolved env e)) v.2,
    )

pub address_node : (env : Env) (s at : Span) (e : CExpr) (place local : Bool) (t : Option Ty) (m n n' : Option Fault) (new : CExpr) (r : Option Ty)
    → Checks env e t m n new → place ≡ is_lvalue e → local ≡ is_local env e → at ≡ span_of e
    → SettlesType r n n' (rule_on_one t (address_rule place local at)) → Checks env (address s e) r m n' (address s new)
address_node env s at e place local t m n n' new r w p l a q =
    let rule : rule_on_one t (address_rule place local at) ≡ rule_on_one t (address_rule (is_lvalue e) (is_local env e) (span_of e)) =
    ap (λ x. rule_on_one t (address_rule x local at)) p
    ∙ (ap (λ x. rule_on_one t (address_rule (is_lvalue e) x at)) l ∙ ap (λ x. rule_on_one t (address_rule (is_lvalue e) (is_local env e) x)) a) in
    let d = one_part env e (λ x. rule_on_one x (address_rule (is_lvalue e) (is_local env e) (span_of e))) t m n n' new r _ w rule q in
    (d.0, d.1, ap (address s) w.2)

null_has_none : (env : Env) (e : CExpr) → is_null e ≡ true → type_of env e ≡ None
null_has_none env (null s) h = refl
null_has_none env _ h = cc

-- a null has no type, so it asks nothing of the operand beside it
unfilled_beside : (env : Env) (o : BinaryOp) (a b : CExpr) → is_null a ≡ true → is_null_for (operand_type o (type_of env a)) b ≡ false
unfilled_beside env o a b h = ap (λ t. is_null_for (operand_type o t) b) (null_has_none env a h) ∙ none_asks (compares o) (is_null b)
  where
    none_asks : (x y : Bool) → (y && is_pointer (if x then None else None)) ≡ false
    none_asks true true = refl
    none_asks true false = refl
    none_asks false true = refl
    none_asks false false = refl

-- nothing is filled but a null
unfilled : (want : Option Ty) (e : CExpr) → is_null e ≡ false → is_null_for want e ≡ false
unfilled want e h = ap (λ (x : Bool). x && is_pointer want) h

-- an operand that is not filled counts as it is
plain : {A : Type 0} (b : Bool) (x y : A) → b ≡ false → y ≡ (if b then x else y)
plain b x y e = sym (ap (λ v. if v then x else y) e)

-- the left operand is a null: the right one is checked first
pub null_left_node : (env : Env) (s : Span) (o : BinaryOp) (a b : CExpr) (u l r' p q : Option Ty) (m n n' n'' : Option Fault) (new after : CExpr) (r : Option Ty)
    → ((m : Option Fault) (fs gs : List Fault) → kept_all (kept_all m fs) gs ≡ kept_all (kept_all m gs) fs)
    → is_null a ≡ true → Checks env b u m n after → q ≡ operand_type o u → ChecksAsked env q a l n n' new → p ≡ l → r' ≡ u
    → SettlesType r n' n'' (rule_on_both p r' (binary_rule s o)) → Checks env (binary s o a b) r m n'' (binary s o new after)
null_left_node env s o a b u l r' p q m n n' n'' new after r swap h v e w f g k =
    let ask : q ≡ operand_type o (type_of env b) = e ∙ ap (operand_type o) v.0 in
    let free = unfilled_beside env o a b h in
    let fs = asked_faults (operand_type o (type_of env b)) a (faults env a) in
    let gs = asked_faults (operand_type o (type_of env a)) b (faults env b) in
    let met : n' ≡ kept_all (kept_all m fs) gs =
    w.1 ∙ (ap (λ x. kept_all n (asked_faults x a (faults env a))) ask
    ∙ (ap (λ x. kept_all x fs) (v.1 ∙ ap (kept_all m) (plain _ [] (faults env b) free)) ∙ swap m gs fs)) in
    let d = two_parts env fs gs (λ x y. rule_on_both x y (binary_rule s o)) p _ r' _ m n' n'' r _ met
    (f ∙ (w.0 ∙ ap (λ x. type_asked x a (type_of env a)) ask)) (g ∙ (v.0 ∙ plain _ (operand_type o (type_of env a)) (type_of env b) free)) refl k in (
      d.0,
      d.1,
      ap (λ x. binary s o x after) w.2 ∙ ap (binary s o (resolved env a)) v.2,
    )

-- the left operand is no null: it is checked first
pub no_null_left_node : (env : Env) (s : Span) (o : BinaryOp) (a b : CExpr) (t l r' p q : Option Ty) (m n n' n'' : Option Fault) (new after : CExpr) (r : Option Ty)
    → is_null a ≡ false → Checks env a t m n new → q ≡ operand_type o t → ChecksAsked env q b l n n' after → p ≡ t → r' ≡ l
    → SettlesType r n' n'' (rule_on_both p r' (binary_rule s o)) → Checks env (binary s o a b) r m n'' (binary s o new after)
no_null_left_node env s o a b t l r' p q m n n' n'' new after r h v e w f g k =
    let ask : q ≡ operand_type o (type_of env a) = e ∙ ap (operand_type o) v.0 in
    let free = unfilled (operand_type o (type_of env b)) a h in
    let fs = asked_faults (operand_type o (type_of env b)) a (faults env a) in
    let gs = asked_faults (operand_type o (type_of env a)) b (faults env b) in
    let met : n' ≡ kept_all (kept_all m fs) gs =
    w.1 ∙ (ap (λ x. kept_all n (asked_faults x b (faults env b))) ask
    ∙ ap (λ x. kept_all x gs) (v.1 ∙ ap (kept_all m) (plain _ [] (faults env a) free))) in
    let d = two_parts env fs gs (λ x y. rule_on_both x y (binary_rule s o)) p _ r' _ m n' n'' r _ met
    (f ∙ (v.0 ∙ plain _ (operand_type o (type_of env b)) (type_of env a) free)) (g ∙ (w.0 ∙ ap (λ x. type_asked x b (type_of env b)) ask)) refl k in (
      d.0,
      d.1,
      ap (λ x. binary s o x after) v.2 ∙ ap (binary s o (resolved env a)) w.2,
    )
