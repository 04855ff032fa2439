-- Expressions with their names resolved: their types, faults and sizes stay, and resolving them again changes nothing.
use Rattle.std.proofs.Common.{◌≡◌, ℕ, List, Option, Some, None, refl, ap, ◌∙◌}
use Rattle.c0_tree.specs.declared.tree.Span.{Span}
use Rattle.c0_tree.specs.declared.tree.UnaryOp.{UnaryOp}
use Rattle.c0_tree.specs.declared.tree.BinaryOp.{BinaryOp}
use Rattle.c0_tree.specs.Tree.{CName, CExpr, num, true_, false_, null, var, field, arrow, index, deref, address, unary, binary}
use Rattle.c0_tree.specs.Size.{need, nodes}
use Rattle.c0_tree.specs.Plain.{is_plain_expr}
use Rattle.c0_meaning.specs.Env.{Env, Typed, Variable, variable_named}
use Rattle.c0_meaning.specs.Expression.{own, span_of, is_lvalue, is_local, is_null, variable_rule, member, target, verdict, type_of, faults, numbered_variable, numbered_field, resolved}
use Rattle.c0_meaning.proofs.StableTypes.{IsAt}

-- an expression of which the same is read as of another, and that resolving leaves as it is
pub record IsKept (env : Env) (e f : CExpr) : Type 0 where
  pub said : verdict env f ≡ verdict env e
  pub faulty : faults env f ≡ faults env e
  pub span : span_of f ≡ span_of e
  pub place : is_lvalue f ≡ is_lvalue e
  pub local : is_local env f ≡ is_local env e
  pub nothing : is_null f ≡ is_null e
  pub needed : need f ≡ need e
  pub counted : nodes f ≡ nodes e
  pub plain : is_plain_expr f ≡ is_plain_expr e
  pub again : resolved env f ≡ f

-- names
variable_at : (x : CName) (found : Option Variable) → IsAt x (numbered_variable x found)
variable_at x None = record { text = refl; span = refl }
variable_at x (Some v) = record { text = refl; span = refl }

variable_again : (x : CName) (found : Option Variable) → numbered_variable (numbered_variable x found) found ≡ numbered_variable x found
variable_again x None = refl
variable_again x (Some v) = refl

variable_said : (x y : CName) (found : Option Variable) → IsAt x y → variable_rule y found ≡ variable_rule x found
variable_said x y None at = cc
variable_said x y (Some v) at = refl

-- one node of each kind, over parts that are kept
kept_variable : (env : Env) (x y : CName) → IsAt x y → numbered_variable y (variable_named env x.text) ≡ y → IsKept env (var x) (var y)
kept_variable env x y at again =
    let said : verdict env (var y) ≡ verdict env (var x) = ap (λ (text : List ℕ). variable_rule y (variable_named env text)) at.text ∙ variable_said x y (variable_named env x.text) at in
    record {
      said = said;
      faulty = ap own said;
      span = at.span;
      place = refl;
      local = cc;
      nothing = refl;
      needed = refl;
      counted = refl;
      plain = refl;
      again = cc;
    }

field_at : (f : CName) (found : Option (ℕ × Typed)) → IsAt f (numbered_field f found)
field_at f None = record { text = refl; span = refl }
field_at f (Some found) = record { text = refl; span = refl }

field_again : (f : CName) (found : Option (ℕ × Typed)) → numbered_field (numbered_field f found) found ≡ numbered_field f found
field_again f None = refl
field_again f (Some found) = refl

kept_field : (env : Env) (s : Span) (e d : CExpr) (f g : CName) → IsKept env e d → IsAt f g
    → numbered_field g (member env (type_of env e) f.text) ≡ g
    → IsKept env (field s e f) (field s d g)
kept_field env s e d f g k at again =
    let said : verdict env (field s d g) ≡ verdict env (field s e f) = cc in
    record {
      said = said;
      faulty = cc;
      span = refl;
      place = refl;
      local = k.local;
      nothing = refl;
      needed = k.needed;
      counted = cc;
      plain = k.plain;
      again = cc;
    }

kept_arrow : (env : Env) (s : Span) (e d : CExpr) (f g : CName) → IsKept env e d → IsAt f g
    → numbered_field g (member env (target (type_of env e)) f.text) ≡ g
    → IsKept env (arrow s e f) (arrow s d g)
kept_arrow env s e d f g k at again =
    let said : verdict env (arrow s d g) ≡ verdict env (arrow s e f) = cc in
    record {
      said = said;
      faulty = cc;
      span = refl;
      place = refl;
      local = refl;
      nothing = refl;
      needed = k.needed;
      counted = cc;
      plain = k.plain;
      again = cc;
    }

kept_index : (env : Env) (s : Span) (e d i j : CExpr) → IsKept env e d → IsKept env i j → IsKept env (index s e i) (index s d j)
kept_index env s e d i j k l =
    let said : verdict env (index s d j) ≡ verdict env (index s e i) = cc in
    record {
      said = said;
      faulty = cc;
      span = refl;
      place = refl;
      local = k.local;
      nothing = refl;
      needed = cc;
      counted = cc;
      plain = cc;
      again = cc;
    }

kept_deref : (env : Env) (s : Span) (e d : CExpr) → IsKept env e d → IsKept env (deref s e) (deref s d)
kept_deref env s e d k =
    let said : verdict env (deref s d) ≡ verdict env (deref s e) = cc in
    record {
      said = said;
      faulty = cc;
      span = refl;
      place = refl;
      local = refl;
      nothing = refl;
      needed = k.needed;
      counted = cc;
      plain = k.plain;
      again = cc;
    }

kept_address : (env : Env) (s : Span) (e d : CExpr) → IsKept env e d → IsKept env (address s e) (address s d)
kept_address env s e d k =
    let said : verdict env (address s d) ≡ verdict env (address s e) = cc in
    record {
      said = said;
      faulty = cc;
      span = refl;
      place = refl;
      local = refl;
      nothing = refl;
      needed = k.needed;
      counted = cc;
      plain = k.plain;
      again = cc;
    }

kept_unary : (env : Env) (s : Span) (o : UnaryOp) (e d : CExpr) → IsKept env e d → IsKept env (unary s o e) (unary s o d)
kept_unary env s o e d k =
    let said : verdict env (unary s o d) ≡ verdict env (unary s o e) = cc in
    record {
      said = said;
      faulty = cc;
      span = refl;
      place = refl;
      local = refl;
      nothing = refl;
      needed = k.needed;
      counted = cc;
      plain = k.plain;
      again = cc;
    }

kept_binary : (env : Env) (s : Span) (o : BinaryOp) (a c b d : CExpr) → IsKept env a c → IsKept env b d
    → IsKept env (binary s o a b) (binary s o c d)
kept_binary env s o a c b d k l =
    let said : verdict env (binary s o c d) ≡ verdict env (binary s o a b) = cc in
    record {
      said = said;
      faulty = cc;
      span = refl;
      place = refl;
      local = refl;
      nothing = refl;
      needed = cc;
      counted = cc;
      plain = cc;
      again = cc;
    }

-- a node without names and parts
kept_itself : (env : Env) (e : CExpr) → resolved env e ≡ e → IsKept env e e
kept_itself env e again = record {
  said = refl;
  faulty = refl;
  span = refl;
  place = refl;
  local = refl;
  nothing = refl;
  needed = refl;
  counted = refl;
  plain = refl;
  again = again;
}

-- resolving keeps an expression
pub kept : (env : Env) (e : CExpr) → IsKept env e (resolved env e)
kept env (num s n) = kept_itself env (num s n) refl
kept env (true_ s) = kept_itself env (true_ s) refl
kept env (false_ s) = kept_itself env (false_ s) refl
kept env (null s) = kept_itself env (null s) refl
kept env (var x) = kept_variable env x _ (variable_at x (variable_named env x.text)) (variable_again x (variable_named env x.text))
kept env (field s e f) =
    let found = member env (type_of env e) f.text in
    kept_field env s e _ f _ (kept env e) (field_at f found) (field_again f found)
kept env (arrow s e f) =
    let found = member env (target (type_of env e)) f.text in
    kept_arrow env s e _ f _ (kept env e) (field_at f found) (field_again f found)
kept env (index s e i) = kept_index env s e _ i _ (kept env e) (kept env i)
kept env (deref s e) = kept_deref env s e _ (kept env e)
kept env (address s e) = kept_address env s e _ (kept env e)
kept env (unary s o e) = kept_unary env s o e _ (kept env e)
kept env (binary s o a b) = kept_binary env s o a _ b _ (kept env a) (kept env b)
