-- The operands of a comparison, one of which may be a null that takes the other's type.
use Rattle.std.proofs.Common.{◌≡◌, Bool, true, false, ◌&&◌, if◌then◌else◌, Option, None, refl, ap, ◌∙◌}
use Rattle.c0_tree.specs.declared.tree.BinaryOp.{BinaryOp}
use Rattle.c0_tree.specs.Tree.{CExpr, null}
use Rattle.c0_meaning.specs.Ty.{Ty}
use Rattle.c0_meaning.specs.Env.{Env}
use Rattle.c0_meaning.specs.Expression.{is_null, is_pointer, is_null_for, compares, operand_type, type_of}

null_has_none : (env : Env) (e : CExpr) → is_null e ≡ true → type_of env e ≡ None
null_has_none env (null s) h = refl
null_has_none env _ h = cc

-- a null has no type, so it asks nothing of the operand beside it
pub right_free : (env : Env) (o : BinaryOp) (a b : CExpr) → is_null a ≡ true → is_null_for (operand_type o (type_of env a)) b ≡ false
right_free env o a b h = ap (λ t. is_null_for (operand_type o t) b) (null_has_none env a h) ∙ none_asks (compares o) (is_null b)
  where
    none_asks : (x y : Bool) → (y && is_pointer (if x then None else None)) ≡ false
    none_asks true true = refl
    none_asks true false = refl
    none_asks false true = refl
    none_asks false false = refl

-- nothing is filled but a null
pub unfilled : (want : Option Ty) (e : CExpr) → is_null e ≡ false → is_null_for want e ≡ false
unfilled want e h = ap (λ (x : Bool). x && is_pointer want) h

-- what a filled operand tells: a comparison, a null, and a pointer beside it
pub record Filled (o : BinaryOp) (e : CExpr) (t : Option Ty) : Type 0 where
  pub compared : compares o ≡ true
  pub null_there : is_null e ≡ true
  pub pointer_beside : is_pointer t ≡ true

pub filled_tells : (o : BinaryOp) (e : CExpr) (t : Option Ty) → is_null_for (operand_type o t) e ≡ true → Filled o e t
filled_tells o e t h = let p = by_tests (compares o) (is_null e) h in record { compared = p.0; null_there = p.1; pointer_beside = p.2 }
  where
    by_tests : (x y : Bool) → (y && is_pointer (if x then t else None)) ≡ true → (x ≡ true) × (y ≡ true) × (is_pointer t ≡ true)
    by_tests true true h = (refl, refl, h)
    by_tests false true h = absurd (cc)
    by_tests x false h = absurd (cc)
