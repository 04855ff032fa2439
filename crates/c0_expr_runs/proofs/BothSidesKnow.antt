-- Where an operator's right side is evaluated after any left side, the same is known as before.
use Rattle.std.proofs.Common.{◌≡◌, refl}
use Rattle.c0_tree.specs.declared.tree.BinaryOp.{BinaryOp}
use Rattle.c0_meaning.specs.Judgement.{IsArithmetic, add, sub, mul, div, rem, IsOrdering, lt, le, gt, ge, IsEquality, eq, ne}
use Rattle.c0_typed.specs.Tree.{TExpr}
use Rattle.c0_expr_code.specs.declared.facts.Facts.{Facts}
use Rattle.c0_expr_code.specs.Code.{right_facts}

pub arithmetic_knows : (o : BinaryOp) → IsArithmetic o → (e : TExpr) (f : Facts) → right_facts o e f ≡ f
arithmetic_knows _ add e f = refl
arithmetic_knows _ sub e f = refl
arithmetic_knows _ mul e f = refl
arithmetic_knows _ div e f = refl
arithmetic_knows _ rem e f = refl

pub order_knows : (o : BinaryOp) → IsOrdering o → (e : TExpr) (f : Facts) → right_facts o e f ≡ f
order_knows _ lt e f = refl
order_knows _ le e f = refl
order_knows _ gt e f = refl
order_knows _ ge e f = refl

pub equality_knows : (o : BinaryOp) → IsEquality o → (e : TExpr) (f : Facts) → right_facts o e f ≡ f
equality_knows _ eq e f = refl
equality_knows _ ne e f = refl
