-- Each expression needs a register.
use Rattle.std.proofs.Common.{ℕ, ◌≤◌, arith}
use Rattle.c0_tree.specs.declared.tree.BinaryOp.{BinaryOp}
use Rattle.c0_tree.specs.declared.tree.BinaryOp.TheVariants.{And, Or}
use Rattle.c0_tree.specs.Tree.{CExpr, field, arrow, index, deref, address, unary, binary}
use Rattle.c0_tree.specs.Size.{need, binary_need}

binary_some : (o : BinaryOp) (a b : ℕ) → 1 ≤ a → 1 ≤ binary_need o a b
binary_some And a b h = omega arith
binary_some Or a b h = omega arith
binary_some _ a b h = omega arith

pub need_some : (e : CExpr) → 1 ≤ need e
need_some (field p e f) = need_some e
need_some (arrow p e f) = need_some e
need_some (index p e i) = let a = need_some e in omega (arith, a)
need_some (deref p e) = need_some e
need_some (address p e) = need_some e
need_some (unary p o e) = need_some e
need_some (binary p o a b) = binary_some o (need a) (need b) (need_some a)
need_some _ = omega arith
