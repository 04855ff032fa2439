-- How the `dispatch` of many kernels begins: who ran goes on, and at the reset user 1 does.
use Rattle.std.specs.Prelude.{[], ◌∷◌, codes}
use Rattle.c0_tree.specs.declared.tree.BinaryOp.TheVariants.{Eq}
use Rattle.c0_tree.specs.Tree.{CExpr, CStmts, binary, assign, choice, done, next}
use Rattle.worked_rows.specs.Kernels.{z, local, number, block}

abbrev pub at_reset : CExpr
at_reset = binary z Eq (local (codes "cause") 0) (number 0)

abbrev pub first_user : CStmts
first_user = block (assign z (local (codes "next") 3) (number 1) ∷ [])

-- next = user; if (cause == 0) { next = 1; } and what is left
abbrev pub goes_on : CStmts → CStmts
goes_on rest = next (assign z (local (codes "next") 3) (local (codes "user") 2)) (next (choice z at_reset first_user done) rest)
