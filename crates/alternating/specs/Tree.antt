-- The tree of kernel.c0, each part that a rule for code asks for under a name of its own.
use Rattle.std.specs.Prelude.{List, [], ◌∷◌, codes}
use Rattle.c0_tree.specs.declared.tree.Kind.TheVariants.{Global, Local, Primitive}
use Rattle.c0_tree.specs.declared.tree.BinaryOp.TheVariants.{Add, Sub, Eq}
use Rattle.c0_tree.specs.Tree.{CUnit, CFunction, CDecl, CExpr, CStmts, binary, assign, call, choice, done, next, code}
use Rattle.c0_tree.specs.Tree as tree
use Rattle.worked_rows.specs.Kernels.{z, name, decl, global, local, number, block, function, causes}
use Rattle.kernel_theorems.specs.Heads.{goes_on}

abbrev pub dispatch_locals : List CDecl
dispatch_locals = decl tree.int (codes "next") Local 3 ∷ decl tree.int (codes "value") Local 4 ∷ decl tree.bool (codes "kept") Local 5 ∷ []

abbrev pub dispatch_test2 : CExpr
dispatch_test2 = binary z Eq (local (codes "cause") 0) (number 6)

abbrev pub dispatch_test3 : CExpr
dispatch_test3 = binary z Eq (global (codes "calls") 0) (number 6)

abbrev pub dispatch_yes3 : CStmts
dispatch_yes3 = block (assign z (local (codes "next") 3) (number 0) ∷ [])

abbrev pub dispatch_yes2 : CStmts
dispatch_yes2 = next (call z (local (codes "value") 4) z (name (codes "vm_get") Primitive 0) ((local (codes "user") 2) ∷ (number 4) ∷ [])) (next (call z (local (codes "kept") 5) z (name (codes "con_put") Primitive 7) ((local (codes "value") 4) ∷ [])) (next (assign z (global (codes "calls") 0) (binary z Add (global (codes "calls") 0) (number 1))) (next (assign z (local (codes "next") 3) (binary z Sub (number 3) (local (codes "user") 2))) (next (choice z dispatch_test3 dispatch_yes3 done) done))))

abbrev pub dispatch_rest1 : CStmts
dispatch_rest1 = next (choice z dispatch_test2 dispatch_yes2 done) done

abbrev pub dispatch_body : CStmts
dispatch_body = goes_on dispatch_rest1

abbrev pub dispatch_answer : CExpr
dispatch_answer = local (codes "next") 3

abbrev pub dispatch_code : CFunction
dispatch_code = function tree.int (codes "dispatch") 0 causes (code dispatch_locals dispatch_body dispatch_answer)

-- the unit
abbrev pub kernel_tree : CUnit
kernel_tree = record {
  length = 0;
  structs = [];
  globals = (decl tree.int (codes "calls") Global 0 ∷ []);
  functions = dispatch_code ∷ [];
}
