-- The tree of semaphore.c0, each part that a rule for code asks for under a name of its own.
use Rattle.std.specs.Prelude.{List, [], ◌∷◌, codes}
use Rattle.c0_tree.specs.declared.tree.Kind.TheVariants.{Global, Local, Primitive}
use Rattle.c0_tree.specs.declared.tree.BinaryOp.TheVariants.{Add, Rem, Eq}
use Rattle.c0_tree.specs.Tree.{CUnit, CFunction, CDecl, CExpr, CStmts, binary, assign, call, choice, done, next, code}
use Rattle.c0_tree.specs.Tree as tree
use Rattle.worked_rows.specs.Kernels.{z, name, decl, global, local, number, block, function, causes}
use Rattle.kernel_theorems.specs.Heads.{goes_on}

abbrev pub dispatch_locals : List CDecl
dispatch_locals = decl tree.int (codes "next") Local 3 ∷ decl tree.int (codes "got") Local 4 ∷ decl tree.bool (codes "ok") Local 5 ∷ []

abbrev pub dispatch_test2 : CExpr
dispatch_test2 = binary z Eq (local (codes "cause") 0) (number 1)

abbrev pub dispatch_yes2 : CStmts
dispatch_yes2 = block (assign z (local (codes "next") 3) (binary z Add (binary z Rem (local (codes "user") 2) (number 3)) (number 1)) ∷ [])

abbrev pub dispatch_test3 : CExpr
dispatch_test3 = binary z Eq (local (codes "cause") 0) (number 6)

abbrev pub dispatch_test4 : CExpr
dispatch_test4 = binary z Eq (local (codes "data") 1) (number 12)

abbrev pub dispatch_test5 : CExpr
dispatch_test5 = binary z Eq (global (codes "owner") 0) (number 0)

abbrev pub dispatch_yes5 : CStmts
dispatch_yes5 = block (assign z (global (codes "owner") 0) (local (codes "user") 2) ∷ assign z (local (codes "got") 4) (number 1) ∷ [])

abbrev pub dispatch_rest5 : CStmts
dispatch_rest5 = block (call z (local (codes "ok") 5) z (name (codes "vm_set") Primitive 1) ((local (codes "user") 2) ∷ (number 2)
    ∷ (local (codes "got") 4) ∷ []) ∷ [])

abbrev pub dispatch_yes4 : CStmts
dispatch_yes4 = next (choice z dispatch_test5 dispatch_yes5 done) dispatch_rest5

abbrev pub dispatch_test6 : CExpr
dispatch_test6 = binary z Eq (local (codes "data") 1) (number 76)

abbrev pub dispatch_test7 : CExpr
dispatch_test7 = binary z Eq (global (codes "owner") 0) (local (codes "user") 2)

abbrev pub dispatch_yes7 : CStmts
dispatch_yes7 = block (assign z (global (codes "owner") 0) (number 0) ∷ [])

abbrev pub dispatch_yes6 : CStmts
dispatch_yes6 = next (choice z dispatch_test7 dispatch_yes7 done) done

abbrev pub dispatch_no4 : CStmts
dispatch_no4 = next (choice z dispatch_test6 dispatch_yes6 done) done

abbrev pub dispatch_yes3 : CStmts
dispatch_yes3 = next (choice z dispatch_test4 dispatch_yes4 dispatch_no4) done

abbrev pub dispatch_rest2 : CStmts
dispatch_rest2 = next (choice z dispatch_test3 dispatch_yes3 done) done

abbrev pub dispatch_rest1 : CStmts
dispatch_rest1 = next (choice z dispatch_test2 dispatch_yes2 done) dispatch_rest2

abbrev pub dispatch_body : CStmts
dispatch_body = goes_on dispatch_rest1

abbrev pub dispatch_answer : CExpr
dispatch_answer = local (codes "next") 3

abbrev pub dispatch_code : CFunction
dispatch_code = function tree.int (codes "dispatch") 0 causes (code dispatch_locals dispatch_body dispatch_answer)

-- the unit
abbrev pub semaphore : CUnit
semaphore = record {
  length = 0;
  structs = [];
  globals = (decl tree.int (codes "owner") Global 0 ∷ []);
  functions = dispatch_code ∷ [];
}
