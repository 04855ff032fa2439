-- The tree of kernels/mailbox.c0, each part that a rule for code asks for under a name of its own: by tools/theorem --tree.
use Rattle.std.specs.Prelude.{List, [], ◌∷◌, codes}
use Rattle.c0_tree.specs.declared.tree.Kind.TheVariants.{Global, Local, Primitive}
use Rattle.c0_tree.specs.declared.tree.BinaryOp.TheVariants.{Add, Rem, Gt, Eq}
use Rattle.c0_tree.specs.Tree.{CUnit, CFunction, CDecl, CExpr, CStmts, binary, assign, call, choice, done, next, code}
use Rattle.c0_tree.specs.Tree as tree
use Rattle.worked_rows.specs.Kernels.{z, name, decl, global, local, number, block, function, causes}
use Rattle.kernel_theorems.specs.Heads.{goes_on}

abbrev pub dispatch_locals : List CDecl
dispatch_locals = decl tree.int (codes "next") Local 3 ∷ decl tree.int (codes "answer") Local 4 ∷ decl tree.bool (codes "ok") Local 5 ∷ []

abbrev pub dispatch_test2 : CExpr
dispatch_test2 = binary z Eq (local (codes "cause") 0) (number 1)

abbrev pub dispatch_yes2 : CStmts
dispatch_yes2 = block (assign z (local (codes "next") 3) (binary z Add (binary z Rem (local (codes "user") 2) (number 2)) (number 1)) ∷ [])

abbrev pub dispatch_test3 : CExpr
dispatch_test3 = binary z Gt (local (codes "cause") 0) (number 1)

abbrev pub dispatch_yes3 : CStmts
dispatch_yes3 = block (assign z (local (codes "next") 3) (number 0) ∷ [])

abbrev pub dispatch_test4 : CExpr
dispatch_test4 = binary z Eq (local (codes "cause") 0) (number 6)

abbrev pub dispatch_test5 : CExpr
dispatch_test5 = binary z Eq (local (codes "user") 2) (number 1)

abbrev pub dispatch_test6 : CExpr
dispatch_test6 = binary z Eq (global (codes "full") 0) (number 0)

abbrev pub dispatch_yes6 : CStmts
dispatch_yes6 = block (call z (global (codes "message") 1) z (name (codes "vm_get") Primitive 0) ((number 1) ∷ (number 4) ∷ [])
    ∷ assign z (global (codes "full") 0) (number 1) ∷ assign z (local (codes "answer") 4) (number 1) ∷ [])

abbrev pub dispatch_yes5 : CStmts
dispatch_yes5 = next (choice z dispatch_test6 dispatch_yes6 done) done

abbrev pub dispatch_test7 : CExpr
dispatch_test7 = binary z Eq (global (codes "full") 0) (number 1)

abbrev pub dispatch_yes7 : CStmts
dispatch_yes7 = block (call z (local (codes "ok") 5) z (name (codes "vm_set") Primitive 1) ((number 2) ∷ (number 3) ∷ (global (codes "message") 1) ∷ [])
    ∷ assign z (global (codes "full") 0) (number 0) ∷ assign z (local (codes "answer") 4) (number 1) ∷ [])

abbrev pub dispatch_no5 : CStmts
dispatch_no5 = next (choice z dispatch_test7 dispatch_yes7 done) done

abbrev pub dispatch_test8 : CExpr
dispatch_test8 = binary z Eq (local (codes "answer") 4) (number 0)

abbrev pub dispatch_yes8 : CStmts
dispatch_yes8 = block (assign z (local (codes "next") 3) (binary z Add (binary z Rem (local (codes "user") 2) (number 2)) (number 1)) ∷ [])

abbrev pub dispatch_rest5 : CStmts
dispatch_rest5 = next (call z (local (codes "ok") 5) z (name (codes "vm_set") Primitive 1) ((local (codes "user") 2) ∷ (number 2) ∷ (local (codes "answer") 4)
    ∷ [])) (next (assign z (local (codes "next") 3) (local (codes "user") 2)) (next (choice z dispatch_test8 dispatch_yes8 done) done))

abbrev pub dispatch_yes4 : CStmts
dispatch_yes4 = next (choice z dispatch_test5 dispatch_yes5 dispatch_no5) dispatch_rest5

abbrev pub dispatch_rest3 : CStmts
dispatch_rest3 = next (choice z dispatch_test4 dispatch_yes4 done) done

abbrev pub dispatch_rest2 : CStmts
dispatch_rest2 = next (choice z dispatch_test3 dispatch_yes3 done) dispatch_rest3

abbrev pub dispatch_rest1 : CStmts
dispatch_rest1 = next (choice z dispatch_test2 dispatch_yes2 done) dispatch_rest2

abbrev pub dispatch_body : CStmts
dispatch_body = goes_on dispatch_rest1

abbrev pub dispatch_answer : CExpr
dispatch_answer = local (codes "next") 3

abbrev pub dispatch_code : CFunction
dispatch_code = function tree.int (codes "dispatch") 0 causes (code dispatch_locals dispatch_body dispatch_answer)

-- the unit
abbrev pub mailbox : CUnit
mailbox = record {
  length = 0;
  structs = [];
  globals = (decl tree.int (codes "full") Global 0 ∷ decl tree.int (codes "message") Global 1 ∷ []);
  functions = dispatch_code ∷ [];
}
