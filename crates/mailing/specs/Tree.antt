-- The tree of mailing.c0, each part under a name of its own.
use Rattle.std.specs.Prelude.{List, [], ◌∷◌, codes}
use Rattle.c0_tree.specs.declared.tree.Kind.TheVariants.{Global, Local, Primitive}
use Rattle.c0_tree.specs.declared.tree.BinaryOp.TheVariants.{Add, Sub, Gt, Eq, Ne, And, Or}
use Rattle.c0_tree.specs.Tree.{CUnit, CFunction, CDecl, CExpr, CStmts, binary, assign, call, choice, done, next, code}
use Rattle.c0_tree.specs.Tree as tree
use Rattle.worked_rows.specs.Kernels.{z, name, decl, global, local, number, block, function, causes}

abbrev pub dispatch_locals : List CDecl
dispatch_locals = decl tree.int (codes "next") Local 3 ∷ decl tree.int (codes "other") Local 4 ∷ decl tree.int (codes "value") Local 5 ∷ decl tree.int (codes "answer") Local 6 ∷ decl tree.bool (codes "ok") Local 7 ∷ []

abbrev pub dispatch_test1 : CExpr
dispatch_test1 = binary z Eq (local (codes "cause") 0) (number 0)

abbrev pub dispatch_yes1 : CStmts
dispatch_yes1 = block (assign z (local (codes "next") 3) (number 1) ∷ [])

abbrev pub dispatch_test2 : CExpr
dispatch_test2 = binary z And (binary z And (binary z Eq (local (codes "cause") 0) (number 1)) (binary z Ne (local (codes "other") 4) (global (codes "waits") 1))) (binary z Ne (local (codes "other") 4) (global (codes "over") 2))

abbrev pub dispatch_yes2 : CStmts
dispatch_yes2 = block (assign z (local (codes "next") 3) (local (codes "other") 4) ∷ [])

abbrev pub dispatch_test3 : CExpr
dispatch_test3 = binary z Gt (local (codes "cause") 0) (number 1)

abbrev pub dispatch_test4 : CExpr
dispatch_test4 = binary z And (binary z Eq (local (codes "cause") 0) (number 6)) (binary z Eq (local (codes "data") 1) (number 12))

abbrev pub dispatch_test5 : CExpr
dispatch_test5 = binary z Eq (local (codes "user") 2) (number 1)

abbrev pub dispatch_test6 : CExpr
dispatch_test6 = binary z Eq (global (codes "box") 0) (number 0)

abbrev pub dispatch_yes6 : CStmts
dispatch_yes6 = block (assign z (global (codes "box") 0) (local (codes "value") 5) ∷ [])

abbrev pub dispatch_no6 : CStmts
dispatch_no6 = block (assign z (global (codes "waits") 1) (number 1) ∷ [])

abbrev pub dispatch_yes5 : CStmts
dispatch_yes5 = next (choice z dispatch_test6 dispatch_yes6 dispatch_no6) done

abbrev pub dispatch_test7 : CExpr
dispatch_test7 = binary z Eq (local (codes "value") 5) (number 0)

abbrev pub dispatch_test8 : CExpr
dispatch_test8 = binary z Eq (local (codes "answer") 6) (number 0)

abbrev pub dispatch_yes8 : CStmts
dispatch_yes8 = block (assign z (global (codes "waits") 1) (number 2) ∷ [])

abbrev pub dispatch_yes7 : CStmts
dispatch_yes7 = next (assign z (local (codes "answer") 6) (global (codes "box") 0)) (next (assign z (global (codes "box") 0) (number 0)) (next (choice z dispatch_test8 dispatch_yes8 done) done))

abbrev pub dispatch_no7 : CStmts
dispatch_no7 = block (call z (local (codes "ok") 7) z (name (codes "con_put") Primitive 7) ((local (codes "value") 5) ∷ []) ∷ [])

abbrev pub dispatch_no5 : CStmts
dispatch_no5 = next (choice z dispatch_test7 dispatch_yes7 dispatch_no7) done

abbrev pub dispatch_test9 : CExpr
dispatch_test9 = binary z Eq (global (codes "waits") 1) (local (codes "user") 2)

abbrev pub dispatch_yes9 : CStmts
dispatch_yes9 = block (assign z (local (codes "next") 3) (local (codes "other") 4) ∷ [])

abbrev pub dispatch_no9 : CStmts
dispatch_no9 = block (call z (local (codes "ok") 7) z (name (codes "vm_set") Primitive 1) ((local (codes "user") 2) ∷ (number 2) ∷ (local (codes "answer") 6) ∷ []) ∷ [])

abbrev pub dispatch_test10 : CExpr
dispatch_test10 = binary z And (binary z Eq (global (codes "waits") 1) (number 1)) (binary z Eq (global (codes "box") 0) (number 0))

abbrev pub dispatch_yes10 : CStmts
dispatch_yes10 = block (call z (global (codes "box") 0) z (name (codes "vm_get") Primitive 0) ((number 1) ∷ (number 4) ∷ []) ∷ call z (local (codes "ok") 7) z (name (codes "vm_set") Primitive 1) ((number 1) ∷ (number 2) ∷ (number 0) ∷ []) ∷ assign z (global (codes "waits") 1) (number 0) ∷ [])

abbrev pub dispatch_test11 : CExpr
dispatch_test11 = binary z And (binary z Eq (global (codes "waits") 1) (number 2)) (binary z Ne (global (codes "box") 0) (number 0))

abbrev pub dispatch_yes11 : CStmts
dispatch_yes11 = block (call z (local (codes "ok") 7) z (name (codes "vm_set") Primitive 1) ((number 2) ∷ (number 2) ∷ (global (codes "box") 0) ∷ []) ∷ assign z (global (codes "box") 0) (number 0) ∷ assign z (global (codes "waits") 1) (number 0) ∷ [])

abbrev pub dispatch_rest10 : CStmts
dispatch_rest10 = next (choice z dispatch_test11 dispatch_yes11 done) done

abbrev pub dispatch_rest9 : CStmts
dispatch_rest9 = next (choice z dispatch_test10 dispatch_yes10 done) dispatch_rest10

abbrev pub dispatch_rest5 : CStmts
dispatch_rest5 = next (choice z dispatch_test9 dispatch_yes9 dispatch_no9) dispatch_rest9

abbrev pub dispatch_yes4 : CStmts
dispatch_yes4 = next (call z (local (codes "value") 5) z (name (codes "vm_get") Primitive 0) ((local (codes "user") 2) ∷ (number 4) ∷ [])) (next (choice z dispatch_test5 dispatch_yes5 dispatch_no5) dispatch_rest5)

abbrev pub dispatch_no4 : CStmts
dispatch_no4 = block (assign z (global (codes "over") 2) (binary z Add (global (codes "over") 2) (local (codes "user") 2)) ∷ assign z (local (codes "next") 3) (local (codes "other") 4) ∷ [])

abbrev pub dispatch_test12 : CExpr
dispatch_test12 = binary z Or (binary z Or (binary z Eq (local (codes "next") 3) (global (codes "waits") 1)) (binary z Eq (local (codes "next") 3) (global (codes "over") 2))) (binary z Eq (global (codes "over") 2) (number 3))

abbrev pub dispatch_yes12 : CStmts
dispatch_yes12 = block (assign z (local (codes "next") 3) (number 0) ∷ [])

abbrev pub dispatch_rest4 : CStmts
dispatch_rest4 = next (choice z dispatch_test12 dispatch_yes12 done) done

abbrev pub dispatch_yes3 : CStmts
dispatch_yes3 = next (choice z dispatch_test4 dispatch_yes4 dispatch_no4) dispatch_rest4

abbrev pub dispatch_rest2 : CStmts
dispatch_rest2 = next (choice z dispatch_test3 dispatch_yes3 done) done

abbrev pub dispatch_rest1 : CStmts
dispatch_rest1 = next (choice z dispatch_test2 dispatch_yes2 done) dispatch_rest2

abbrev pub dispatch_body : CStmts
dispatch_body = next (assign z (local (codes "next") 3) (local (codes "user") 2)) (next (assign z (local (codes "other") 4) (binary z Sub (number 3) (local (codes "user") 2))) (next (choice z dispatch_test1 dispatch_yes1 done) dispatch_rest1))

abbrev pub dispatch_answer : CExpr
dispatch_answer = local (codes "next") 3

abbrev pub dispatch_code : CFunction
dispatch_code = function tree.int (codes "dispatch") 0 causes (code dispatch_locals dispatch_body dispatch_answer)

-- the unit
abbrev pub kernel_tree : CUnit
kernel_tree = record {
  length = 0;
  structs = [];
  globals = (decl tree.int (codes "box") Global 0 ∷ decl tree.int (codes "waits") Global 1 ∷ decl tree.int (codes "over") Global 2 ∷ []);
  functions = dispatch_code ∷ [];
}
