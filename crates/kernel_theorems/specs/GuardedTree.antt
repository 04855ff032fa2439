-- The tree of kernels/guarded.c0, each part that a rule for code asks for under a name of its own: by tools/theorem --tree.
use Rattle.std.specs.Prelude.{List, [], ◌∷◌, codes}
use Rattle.c0_tree.specs.declared.tree.Kind.TheVariants.{Global, Local, Function}
use Rattle.c0_tree.specs.declared.tree.BinaryOp.TheVariants.{Add, Div, Rem, Lt, Gt, Ge, Eq, Ne, And}
use Rattle.c0_tree.specs.Tree.{CUnit, CFunction, CDecl, CExpr, CStmts, null, index, deref, binary, assign, call, new, choice, done, next, code}
use Rattle.c0_tree.specs.Tree as tree
use Rattle.worked_rows.specs.Kernels.{z, name, decl, global, local, number, block, function, causes}

abbrev pub bump_locals : List CDecl
bump_locals = decl tree.int (codes "seen") Local 1 ∷ []

abbrev pub bump_test1 : CExpr
bump_test1 = binary z And (binary z Ge (local (codes "at") 0) (number 0)) (binary z Lt (local (codes "at") 0) (number 4))

abbrev pub bump_yes1 : CStmts
bump_yes1 = block (assign z (index z (global (codes "counts") 0) (local (codes "at") 0))
    (binary z Add (index z (global (codes "counts") 0) (local (codes "at") 0)) (number 1))
    ∷ assign z (local (codes "seen") 1) (index z (global (codes "counts") 0) (local (codes "at") 0)) ∷ [])

abbrev pub bump_body : CStmts
bump_body = next (choice z bump_test1 bump_yes1 done) done

abbrev pub bump_answer : CExpr
bump_answer = local (codes "seen") 1

abbrev pub bump_code : CFunction
bump_code = function tree.int (codes "bump") 0 (decl tree.int (codes "at") Local 0 ∷ []) (code bump_locals bump_body bump_answer)

abbrev pub dispatch_locals : List CDecl
dispatch_locals = decl tree.int (codes "next") Local 3 ∷ decl tree.int (codes "seen") Local 4 ∷ []

abbrev pub dispatch_test1 : CExpr
dispatch_test1 = binary z Eq (local (codes "cause") 0) (number 0)

abbrev pub dispatch_yes1 : CStmts
dispatch_yes1 = block (new z (global (codes "last") 1) tree.int z ∷ assign z (local (codes "next") 3) (number 1) ∷ [])

abbrev pub dispatch_test2 : CExpr
dispatch_test2 = binary z Eq (local (codes "cause") 0) (number 7)

abbrev pub dispatch_yes2 : CStmts
dispatch_yes2 = block (assign z (global (codes "rate") 2) (binary z Div (number 12) (binary z Rem (local (codes "data") 1) (number 4))) ∷ [])

abbrev pub dispatch_test3 : CExpr
dispatch_test3 = binary z Gt (local (codes "cause") 0) (number 1)

abbrev pub dispatch_test4 : CExpr
dispatch_test4 = binary z Ne (global (codes "last") 1) (null z)

abbrev pub dispatch_yes4 : CStmts
dispatch_yes4 = block (assign z (deref z (global (codes "last") 1)) (local (codes "seen") 4) ∷ [])

abbrev pub dispatch_yes3 : CStmts
dispatch_yes3 = next (call z (local (codes "seen") 4) z (name (codes "bump") Function 0) ((local (codes "data") 1) ∷ []))
    (next (choice z dispatch_test4 dispatch_yes4 done) done)

abbrev pub dispatch_test5 : CExpr
dispatch_test5 = binary z Ne (index z (global (codes "counts") 0) (number 0)) (number 0)

abbrev pub dispatch_yes5 : CStmts
dispatch_yes5 = block (assign z (global (codes "rate") 2)
    (binary z Div (index z (global (codes "counts") 0) (number 1)) (index z (global (codes "counts") 0) (number 0))) ∷ [])

abbrev pub dispatch_rest3 : CStmts
dispatch_rest3 = next (choice z dispatch_test5 dispatch_yes5 done) done

abbrev pub dispatch_rest2 : CStmts
dispatch_rest2 = next (choice z dispatch_test3 dispatch_yes3 done) dispatch_rest3

abbrev pub dispatch_rest1 : CStmts
dispatch_rest1 = next (choice z dispatch_test2 dispatch_yes2 done) dispatch_rest2

abbrev pub dispatch_body : CStmts
dispatch_body = next (assign z (local (codes "next") 3) (local (codes "user") 2)) (next (choice z dispatch_test1 dispatch_yes1 done) dispatch_rest1)

abbrev pub dispatch_answer : CExpr
dispatch_answer = local (codes "next") 3

abbrev pub dispatch_code : CFunction
dispatch_code = function tree.int (codes "dispatch") 1 causes (code dispatch_locals dispatch_body dispatch_answer)

-- the unit
abbrev pub guarded : CUnit
guarded = record {
  length = 0;
  structs = [];
  globals = (decl (tree.array tree.int 4) (codes "counts") Global 0 ∷ decl (tree.pointer tree.int) (codes "last") Global 1
      ∷ decl tree.int (codes "rate") Global 2 ∷ []);
  functions = bump_code ∷ dispatch_code ∷ [];
}
