-- The tree of kernels/logging.c0, each part that a rule for code asks for under a name of its own: by tools/theorem --tree.
use Rattle.std.specs.Prelude.{List, [], ◌∷◌, codes}
use Rattle.c0_tree.specs.declared.tree.Kind.TheVariants.{Global, Local, Primitive}
use Rattle.c0_tree.specs.declared.tree.BinaryOp.TheVariants.{Add, Rem, Lt, Gt, Eq}
use Rattle.c0_tree.specs.Tree.{CUnit, CFunction, CDecl, CExpr, CStmts, binary, assign, call, new, choice, loop, done, next, code}
use Rattle.c0_tree.specs.Tree as tree
use Rattle.worked_rows.specs.Kernels.{z, name, decl, global, local, number, block, function, causes}
use Rattle.kernel_theorems.specs.Heads.{goes_on}

abbrev pub dispatch_locals : List CDecl
dispatch_locals = decl tree.int (codes "next") Local 3 ∷ decl tree.int (codes "i") Local 4 ∷ decl tree.bool (codes "ok") Local 5 ∷ []

abbrev pub dispatch_test2 : CExpr
dispatch_test2 = binary z Eq (local (codes "cause") 0) (number 1)

abbrev pub dispatch_yes2 : CStmts
dispatch_yes2 = block (assign z (local (codes "next") 3) (binary z Add (binary z Rem (local (codes "user") 2) (number 3)) (number 1)) ∷ [])

abbrev pub dispatch_test3 : CExpr
dispatch_test3 = binary z Gt (local (codes "cause") 0) (number 1)

abbrev pub dispatch_yes3 : CStmts
dispatch_yes3 = block (new z (global (codes "mark") 0) tree.int z ∷ [])

abbrev pub dispatch_test4 : CExpr
dispatch_test4 = binary z Lt (local (codes "i") 4) (local (codes "user") 2)

abbrev pub dispatch_turn4 : CStmts
dispatch_turn4 = block (call z (local (codes "ok") 5) z (name (codes "con_put") Primitive 7) ((local (codes "i") 4) ∷ [])
    ∷ assign z (local (codes "i") 4) (binary z Add (local (codes "i") 4) (number 1)) ∷ [])

abbrev pub dispatch_rest3 : CStmts
dispatch_rest3 = next (loop z dispatch_test4 dispatch_turn4) done

abbrev pub dispatch_rest2 : CStmts
dispatch_rest2 = next (choice z dispatch_test3 dispatch_yes3 done) dispatch_rest3

abbrev pub dispatch_rest1 : CStmts
dispatch_rest1 = next (choice z dispatch_test2 dispatch_yes2 done) dispatch_rest2

abbrev pub dispatch_body : CStmts
dispatch_body = goes_on dispatch_rest1

abbrev pub dispatch_answer : CExpr
dispatch_answer = local (codes "next") 3

abbrev pub dispatch_code : CFunction
dispatch_code = function tree.int (codes "dispatch") 0 causes (code dispatch_locals dispatch_body dispatch_answer)

-- the unit
abbrev pub logging : CUnit
logging = record {
  length = 0;
  structs = [];
  globals = (decl (tree.pointer tree.int) (codes "mark") Global 0 ∷ []);
  functions = dispatch_code ∷ [];
}
