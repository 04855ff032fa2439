-- The typed tree of a unit as contracts see it. No name and no type is left in it: each place says where it stands, each part how many bytes lie
-- before it, and each array what its elements are.
use Rattle.std.specs.Prelude.{ℕ, Bool, List}
use Rattle.c0_tree.specs.declared.tree.Kind.{Kind}
use Rattle.c0_typed.specs.declared.tree.Elements.{Elements}
use Rattle.c0_typed.specs.declared.tree.LocalType.{LocalType}
use Rattle.c0_typed.specs.declared.sorted.Plain.{Plain}

-- An expression. The places come first: the global so many bytes behind the first one; the parameter or local of a number, so many words behind
-- the first; what stands so many bytes further than a place; an element, whose index is tested; what a pointer points to. Bytes are counted modulo
-- 2 ^ 32.
pub data TExpr : Type 0 where
  global : (bytes : ℕ) → TExpr
  local : (number words : ℕ) → TExpr
  part : (place : TExpr) (bytes : ℕ) → TExpr
  element : (place index : TExpr) (elements : Elements) → TExpr
  target : (pointer : TExpr) → TExpr
  constant : (word : ℕ) → TExpr
  address : (place : TExpr) → TExpr
  negative : (operand : TExpr) → TExpr
  negation : (operand : TExpr) → TExpr
  plain : (op : Plain) (left right : TExpr) → TExpr
  quotient : (left right : TExpr) → TExpr
  remainder : (left right : TExpr) → TExpr
  both : (left right : TExpr) → TExpr
  either : (left right : TExpr) → TExpr

-- A statement, and a list of them. A call names the function or the primitive of a number, and `new` so many words.
mutual
  pub data TStmt : Type 0 where
    assign : (place value : TExpr) → TStmt
    call : (kind : Kind) (number : ℕ) (args : List TExpr) (place : TExpr) → TStmt
    new : (words : ℕ) (place : TExpr) → TStmt
    choice : (test : TExpr) (yes no : TStmts) → TStmt
    loop : (test : TExpr) (body : TStmts) → TStmt

  pub data TStmts : Type 0 where
    done : TStmts
    next : TStmt → TStmts → TStmts

-- locals, statements and the expression that is returned; or the words of an asm text
pub data TBody : Type 0 where
  code : (locals : List LocalType) (stmts : TStmts) (answer : TExpr) → TBody
  asm : (words : List ℕ) → TBody

-- A function: how many parameters it has, the words of its frame, whether it keeps its variables in registers, whether its code writes the return
-- register, and its body.
pub record TFunction : Type 0 where
  pub params : ℕ
  pub frame : ℕ
  pub in_registers : Bool
  pub calling : Bool
  pub body : TBody
