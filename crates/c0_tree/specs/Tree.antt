-- The tree of a source as contracts see it: lists in place of vectors.
use Rattle.std.specs.Prelude.{ℕ, List}
use Rattle.c0_tree.specs.declared.tree.Span.{Span}
use Rattle.c0_tree.specs.declared.tree.Kind.{Kind}
use Rattle.c0_tree.specs.declared.tree.UnaryOp.{UnaryOp}
use Rattle.c0_tree.specs.declared.tree.BinaryOp.{BinaryOp}

-- a name, where it stands, and what it stands for
pub record CName : Type 0 where
  pub text : List ℕ
  pub span : Span
  pub kind : Kind
  pub number : ℕ

-- a type, as it is written
pub data CTy : Type 0 where
  int : CTy
  bool : CTy
  pointer : CTy → CTy
  named : CName → CTy
  array : CTy → ℕ → CTy

-- an expression
pub data CExpr : Type 0 where
  num : (span : Span) (value : ℕ) → CExpr
  true_ : (span : Span) → CExpr
  false_ : (span : Span) → CExpr
  null : (span : Span) → CExpr
  var : (name : CName) → CExpr
  field : (span : Span) (part : CExpr) (name : CName) → CExpr
  arrow : (span : Span) (part : CExpr) (name : CName) → CExpr
  index : (span : Span) (part place : CExpr) → CExpr
  deref : (span : Span) (part : CExpr) → CExpr
  address : (span : Span) (part : CExpr) → CExpr
  unary : (span : Span) (op : UnaryOp) (part : CExpr) → CExpr
  binary : (span : Span) (op : BinaryOp) (left right : CExpr) → CExpr

-- a statement, and a list of them
mutual
  pub data CStmt : Type 0 where
    assign : (span : Span) (place value : CExpr) → CStmt
    call : (span : Span) (place : CExpr) (call_span : Span) (function : CName) (args : List CExpr) → CStmt
    new : (span : Span) (place : CExpr) (ty : CTy) (ty_span : Span) → CStmt
    choice : (span : Span) (test : CExpr) (yes no : CStmts) → CStmt
    loop : (span : Span) (test : CExpr) (body : CStmts) → CStmt

  pub data CStmts : Type 0 where
    done : CStmts
    next : CStmt → CStmts → CStmts

-- a global, a field, a parameter or a local
pub record CDecl : Type 0 where
  pub ty : CTy
  pub ty_span : Span
  pub name : CName

-- a struct
pub record CStruct : Type 0 where
  pub name : CName
  pub fields : List CDecl

-- declarations, statements and the expression that is returned; or the bytes of an asm text, and the words of its instructions
pub data CBody : Type 0 where
  code : (locals : List CDecl) (stmts : CStmts) (answer : CExpr) → CBody
  asm : (text : List ℕ) (span : Span) (words : List ℕ) → CBody

-- a function
pub record CFunction : Type 0 where
  pub answer : CTy
  pub answer_span : Span
  pub name : CName
  pub params : List CDecl
  pub body : CBody

-- a whole source
pub record CUnit : Type 0 where
  pub length : ℕ
  pub structs : List CStruct
  pub globals : List CDecl
  pub functions : List CFunction
