-- What contracts see of the tree.
use Rattle.std.specs.Prelude.{List, [], ◌∷◌, map}
use Rattle.c0_tree.specs.Tree.{CName, CTy, int, bool, pointer, named, array, CExpr, num, true_, false_, null, var, field, arrow, index, deref, address}
use Rattle.c0_tree.specs.Tree.{unary, binary, CStmt, assign, call, new, choice, loop, CStmts, done, next, CDecl, CStruct, CBody, code, asm, CFunction, CUnit}
use Rattle.c0_tree.specs.declared.tree.Name.{Name}
use Rattle.c0_tree.specs.declared.tree.CType.{CType, fold-CType}
use Rattle.c0_tree.specs.declared.tree.CType.TheOpen.{CType-F}
use Rattle.c0_tree.specs.declared.tree.Decl.{Decl}
use Rattle.c0_tree.specs.declared.tree.StructDef.{StructDef}
use Rattle.c0_tree.specs.declared.tree.Expr.{Expr, fold-Expr}
use Rattle.c0_tree.specs.declared.tree.Expr.TheOpen.{Expr-F}
use Rattle.c0_tree.specs.declared.tree.Stmt.{Stmt, fold-Stmt}
use Rattle.c0_tree.specs.declared.tree.Stmt.TheOpen.{Stmt-F}
use Rattle.c0_tree.specs.declared.tree.Body.{Body}
use Rattle.c0_tree.specs.declared.tree.Body.TheVariants.{Code, Asm}
use Rattle.c0_tree.specs.declared.tree.Function.{Function}
use Rattle.c0_tree.specs.declared.tree.Unit.{Unit as Source}

-- a name
abbrev pub name_view : Name → CName
name_view x = record { text = x.bytes.items; span = x.span; kind = x.kind; number = x.number }

-- one node of a type, its part being seen already
abbrev pub type_step : CType-F CTy → CTy
type_step CType-F.Int = int
type_step CType-F.Bool = bool
type_step (CType-F.Pointer t) = pointer t.value
type_step (CType-F.Named x) = named (name_view x)
type_step (CType-F.Array t n) = array t.value n

-- a type
abbrev pub type_view : CType → CTy
type_view = fold-CType CTy type_step

-- one node of an expression, its parts being seen already
abbrev pub expr_step : Expr-F CExpr → CExpr
expr_step (Expr-F.Num s n) = num s n
expr_step (Expr-F.True s) = true_ s
expr_step (Expr-F.False s) = false_ s
expr_step (Expr-F.Null s) = null s
expr_step (Expr-F.Var x) = var (name_view x)
expr_step (Expr-F.Field s e f) = field s e.value (name_view f)
expr_step (Expr-F.Arrow s e f) = arrow s e.value (name_view f)
expr_step (Expr-F.Index s e i) = index s e.value i.value
expr_step (Expr-F.Deref s e) = deref s e.value
expr_step (Expr-F.AddressOf s e) = address s e.value
expr_step (Expr-F.Unary s o e) = unary s o e.value
expr_step (Expr-F.Binary s o a b) = binary s o a.value b.value

-- an expression
abbrev pub expr_view : Expr → CExpr
expr_view = fold-Expr CExpr expr_step

-- statements one after another
abbrev pub stmts_of : List CStmt → CStmts
stmts_of [] = done
stmts_of (s ∷ ss) = next s (stmts_of ss)

-- one node of a statement, its parts being seen already
abbrev pub stmt_step : Stmt-F CStmt → CStmt
stmt_step (Stmt-F.Assign s p v) = assign s (expr_view p) (expr_view v)
stmt_step (Stmt-F.Call s p cs f args) = call s (expr_view p) cs (name_view f) (map expr_view args.items)
stmt_step (Stmt-F.New s p t ts) = new s (expr_view p) (type_view t) ts
stmt_step (Stmt-F.If s t a b) = choice s (expr_view t) (stmts_of a.items) (stmts_of b.items)
stmt_step (Stmt-F.While s t b) = loop s (expr_view t) (stmts_of b.items)

-- a statement
abbrev pub stmt_view : Stmt → CStmt
stmt_view = fold-Stmt CStmt stmt_step

-- statements
abbrev pub stmts_view : List Stmt → CStmts
stmts_view ss = stmts_of (map stmt_view ss)

-- a declaration
abbrev pub decl_view : Decl → CDecl
decl_view d = record { ty = type_view d.ty; ty_span = d.ty_span; name = name_view d.name }

-- a struct
abbrev pub struct_view : StructDef → CStruct
struct_view s = record { name = name_view s.name; fields = map decl_view s.fields.items }

-- a body
abbrev pub body_view : Body → CBody
body_view (Code c) = code (map decl_view c.locals.items) (stmts_view c.stmts.items) (expr_view c.answer)
body_view (Asm a) = asm a.bytes.items a.span a.words.items

-- a function
abbrev pub function_view : Function → CFunction
function_view f = record {
  answer = type_view f.answer;
  answer_span = f.answer_span;
  name = name_view f.name;
  params = map decl_view f.params.items;
  body = body_view f.body;
}

-- a whole source
abbrev pub unit_view : Source → CUnit
unit_view u = record {
  length = u.length;
  structs = map struct_view u.structs.items;
  globals = map decl_view u.globals.items;
  functions = map function_view u.functions.items;
}
