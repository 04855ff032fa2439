-- How large a tree is: the registers that its expressions need, and its nodes.
use Rattle.std.specs.Prelude.{ℕ, ◌+◌, max, List, [], ◌∷◌, length}
use Rattle.c0_tree.specs.declared.tree.BinaryOp.{BinaryOp}
use Rattle.c0_tree.specs.declared.tree.BinaryOp.TheVariants.{And, Or}
use Rattle.c0_tree.specs.Tree.{CExpr, num, true_, false_, null, var, field, arrow, index, deref, address, unary, binary}
use Rattle.c0_tree.specs.Tree.{CStmt, assign, call, new, choice, loop, CStmts, done, next, CBody, code, asm, CFunction}

-- the registers of a binary expression, by those of its operands: `&&` and `||` hold no value while their right side is evaluated
abbrev pub binary_need : BinaryOp → ℕ → ℕ → ℕ
binary_need And a b = max a b
binary_need Or a b = max a b
binary_need _ a b = max a (b + 1)

-- the registers that an expression needs
abbrev pub need : CExpr → ℕ
need (num s n) = 1
need (true_ s) = 1
need (false_ s) = 1
need (null s) = 1
need (var x) = 1
need (field s e f) = need e
need (arrow s e f) = need e
need (index s e i) = max (need e) (need i + 1)
need (deref s e) = need e
need (address s e) = need e
need (unary s o e) = need e
need (binary s o a b) = binary_need o (need a) (need b)

-- the greatest need of a list of arguments
abbrev pub args_need : List CExpr → ℕ
args_need [] = 0
args_need (e ∷ es) = max (need e) (args_need es)

-- an expression's nodes: itself and its parts; a field's name is none
abbrev pub nodes : CExpr → ℕ
nodes (num s n) = 1
nodes (true_ s) = 1
nodes (false_ s) = 1
nodes (null s) = 1
nodes (var x) = 1
nodes (field s e f) = nodes e + 1
nodes (arrow s e f) = nodes e + 1
nodes (index s e i) = nodes e + nodes i + 1
nodes (deref s e) = nodes e + 1
nodes (address s e) = nodes e + 1
nodes (unary s o e) = nodes e + 1
nodes (binary s o a b) = nodes a + nodes b + 1

-- the nodes of arguments
abbrev pub args_nodes : List CExpr → ℕ
args_nodes [] = 0
args_nodes (e ∷ es) = nodes e + args_nodes es

-- a statement's nodes: itself, its expressions, and the statements in it
abbrev mutual
  pub stmt_nodes : CStmt → ℕ
  stmt_nodes (assign s p v) = nodes p + nodes v + 1
  stmt_nodes (call s p cs f args) = nodes p + args_nodes args + 1
  stmt_nodes (new s p t ts) = nodes p + 1
  stmt_nodes (choice s t a b) = nodes t + stmts_nodes a + stmts_nodes b + 1
  stmt_nodes (loop s t b) = nodes t + stmts_nodes b + 1

  pub stmts_nodes : CStmts → ℕ
  stmts_nodes done = 0
  stmts_nodes (next s rest) = stmt_nodes s + stmts_nodes rest

-- the nodes of a body, where an asm body has so many words
abbrev pub body_nodes : ℕ → CBody → ℕ
body_nodes words (code locals stmts answer) = length locals + stmts_nodes stmts + nodes answer
body_nodes words (asm text span made) = words

-- the nodes of a function: itself, its parameters and its body
abbrev pub function_nodes : ℕ → CFunction → ℕ
function_nodes words f = 1 + length f.params + body_nodes words f.body
