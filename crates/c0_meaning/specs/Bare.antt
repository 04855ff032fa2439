-- A unit without the spans of its parts in the source: what it means doesn't depend on them. To be used where a tree that is written by hand, without
-- spans, is to be compared with that of a text: `bare` of the text's unit is the tree.
use Rattle.std.specs.Prelude.{◌≡◌, ℕ, ℤ, map}
use Rattle.c0_tree.specs.declared.tree.Span.{Span}
use Rattle.c0_tree.specs.Tree.{CName, CTy, CExpr, num, true_, false_, null, var, field, arrow, index, deref, address, unary, binary, CStmt}
use Rattle.c0_tree.specs.Tree.{assign, call, new, choice, loop, CStmts, done, next, CDecl, CStruct, CBody, code, asm, CFunction, CUnit}
use Rattle.c0_tree.specs.Tree as tree
use Rattle.c0_meaning.specs.Env.{typed_of}
use Rattle.c0_meaning.specs.Words.{all_words}
use Rattle.c0_meaning.specs.Sound.{shapes}
use Rattle.c0_meaning.specs.State.{C0State, first_state}
use Rattle.c0_meaning.specs.World.{Setting}
use Rattle.c0_meaning.specs.Execution.{dispatch}

-- no span
abbrev pub z : Span
z = record { start = 0; end = 0 }

-- a number without a span
abbrev pub number : ℕ → CExpr
number n = num z n

-- a name without spans
abbrev pub bare_name : CName → CName
bare_name x = record { text = x.text; span = z; kind = x.kind; number = x.number }

-- a type without spans
abbrev pub bare_ty : CTy → CTy
bare_ty tree.int = tree.int
bare_ty tree.bool = tree.bool
bare_ty (tree.pointer t) = tree.pointer (bare_ty t)
bare_ty (tree.named x) = tree.named (bare_name x)
bare_ty (tree.array t n) = tree.array (bare_ty t) n

-- an expression without spans
abbrev pub bare_expr : CExpr → CExpr
bare_expr (num s n) = num z n
bare_expr (true_ s) = true_ z
bare_expr (false_ s) = false_ z
bare_expr (null s) = null z
bare_expr (var x) = var (bare_name x)
bare_expr (field s e f) = field z (bare_expr e) (bare_name f)
bare_expr (arrow s e f) = arrow z (bare_expr e) (bare_name f)
bare_expr (index s e i) = index z (bare_expr e) (bare_expr i)
bare_expr (deref s e) = deref z (bare_expr e)
bare_expr (address s e) = address z (bare_expr e)
bare_expr (unary s op e) = unary z op (bare_expr e)
bare_expr (binary s op a b) = binary z op (bare_expr a) (bare_expr b)

-- a statement, and a block
abbrev mutual
  pub bare_stmt : CStmt → CStmt
  bare_stmt (assign s p v) = assign z (bare_expr p) (bare_expr v)
  bare_stmt (call s p cs f args) = call z (bare_expr p) z (bare_name f) (map bare_expr args)
  bare_stmt (new s p t ts) = new z (bare_expr p) (bare_ty t) z
  bare_stmt (choice s t a b) = choice z (bare_expr t) (bare_stmts a) (bare_stmts b)
  bare_stmt (loop s t b) = loop z (bare_expr t) (bare_stmts b)

  pub bare_stmts : CStmts → CStmts
  bare_stmts done = done
  bare_stmts (next s rest) = next (bare_stmt s) (bare_stmts rest)

-- a declaration without spans
abbrev pub bare_decl : CDecl → CDecl
bare_decl d = record { ty = bare_ty d.ty; ty_span = z; name = bare_name d.name }

-- a struct without spans
abbrev pub bare_struct : CStruct → CStruct
bare_struct s = record { name = bare_name s.name; fields = map bare_decl s.fields }

-- a body without spans
abbrev pub bare_body : CBody → CBody
bare_body (code locals stmts answer) = code (map bare_decl locals) (bare_stmts stmts) (bare_expr answer)
bare_body (asm text span words) = asm text z words

-- a function without spans
abbrev pub bare_function : CFunction → CFunction
bare_function f = record { answer = bare_ty f.answer; answer_span = z; name = bare_name f.name; params = map bare_decl f.params; body = bare_body f.body }

-- a unit without spans
abbrev pub bare : CUnit → CUnit
bare u = record { length = 0; structs = map bare_struct u.structs; globals = map bare_decl u.globals; functions = map bare_function u.functions }

-- a law: spans change neither the data at the start nor its size
pub record UnitsIgnoreSpans : Type 0 where
  pub words : (u : CUnit) → all_words (shapes (bare u)) (map typed_of (bare u).globals) ≡ all_words (shapes u) (map typed_of u.globals)
  pub names : (u : CUnit) → map (λ d. d.name.text) (bare u).globals ≡ map (λ d. d.name.text) u.globals
  pub first : (u : CUnit) → first_state (bare u) ≡ first_state u

-- a law: nor what a dispatch comes to
abbrev pub DispatchesIgnoreSpans : (W E : Type 0) → Type 0
DispatchesIgnoreSpans W E = (p : Setting W E) (n : ℕ) (cause edata user : ℤ) (s : C0State) (world : W)
    → dispatch (record p { unit = bare p.unit }) n cause edata user s world ≡ dispatch p n cause edata user s world
