-- The pieces of statements that functions of their own read, and how what these answer stands for the meaning: for proofs.
use Rattle.std.specs.Prelude.{◌≡◌, ◌<◌, List, ◌++◌, map, length, Vec, Result, Ok, Err, Option, Some, None}
use Rattle.std.specs.Borrow.{Bor}
use Rattle.c0_tokens.specs.declared.token.Mark.{Mark}
use Rattle.c0_tokens.specs.declared.token.Mark.TheVariants.{If, Else, While, Return, OpenParen, CloseParen, CloseBrace, Assign, Semicolon}
use Rattle.c0_tokens.specs.declared.token.Token.{Token}
use Rattle.c0_tokens.specs.Tokens.{CToken}
use Rattle.c0_tree.specs.declared.tree.Span.{Span}
use Rattle.c0_tree.specs.declared.tree.Expr.{Expr}
use Rattle.c0_tree.specs.declared.tree.Stmt.{Stmt}
use Rattle.c0_tree.specs.Tree.{CStmt, choice, loop, done}
use Rattle.c0_tree.specs.View.{expr_view, stmt_view, stmts_view}
use Rattle.c0_parser.specs.Value.{SemanticValue, token, pair, none, snoc, expr, stmt, block, statement_value, choice_value, exprs}
use Rattle.c0_parser.specs.Grammar.{Piece, sign, ◌▸◌, maybe, the, unary, block as a_block, EXPR, RIGHT}
use Rattle.c0_parser.specs.Contract.{as_seen, PieceReads, PieceFails}
use Rattle.c0_parser.specs.declared.reader.Halt.{Halt}
use Rattle.c0_parser.specs.declared.statements.Block.{Block}
use Rattle.c0_parser.specs.declared.statements.Test.{Test}

-- unary "=" right ";"
abbrev pub ASSIGNMENT : Piece
ASSIGNMENT = the unary ▸ sign Assign ▸ RIGHT ▸ sign Semicolon

-- a word, and behind it "(" expr ")" and a piece
abbrev pub TESTED : Mark → Piece → Piece
TESTED m p = sign m ▸ sign OpenParen ▸ EXPR ▸ sign CloseParen ▸ p

-- [ "else" block ]
abbrev pub OTHERWISE : Piece
OTHERWISE = maybe (sign Else ▸ the a_block)

-- "if" "(" expr ")" block [ "else" block ]
abbrev pub CHOICE : Piece
CHOICE = TESTED If (the a_block ▸ OTHERWISE)

-- "while" "(" expr ")" block
abbrev pub LOOP : Piece
LOOP = TESTED While (the a_block)

-- "return" expr ";" "}"
abbrev pub RETURNED : Piece
RETURNED = sign Return ▸ EXPR ▸ sign Semicolon ▸ sign CloseBrace

-- one alternative of a statement
abbrev pub IsStmtOf : Stmt → SemanticValue → Type 0
IsStmtOf s v = statement_value v ≡ stmt (stmt_view s)

-- a block, or nothing
abbrev pub IsOtherwise : Option Block → SemanticValue → Type 0
IsOtherwise None v = v ≡ none
IsOtherwise (Some b) v = (t : CToken) × (v ≡ snoc none (pair (token t) (block b.span (stmts_view b.stmts.items))))

-- a test, a block and perhaps a second one
abbrev pub choice_view : Test → Block → Option Block → CStmt
choice_view t first None = choice (record { start = t.start; end = first.span.end }) (expr_view t.expr) (stmts_view first.stmts.items) done
choice_view t first (Some other) =
    choice (record { start = t.start; end = other.span.end }) (expr_view t.expr) (stmts_view first.stmts.items) (stmts_view other.stmts.items)

-- a test and a block
abbrev pub loop_view : Test → Block → CStmt
loop_view t inner = loop (record { start = t.start; end = inner.span.end }) (expr_view t.expr) (stmts_view inner.stmts.items)

-- the expression that is returned
abbrev pub IsReturned : Expr → SemanticValue → Type 0
IsReturned e v = (t : CToken) × (s : Span) × (x : CToken) × (y : CToken) × (v ≡ pair (token t) (pair (expr s (expr_view e)) (pair (token x) (token y))))

-- a word and its test were read: with any piece behind them, what is read of it, or not, is read of the whole
pub record Opened (m : Mark) (ts : List CToken) (t : Test) (rest : List CToken) : Type 0 where
  pub word : CToken
  pub at_word : word.start ≡ t.start
  pub goes : (p : Piece) (v : SemanticValue) (last : List CToken) → PieceReads p rest v last → (w : SemanticValue) × PieceReads (TESTED m p) ts w last
      × (statement_value w ≡ choice_value word (expr_view t.expr) v)
  pub fails : (p : Piece) (h : Halt) → PieceFails p rest h → PieceFails (TESTED m p) ts h

-- a word and its test are read, or cannot be
abbrev pub Opens : Mark → List Token → Result (Test × Bor (List Token)) Halt → Type 0
Opens m ts (Ok r) = Opened m (as_seen ts) r.0 (as_seen r.1.now) × (length r.1.now < length ts)
Opens m ts (Err h) = (p : Piece) → PieceFails (TESTED m p) (as_seen ts) h

-- arguments behind others
abbrev pub AreMoreArgs : {A B : Type 0} → Vec Expr A → Vec Expr B → SemanticValue → Type 0
AreMoreArgs first es v = map expr_view first.items ++ exprs v ≡ map expr_view es.items
