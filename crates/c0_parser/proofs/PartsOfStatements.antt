-- What the parts of a statement mean together, and which alternative of a statement comes: the functions that read statements cite these.
use Rattle.std.proofs.Common.{◌≡◌, List, [], ◌∷◌, ◌++◌, map, length, append_assoc, refl, sym, ap, ◌∙◌, subst, Option, Some, None, Result, Ok, Err}
use Rattle.std.specs.Prelude.{IsErrAnd, Bool, true, false, not, ◌&&◌, ◌||◌}
use Rattle.std.proofs.lemmas.List.{map-append, append-nil}
use Rattle.std.proofs.lemmas.Bool.{false≢true}
use Rattle.std.specs.Borrow.{Bor}
use Rattle.c0_tokens.specs.declared.token.Mark.{Mark}
use Rattle.c0_tokens.specs.declared.token.Mark.TheVariants.{If, While, OpenParen, CloseParen, Assign, Semicolon}
use Rattle.c0_tokens.specs.declared.token.Token.{Token}
use Rattle.c0_tokens.specs.Tokens.{CToken, token_view}
use Rattle.c0_tree.specs.declared.tree.Span.{Span}
use Rattle.c0_tree.specs.declared.tree.Name.{Name}
use Rattle.c0_tree.specs.declared.tree.Expr.{Expr}
use Rattle.c0_tree.specs.declared.tree.Stmt.{Stmt}
use Rattle.c0_tree.specs.Tree.{CExpr, CStmt, CDecl, call, code}
use Rattle.c0_tree.specs.View.{name_view, expr_view, stmt_view, stmts_of}
use Rattle.c0_parser.specs.Sorts.{mark, same_sort, among}
use Rattle.c0_parser.proofs.TokensDecide.{same_sort_true}
use Rattle.c0_parser.specs.Value.{SemanticValue, token, pair, none, snoc, expr, stmt, block, body, parsed_name, args_of, stored, stmts, decls, exprs, exprs_in, choice_value, statement_value, block_value, code_value}
use Rattle.c0_parser.specs.Grammar.{Piece, sign, ◌▸◌, ◌or◌, many, the, unary, statement, block as a_block, EXPR, RIGHT}
use Rattle.c0_parser.specs.Machine.{heads, picks, starts, kind, expr_starts}
use Rattle.c0_parser.specs.Contract.{as_seen, PieceReads, PieceFails, PieceGoesOn, PieceGives}
use Rattle.c0_parser.specs.Views.{IsPart, IsRight, IsBlock, IsStmt, right_stmt}
use Rattle.c0_parser.specs.Stmts.{ASSIGNMENT, CHOICE, LOOP, OTHERWISE, TESTED, Opens, IsStmtOf, IsReturned, IsOtherwise, choice_view}
use Rattle.c0_parser.specs.declared.expressions.Part.{Part}
use Rattle.c0_parser.specs.declared.statements.Right.{Right}
use Rattle.c0_parser.specs.declared.statements.Block.{Block}
use Rattle.c0_parser.specs.declared.statements.Test.{Test}
use Rattle.c0_parser.specs.declared.reader.Halt.{Halt}
use Rattle.c0_parser.specs.declared.reader.Halt.TheVariants.{Left}
use Rattle.c0_parser.proofs.PieceSteps.{list_starts, list_item, heads_not, goes_the, goes_first, goes_second_not, fails_the, fails_first, fails_second_not, fails_left, fails_many, fails_sign}

-- what is given of one piece is given of another
pub lifted : {A : Type 0} (p q : Piece) (Is Js : A → SemanticValue → Type 0) (m : SemanticValue → SemanticValue) (ts : List Token) (r : Result (A × Bor (List Token)) Halt) → ((v : SemanticValue) (rest : List CToken) → PieceReads p (as_seen ts) v rest → PieceReads q (as_seen ts) (m v) rest) → ((h : Halt) → PieceFails p (as_seen ts) h → PieceFails q (as_seen ts) h) → ((x : A) (v : SemanticValue) → Is x v → Js x (m v)) → PieceGives p Is ts r → PieceGives q Js ts r
lifted p q Is Js m ts (Ok x) f g k h = (m h.0, f _ _ h.1, k _ _ h.2, h.3)
lifted p q Is Js m ts (Err e) f g k h = g e h

-- where a `?` leaves in front of a piece that is not known yet
pub exits_test : (m : Mark) (ts : List Token) (r : Result (Test × Bor (List Token)) Halt) (e : Halt) → IsErrAnd r (λ y. y ≡ e) → ((p : Piece) → PieceFails (TESTED m p) (as_seen ts) e) → Opens m ts r
exits_test m ts (Ok x) e h f = absurd h
exits_test m ts (Err y) e h f = λ p. subst (PieceFails (TESTED m p) (as_seen ts)) (sym h) (f p)

-- a call
pub called : (x : Name) (t o : CToken) (closing : Token) (fv ov av kv : SemanticValue) (args : List CExpr) → fv ≡ token t → parsed_name t ≡ name_view x → ov ≡ token o → args_of av ≡ args → kv ≡ token (token_view closing) → (s : Span) (p : CExpr) → stored s p (pair fv (pair ov (pair av kv))) ≡ stmt (call s p (record { start = x.span.start; end = closing.end }) (name_view x) args)
called x t o closing fv ov av kv args e1 e2 e3 e4 e5 s p =
    rw (e1, e3, e5) (ap (λ n. stmt (call s p (record { start = n.span.start; end = closing.end }) n (args_of av))) e2 ∙ ap (λ l. stmt (call s p (record { start = x.span.start; end = closing.end }) (name_view x) l)) e4)

-- an assignment
pub assigned : (a : Part) (e : CToken) (last : Token) (right : Right) (s : Stmt) (pv ev rv lv : SemanticValue) → IsPart a pv → ev ≡ token e → IsRight right rv → lv ≡ token (token_view last) → stmt_view s ≡ right_stmt (record { start = a.span.start; end = last.end }) (expr_view a.expr) right → statement_value (pair pv (pair ev (pair rv lv))) ≡ stmt (stmt_view s)
assigned a e last right s pv ev rv lv ep ee er el es = rw (ep, ee, el) (er _ _ ∙ ap stmt (sym es))

-- a word and its test
pub tested : (w o k : CToken) (a : Part) (wv ov av kv v : SemanticValue) → wv ≡ token w → ov ≡ token o → IsPart a av → kv ≡ token k → statement_value (pair wv (pair ov (pair av (pair kv v)))) ≡ choice_value w (expr_view a.expr) v
tested w o k a wv ov av kv v ew eo ea ek = rw (ew, eo, ea, ek) refl

-- a choice
pub choosing : (w : CToken) (t : Test) (first : Block) (other : Option Block) (s : Stmt) (yv nv : SemanticValue) → w.start ≡ t.start → IsBlock first yv → IsOtherwise other nv → stmt_view s ≡ choice_view t first other → choice_value w (expr_view t.expr) (pair yv nv) ≡ stmt (stmt_view s)
choosing w t first None s yv nv ew ey en es = rw (ey, en, es, ew) refl
choosing w t first (Some b) s yv nv ew ey en es = rw (ey, en.1, es, ew) refl

-- `else` and a block
pub other : (t : CToken) (b : Block) (bv : SemanticValue) → IsBlock b bv → IsOtherwise (Some b) (snoc none (pair (token t) bv))
other t b bv e = (t, rw e refl)

-- one more statement
pub listed : (v w : SemanticValue) (before after : List Stmt) (s : Stmt) → stmts v ≡ map stmt_view before → IsStmt s w → after ≡ before ++ (s ∷ []) → stmts (snoc v w) ≡ map stmt_view after
listed v w before after s ev ew ea = rw (ev, ew, ea) (sym (map-append stmt_view before (s ∷ [])))

-- statements in braces
pub braced : (o k : CToken) (ov sv kv : SemanticValue) (l : List CStmt) → ov ≡ token o → stmts sv ≡ l → kv ≡ token k → block_value (pair ov (pair sv kv)) ≡ block (record { start = o.start; end = k.stop }) (stmts_of l)
braced o k ov sv kv l eo es ek = rw (eo, ek, es) refl

-- a body of declarations and statements
pub bodied : (o t x y : CToken) (s : Span) (e : CExpr) (ov lv sv rv : SemanticValue) (ds : List CDecl) (l : List CStmt) → ov ≡ token o → decls lv ≡ ds → stmts sv ≡ l → rv ≡ pair (token t) (pair (expr s e) (pair (token x) (token y))) → code_value (pair ov (pair lv (pair sv rv))) ≡ body (code ds (stmts_of l) e)
bodied o t x y s e ov lv sv rv ds l eo el es er = rw (eo, er, el, es) refl

-- the expression that is returned
pub returning : (w x y : CToken) (a : Part) (wv av xv yv : SemanticValue) → wv ≡ token w → IsPart a av → xv ≡ token x → yv ≡ token y → IsReturned a.expr (pair wv (pair av (pair xv yv)))
returning w x y a wv av xv yv ew ea ex ey = (w, a.span, x, y, rw (ew, ea, ex, ey) refl)

-- what begins with a mark
or_false : (b : Bool) → (b || false) ≡ true → b ≡ true
or_false true e = refl
or_false false e = e

pub kind_of : (m : Mark) (t : CToken) (ts : List CToken) → heads (sign m) (t ∷ ts) ≡ true → mark m ≡ kind t
kind_of m t ts e = same_sort_true (mark m) (kind t) (or_false (same_sort (mark m) (kind t)) e)

pub not_headed_by : (p : Piece) (m : Mark) (ts : List CToken) → heads (sign m) ts ≡ true → starts p (mark m) ≡ false → heads p ts ≡ false
not_headed_by p m [] e f = refl
not_headed_by p m (t ∷ ts) e f = ap (starts p) (sym (kind_of m t ts e)) ∙ f

pub picks_headed_by : (a b : Piece) (m : Mark) (ts : List CToken) → heads (sign m) ts ≡ true → starts a (mark m) ≡ true → starts b (mark m) ≡ false → picks a b ts ≡ true
picks_headed_by a b m [] e f g = absurd (false≢true e)
picks_headed_by a b m (t ∷ ts) e f g =
    ap (λ k. starts a k && (not (starts b k) || heads (sign OpenParen) ts)) (sym (kind_of m t ts e))
    ∙ ap (λ x. x && (not (starts b (mark m)) || heads (sign OpenParen) ts)) f ∙ ap (λ x. not x || heads (sign OpenParen) ts) g

-- which statement comes
pub stmt_by_choice : (ts : List Token) (r : Result (Stmt × Bor (List Token)) Halt) → heads (sign If) (as_seen ts) ≡ true → PieceGives CHOICE IsStmtOf ts r → PieceGives (the statement) IsStmt ts r
stmt_by_choice ts r e g =
    let n = not_headed_by ASSIGNMENT If (as_seen ts) e refl in
    let q = picks_headed_by CHOICE LOOP If (as_seen ts) e refl refl in
    lifted CHOICE (the statement) IsStmtOf IsStmt statement_value ts r (λ v rest d. goes_the statement (goes_second_not ASSIGNMENT n (goes_first LOOP q d))) (λ h d. fails_the statement (fails_second_not ASSIGNMENT n (fails_first LOOP q d))) (λ x v i. i) g

pub stmt_by_loop : (ts : List Token) (r : Result (Stmt × Bor (List Token)) Halt) → heads (sign While) (as_seen ts) ≡ true → PieceGives LOOP IsStmtOf ts r → PieceGives (the statement) IsStmt ts r
stmt_by_loop ts r e g =
    let n = not_headed_by ASSIGNMENT While (as_seen ts) e refl in
    let q = not_headed_by CHOICE While (as_seen ts) e refl in
    lifted LOOP (the statement) IsStmtOf IsStmt statement_value ts r (λ v rest d. goes_the statement (goes_second_not ASSIGNMENT n (goes_second_not CHOICE q d))) (λ h d. fails_the statement (fails_second_not ASSIGNMENT n (fails_second_not CHOICE q d))) (λ x v i. i) g

alone : (a w e x : Bool) → (a || false) ≡ false → (w || false) ≡ false → (a || (w || e)) ≡ true → ((e || false) && (not (((a || false) || false) || ((w || false) || false)) || x)) ≡ true
alone true w e x p q r = absurd (false≢true (sym p))
alone false true e x p q r = absurd (false≢true (sym q))
alone false false true x p q r = refl
alone false false false x p q r = absurd (false≢true r)

pub picks_assignment : (ts : List CToken) → heads (sign If) ts ≡ false → heads (sign While) ts ≡ false → heads (the statement) ts ≡ true → picks ASSIGNMENT (CHOICE or LOOP) ts ≡ true
picks_assignment [] e f g = absurd (false≢true g)
picks_assignment (t ∷ ts) e f g = alone (same_sort (mark If) (kind t)) (same_sort (mark While) (kind t)) (among expr_starts (kind t)) (heads (sign OpenParen) ts) e f g

pub stmt_by_assignment : (ts here : List Token) (r : Result (Stmt × Bor (List Token)) Halt) → heads (sign If) (as_seen ts) ≡ false → heads (sign While) (as_seen ts) ≡ false → (here ≡ ts) × (heads (the statement) (as_seen ts) ≡ true) → PieceGives ASSIGNMENT IsStmtOf here r → PieceGives (the statement) IsStmt ts r
stmt_by_assignment ts here r e f h g =
    let q = picks_assignment (as_seen ts) e f h.1 in
    lifted ASSIGNMENT (the statement) IsStmtOf IsStmt statement_value ts r (λ v rest d. goes_the statement (goes_first (CHOICE or LOOP) q d)) (λ x d. fails_the statement (fails_first (CHOICE or LOOP) q d)) (λ x v i. i) (subst (λ l. PieceGives ASSIGNMENT IsStmtOf l r) h.0 g)

-- where no statement begins
neither_left : (a b : Bool) → (a || b) ≡ false → a ≡ false
neither_left true b e = e
neither_left false b e = refl

neither_right : (a b : Bool) → (a || b) ≡ false → b ≡ false
neither_right true b e = absurd (false≢true (sym e))
neither_right false b e = e

record NoStatement (ts : List CToken) : Type 0 where
  no_choice : heads (sign If) ts ≡ false
  no_loop : heads (sign While) ts ≡ false
  no_place : heads (the unary) ts ≡ false

no_statement : (ts : List CToken) → heads (the statement) ts ≡ false → NoStatement ts
no_statement [] e = record { no_choice = refl; no_loop = refl; no_place = refl }
no_statement (t ∷ ts) e =
    let a = same_sort (mark If) (kind t) in
    let w = same_sort (mark While) (kind t) in
    let x = among expr_starts (kind t) in
    let r = neither_right a (w || x) e in
    record { no_choice = ap (λ b. b || false) (neither_left a (w || x) e); no_loop = ap (λ b. b || false) (neither_left w x r); no_place = neither_right w x r }

pub fails_statement : (ts : List Token) → heads (the statement) (as_seen ts) ≡ false → PieceFails (the statement) (as_seen ts) (Left (length ts))
fails_statement ts e =
    let n = no_statement (as_seen ts) e in
    fails_the statement (fails_second_not ASSIGNMENT (heads_not (the unary) (sign Assign ▸ RIGHT ▸ sign Semicolon) (as_seen ts) refl n.no_place)
    (fails_second_not CHOICE (heads_not (sign If) (sign OpenParen ▸ EXPR ▸ sign CloseParen ▸ the a_block ▸ OTHERWISE) (as_seen ts) refl n.no_choice)
    (fails_left (sign OpenParen ▸ EXPR ▸ sign CloseParen ▸ the a_block) (fails_sign While ts n.no_loop))))

-- statements one after another
pub begins_list : (p : Piece) (ts rest : List Token) → rest ≡ ts → PieceGoesOn p (as_seen ts) none (as_seen rest) none
begins_list p ts rest e = subst (λ l. PieceGoesOn p (as_seen ts) none (as_seen l) none) (sym e) (list_starts p (as_seen ts) none)

pub goes_further : (p : Piece) (ts mid here after : List Token) (v w : SemanticValue) → PieceGoesOn p (as_seen ts) none (as_seen mid) v → (here ≡ mid) × (heads p (as_seen mid) ≡ true) → PieceReads p (as_seen here) w (as_seen after) → PieceGoesOn p (as_seen ts) none (as_seen after) (snoc v w)
goes_further p ts mid here after v w f h g = list_item f h.1 (subst (λ l. PieceReads p (as_seen l) w (as_seen after)) h.0 g)

pub fails_further : (p : Piece) (ts mid here : List Token) (v : SemanticValue) (x : Halt) → PieceGoesOn p (as_seen ts) none (as_seen mid) v → (here ≡ mid) × (heads p (as_seen mid) ≡ true) → PieceFails p (as_seen here) x → PieceFails (many p) (as_seen ts) x
fails_further p ts mid here v x f h g = fails_many f h.1 (subst (λ l. PieceFails p (as_seen l) x) h.0 g)

-- arguments
pub no_args : (first list : List Expr) → list ≡ first → map expr_view first ++ exprs none ≡ map expr_view list
no_args first list e = append-nil (map expr_view first) ∙ ap (map expr_view) (sym e)

pub more_args : (first list longer : List Expr) (a : Part) (v x : SemanticValue) (t : CToken) → map expr_view first ++ exprs v ≡ map expr_view list → IsPart a x → longer ≡ list ++ (a.expr ∷ []) → map expr_view first ++ exprs (snoc v (pair (token t) x)) ≡ map expr_view longer
more_args first list longer a v x t e f g =
    sym (append_assoc (map expr_view first) (exprs v) (exprs_in (pair (token t) x))) ∙ ap (λ l. l ++ exprs_in (pair (token t) x)) e
    ∙ ap (λ y. map expr_view list ++ exprs_in (pair (token t) y)) f ∙ sym (map-append expr_view list (a.expr ∷ [])) ∙ ap (map expr_view) (sym g)

pub one_arg : (a : Part) (empty one : List Expr) (v : SemanticValue) → IsPart a v → empty ≡ [] → one ≡ empty ++ (a.expr ∷ []) → exprs_in v ≡ map expr_view one
one_arg a empty one v e f g = ap exprs_in e ∙ sym (ap (map expr_view) (g ∙ ap (λ l. l ++ (a.expr ∷ [])) f))
