-- What the parts of a source mean: the value of each production, from the values of its parts.
use Rattle.std.specs.Prelude.{ℕ, List, [], ◌∷◌, ◌++◌}
use Rattle.c0_tokens.specs.declared.token.Mark.TheVariants.{Bool as Boolean, True, False, Dot, Equal, NotEqual, Less, AtMost, Greater}
use Rattle.c0_tokens.specs.declared.token.Mark.TheVariants.{AtLeast, Plus, Minus, Star, Slash, Percent, Not, And}
use Rattle.c0_tokens.specs.Tokens.{CLexeme, CToken, name, number, asm_text, fixed}
use Rattle.c0_tree.specs.declared.tree.Span.{Span}
use Rattle.c0_tree.specs.declared.tree.Kind.TheVariants.{Unresolved}
use Rattle.c0_tree.specs.declared.tree.UnaryOp.TheVariants.{Negate, Not as Complement}
use Rattle.c0_tree.specs.declared.tree.BinaryOp.{BinaryOp}
use Rattle.c0_tree.specs.declared.tree.BinaryOp.TheVariants as op
use Rattle.c0_tree.specs.Tree.{CName, CTy, int, bool, pointer, named, array, CExpr, num, true_, false_, null, var, field, arrow, index, deref, address}
use Rattle.c0_tree.specs.Tree.{unary, binary, CStmt, assign, call, new, choice, loop, CStmts, done, CDecl, CStruct, CBody, code, asm, CFunction, CUnit}
use Rattle.c0_tree.specs.View.{stmts_of}

-- What a part of a source means. An expression and a type have the part of the source that they take, outer parentheses taken in.
pub data SemanticValue : Type 0 where
  token : CToken → SemanticValue
  -- two parts, one after the other
  pair : SemanticValue → SemanticValue → SemanticValue
  -- the parts of a list so far, and one more; a part that may be left out is a list of none or one
  none : SemanticValue
  snoc : SemanticValue → SemanticValue → SemanticValue
  expr : Span → CExpr → SemanticValue
  type : Span → CTy → SemanticValue
  decl : CDecl → SemanticValue
  stmt : CStmt → SemanticValue
  block : Span → CStmts → SemanticValue
  body : CBody → SemanticValue
  a_struct : CStruct → SemanticValue
  a_global : CDecl → SemanticValue
  a_function : CFunction → SemanticValue

-- where a token stands
abbrev pub token_span : CToken → Span
token_span t = record { start = t.start; end = t.stop }

-- from the first byte of one part to the end of another
abbrev pub across : Span → Span → Span
across a b = record { start = a.start; end = b.end }

-- the text of a name or an asm text
abbrev pub lexeme_text : CLexeme → List ℕ
lexeme_text (name text) = text
lexeme_text (asm_text text) = text
lexeme_text _ = []

-- the value of a number
abbrev pub literal_value : CLexeme → ℕ
literal_value (number value) = value
literal_value _ = 0

-- a name as it is read: it is not known what it stands for
abbrev pub parsed_name : CToken → CName
parsed_name t = record { text = lexeme_text t.lexeme; span = token_span t; kind = Unresolved; number = 0 }

-- a name, a number, `true`, `false` or `null`
abbrev pub literal : CToken → CLexeme → CExpr
literal t (name text) = var (parsed_name t)
literal t (number value) = num (token_span t) value
literal t (fixed True) = true_ (token_span t)
literal t (fixed False) = false_ (token_span t)
literal t _ = null (token_span t)

-- primary = NAME | NUMBER | "true" | "false" | "null" | "(" expr ")"
abbrev pub primary_value : SemanticValue → SemanticValue
primary_value (token t) = expr (token_span t) (literal t t.lexeme)
primary_value (pair (token opening) (pair (expr s e) (token closing))) = expr (across (token_span opening) (token_span closing)) e
primary_value _ = none

-- a field's name behind `.` or `->`
abbrev pub part_of : CLexeme → Span → CExpr → CName → CExpr
part_of (fixed Dot) s e x = field s e x
part_of _ s e x = arrow s e x

-- "." NAME | "->" NAME | "[" expr "]"
abbrev pub suffixed : SemanticValue → SemanticValue → SemanticValue
suffixed (expr s e) (pair (token t) (token x)) = let all = across s (token_span x) in expr all (part_of t.lexeme all e (parsed_name x))
suffixed (expr s e) (pair (token opening) (pair (expr inner i) (token closing))) = let all = across s (token_span closing) in expr all (index all e i)
suffixed _ _ = none

-- each suffix takes what stands before it
abbrev pub suffixes : SemanticValue → SemanticValue → SemanticValue
suffixes v none = v
suffixes v (snoc l x) = suffixed (suffixes v l) x
suffixes _ _ = none

abbrev pub postfix_value : SemanticValue → SemanticValue
postfix_value (pair v l) = suffixes v l
postfix_value _ = none

-- an operator before its operand
abbrev pub prefixed : CLexeme → Span → CExpr → CExpr
prefixed (fixed Minus) s e = unary s Negate e
prefixed (fixed Not) s e = unary s Complement e
prefixed (fixed Star) s e = deref s e
prefixed _ s e = address s e

-- unary = ( "-" | "!" | "*" | "&" ) unary | postfix
abbrev pub unary_value : SemanticValue → SemanticValue
unary_value (pair (token t) (expr s e)) = let all = across (token_span t) s in expr all (prefixed t.lexeme all e)
unary_value (expr s e) = expr s e
unary_value _ = none

-- the operator that a mark stands for
abbrev pub operator : CLexeme → BinaryOp
operator (fixed Plus) = op.Add
operator (fixed Minus) = op.Sub
operator (fixed Star) = op.Mul
operator (fixed Slash) = op.Div
operator (fixed Percent) = op.Rem
operator (fixed Less) = op.Lt
operator (fixed AtMost) = op.Le
operator (fixed Greater) = op.Gt
operator (fixed AtLeast) = op.Ge
operator (fixed Equal) = op.Eq
operator (fixed NotEqual) = op.Ne
operator (fixed And) = op.And
operator _ = op.Or

-- an operator and its right operand, behind its left operand
abbrev pub joined : SemanticValue → SemanticValue → SemanticValue
joined (expr s e) (pair (token t) (expr r f)) = let all = across s r in expr all (binary all (operator t.lexeme) e f)
joined _ _ = none

-- chains group to the left
abbrev pub chained : SemanticValue → SemanticValue → SemanticValue
chained v none = v
chained v (snoc l x) = joined (chained v l) x
chained _ _ = none

abbrev pub chain_value : SemanticValue → SemanticValue
chain_value (pair v l) = chained v l
chain_value _ = none

-- "int" | "bool"
abbrev pub basic : CLexeme → CTy
basic (fixed Boolean) = bool
basic _ = int

-- "int" | "bool" | "struct" NAME
abbrev pub base_value : SemanticValue → SemanticValue
base_value (token t) = type (token_span t) (basic t.lexeme)
base_value (pair (token t) (token x)) = type (across (token_span t) (token_span x)) (named (parsed_name x))
base_value _ = none

-- "*" | "[" NUMBER "]"
abbrev pub type_suffixed : SemanticValue → SemanticValue → SemanticValue
type_suffixed (type s t) (token star) = type (across s (token_span star)) (pointer t)
type_suffixed (type s t) (pair (token opening) (pair (token n) (token closing))) = type (across s (token_span closing)) (array t (literal_value n.lexeme))
type_suffixed _ _ = none

-- suffixes are read from left to right
abbrev pub type_suffixes : SemanticValue → SemanticValue → SemanticValue
type_suffixes v none = v
type_suffixes v (snoc l x) = type_suffixed (type_suffixes v l) x
type_suffixes _ _ = none

abbrev pub type_value : SemanticValue → SemanticValue
type_value (pair base l) = type_suffixes (base_value base) l
type_value _ = none

-- type NAME
abbrev pub decl_of : SemanticValue → CToken → SemanticValue
decl_of (type s t) x = decl (record { ty = t; ty_span = s; name = parsed_name x })
decl_of _ x = none

abbrev pub decl_value : SemanticValue → SemanticValue
decl_value (pair t (token x)) = decl_of t x
decl_value _ = none

-- the declaration in a part of a list, with a mark before it or behind it
abbrev pub decls_in : SemanticValue → List CDecl
decls_in (decl d) = d ∷ []
decls_in (pair (decl d) _) = d ∷ []
decls_in (pair _ (decl d)) = d ∷ []
decls_in _ = []

-- the declarations of a list
abbrev pub decls : SemanticValue → List CDecl
decls (snoc l x) = decls l ++ decls_in x
decls _ = []

-- the declarations of a list with its first one apart
abbrev pub decls_from : SemanticValue → List CDecl
decls_from (pair first l) = decls_in first ++ decls l
decls_from _ = []

-- the expression in a part of a list, with a mark before it
abbrev pub exprs_in : SemanticValue → List CExpr
exprs_in (expr s e) = e ∷ []
exprs_in (pair _ (expr s e)) = e ∷ []
exprs_in _ = []

abbrev pub exprs : SemanticValue → List CExpr
exprs (snoc l x) = exprs l ++ exprs_in x
exprs _ = []

-- [ expr { "," expr } ]
abbrev pub args_of : SemanticValue → List CExpr
args_of (snoc none (pair first l)) = exprs_in first ++ exprs l
args_of _ = []

-- the statements of a list
abbrev pub stmts_in : SemanticValue → List CStmt
stmts_in (stmt s) = s ∷ []
stmts_in _ = []

abbrev pub stmts : SemanticValue → List CStmt
stmts (snoc l x) = stmts l ++ stmts_in x
stmts _ = []

-- "{" { statement } "}"
abbrev pub block_value : SemanticValue → SemanticValue
block_value (pair (token opening) (pair l (token closing))) = block (across (token_span opening) (token_span closing)) (stmts_of (stmts l))
block_value _ = none

-- a place and what is stored there: an expression, a call or `new`
abbrev pub stored : Span → CExpr → SemanticValue → SemanticValue
stored s p (expr r e) = stmt (assign s p e)
stored s p (pair (token t) (type r ty)) = stmt (new s p ty r)
stored s p (pair (token x) (pair (token opening) (pair l (token closing)))) =
    stmt (call s p (across (token_span x) (token_span closing)) (parsed_name x) (args_of l))
stored s p _ = none

-- what stands behind `if ( test )`: a block, and perhaps `else` and a block
abbrev pub choice_value : CToken → CExpr → SemanticValue → SemanticValue
choice_value t e (pair (block s a) none) = stmt (choice (across (token_span t) s) e a done)
choice_value t e (pair (block s a) (snoc none (pair (token other) (block r b)))) = stmt (choice (across (token_span t) r) e a b)
choice_value t e (block s a) = stmt (loop (across (token_span t) s) e a)
choice_value t e _ = none

-- unary "=" right ";" | "if" "(" expr ")" block [ "else" block ] | "while" "(" expr ")" block
abbrev pub statement_value : SemanticValue → SemanticValue
statement_value (pair (expr s p) (pair (token equals) (pair r (token semicolon)))) = stored (across s (token_span semicolon)) p r
statement_value (pair (token t) (pair (token opening) (pair (expr s e) (pair (token closing) rest)))) = choice_value t e rest
statement_value _ = none

-- "{" { type NAME ";" } { statement } "return" expr ";" "}"
abbrev pub code_value : SemanticValue → SemanticValue
code_value (pair (token opening) (pair locals (pair l (pair (token t) (pair (expr s e) (pair (token semicolon) (token closing))))))) =
    body (code (decls locals) (stmts_of (stmts l)) e)
code_value _ = none

-- code | "asm" asmtext
abbrev pub body_value : SemanticValue → SemanticValue
body_value (pair (token t) (token text)) = body (asm (lexeme_text text.lexeme) (token_span text) [])
body_value (body b) = body b
body_value _ = none

-- [ type NAME { "," type NAME } ]
abbrev pub parsed_params : SemanticValue → List CDecl
parsed_params (snoc none ds) = decls_from ds
parsed_params _ = []

-- what stands behind the type and the name of a global or a function
abbrev pub defined : CDecl → SemanticValue → SemanticValue
defined d (token semicolon) = a_global d
defined d (pair (token opening) (pair ps (pair (token closing) (body b)))) =
    a_function (record { answer = d.ty; answer_span = d.ty_span; name = d.name; params = parsed_params ps; body = b })
defined d _ = none

abbrev pub defined_at : SemanticValue → SemanticValue → SemanticValue
defined_at (decl d) v = defined d v
defined_at _ v = none

-- the fields of a struct, behind its name
abbrev pub struct_of : CToken → SemanticValue → SemanticValue
struct_of x (pair (token opening) (pair ds (pair (token closing) (token semicolon)))) = a_struct (record { name = parsed_name x; fields = decls_from ds })
struct_of x _ = none

-- a struct, or a declaration and what stands behind it
abbrev pub item_value : SemanticValue → SemanticValue
item_value (pair (token t) (pair (token x) v)) = struct_of x v
item_value (pair (decl d) v) = defined d v
item_value _ = none

abbrev pub structs_of_value : SemanticValue → List CStruct
structs_of_value (a_struct s) = s ∷ []
structs_of_value _ = []

abbrev pub globals_of_value : SemanticValue → List CDecl
globals_of_value (a_global d) = d ∷ []
globals_of_value _ = []

abbrev pub functions_of_value : SemanticValue → List CFunction
functions_of_value (a_function f) = f ∷ []
functions_of_value _ = []

-- the structs, the globals and the functions of a list, each in the order of the source
abbrev pub structs : SemanticValue → List CStruct
structs (snoc l x) = structs l ++ structs_of_value (item_value x)
structs _ = []

abbrev pub globals : SemanticValue → List CDecl
globals (snoc l x) = globals l ++ globals_of_value (item_value x)
globals _ = []

abbrev pub functions : SemanticValue → List CFunction
functions (snoc l x) = functions l ++ functions_of_value (item_value x)
functions _ = []

-- the tree of a source of so many bytes
abbrev pub parsed_unit : ℕ → SemanticValue → CUnit
parsed_unit bytes l = record { length = bytes; structs = structs l; globals = globals l; functions = functions l }
