-- How what the functions of the reader answer stands for the meaning of a piece.
use Rattle.std.specs.Prelude.{ℕ, ◌≡◌, [], ◌∷◌, ◌++◌, map, Vec, Option, Some, None}
use Rattle.c0_tokens.specs.Tokens.{CToken, token_view}
use Rattle.c0_tokens.specs.declared.token.Token.{Token}
use Rattle.c0_tree.specs.declared.tree.Span.{Span}
use Rattle.c0_tree.specs.declared.tree.Name.{Name}
use Rattle.c0_tree.specs.declared.tree.Expr.{Expr}
use Rattle.c0_tree.specs.declared.tree.Decl.{Decl}
use Rattle.c0_tree.specs.declared.tree.Stmt.{Stmt}
use Rattle.c0_tree.specs.declared.tree.Body.{Body}
use Rattle.c0_tree.specs.Tree.{CTy, pointer, array, CExpr, CStmt, assign, call, new, CName, asm}
use Rattle.c0_tree.specs.View.{name_view, type_view, expr_view, decl_view, stmt_view, stmts_view, struct_view, body_view, function_view}
use Rattle.c0_parser.specs.Value.{SemanticValue, token, pair, expr, type, decl, stmt, block}
use Rattle.c0_parser.specs.Value.{body, a_struct, a_global, a_function, token_span, parsed_name, lexeme_text, defined}
use Rattle.c0_parser.specs.Value.{struct_of, args_of, stmts, decls, decls_from, parsed_params}
use Rattle.c0_parser.specs.Value.{decls_in, type_suffixes, type_suffixed, literal_value, base_value}
use Rattle.c0_parser.specs.Value.{stored}
use Rattle.c0_parser.specs.Factored.{factored_value, declared_as, item_after_name}
use Rattle.c0_parser.specs.declared.expressions.Part.{Part}
use Rattle.c0_parser.specs.declared.types.Typed.{Typed}
use Rattle.c0_parser.specs.declared.types.Suffix.{Suffix}
use Rattle.c0_parser.specs.declared.statements.Block.{Block}
use Rattle.c0_parser.specs.declared.statements.Right.{Right}
use Rattle.c0_parser.specs.declared.statements.Right.TheVariants.{Stored, Called, Made}
use Rattle.c0_parser.specs.declared.items.Item.{Item}
use Rattle.c0_parser.specs.declared.items.Item.TheVariants.{AStruct, AGlobal, AFunction}

-- a token
abbrev pub IsToken : Token → SemanticValue → Type 0
IsToken t v = v ≡ token (token_view t)

-- a name
abbrev pub IsName : Name → SemanticValue → Type 0
IsName x v = (t : CToken) × (v ≡ token t) × (parsed_name t ≡ name_view x)

-- an expression and where it stands
abbrev pub IsPart : Part → SemanticValue → Type 0
IsPart p v = v ≡ expr p.span (expr_view p.expr)

-- arguments
abbrev pub AreArgs : {A : Type 0} → Vec Expr A → SemanticValue → Type 0
AreArgs es v = args_of v ≡ map expr_view es.items

-- a type and where it stands
abbrev pub typed : Typed → SemanticValue
typed t = type t.span (type_view t.ty)

abbrev pub IsTypedValue : Typed → SemanticValue → Type 0
IsTypedValue t v = v ≡ typed t

-- the first word or words of a type
abbrev pub IsBase : Typed → SemanticValue → Type 0
IsBase t v = base_value v ≡ typed t

-- the one word of a type
abbrev pub IsBasic : Typed → SemanticValue → Type 0
IsBasic t v = (x : CToken) × (v ≡ token x) × (base_value (token x) ≡ typed t)

-- the suffixes that make one type of another
abbrev pub AreSuffixes : Typed → Typed → SemanticValue → Type 0
AreSuffixes base t v = type_suffixes (typed base) v ≡ typed t

-- one suffix that makes one type of another
abbrev pub IsExtended : Typed → Typed → SemanticValue → Type 0
IsExtended base t v = type_suffixed (typed base) v ≡ typed t

-- a declaration
abbrev pub IsDecl : Decl → SemanticValue → Type 0
IsDecl d v = v ≡ decl (decl_view d)

-- declarations, each with a `;`
abbrev pub AreLines : {A : Type 0} → Vec Decl A → SemanticValue → Type 0
AreLines ds v = decls v ≡ map decl_view ds.items

-- the same, at least one
abbrev pub AreFields : {A : Type 0} → Vec Decl A → SemanticValue → Type 0
AreFields ds v = decls_from v ≡ map decl_view ds.items

-- parameters
abbrev pub AreParams : {A : Type 0} → Vec Decl A → SemanticValue → Type 0
AreParams ds v = parsed_params v ≡ map decl_view ds.items

-- a statement
abbrev pub IsStmt : Stmt → SemanticValue → Type 0
IsStmt s v = v ≡ stmt (stmt_view s)

-- statements
abbrev pub AreStmts : {A : Type 0} → Vec Stmt A → SemanticValue → Type 0
AreStmts ss v = stmts v ≡ map stmt_view ss.items

-- a block and where it stands
abbrev pub IsBlock : Block → SemanticValue → Type 0
IsBlock b v = v ≡ block b.span (stmts_view b.stmts.items)

-- the statement that stores a right side
abbrev pub right_stmt : Span → CExpr → Right → CStmt
right_stmt s p (Stored e) = assign s p (expr_view e)
right_stmt s p (Called place x args) = call s p place (name_view x) (map expr_view args.items)
right_stmt s p (Made t place) = new s p (type_view t) place

-- a right side
abbrev pub IsRight : Right → SemanticValue → Type 0
IsRight r v = (s : Span) (p : CExpr) → stored s p v ≡ stmt (right_stmt s p r)

-- a body
abbrev pub IsBody : Body → SemanticValue → Type 0
IsBody b v = v ≡ body (body_view b)

-- a struct, a global or a function
abbrev pub item_view : Item → SemanticValue
item_view (AStruct s) = a_struct (struct_view s)
item_view (AGlobal d) = a_global (decl_view d)
item_view (AFunction f) = a_function (function_view f)

abbrev pub IsItem : Item → SemanticValue → Type 0
IsItem i v = factored_value v ≡ item_view i

-- a number
abbrev pub IsNumber : ℕ → SemanticValue → Type 0
IsNumber n v = (t : CToken) × (v ≡ token t) × (literal_value t.lexeme ≡ n)

-- a pointer to a type, or an array of it
abbrev pub with_length : CTy → Option ℕ → CTy
with_length t None = pointer t
with_length t (Some n) = array t n

-- a type with a suffix behind it, from where the type starts to where the suffix ends
abbrev pub lengthened : Typed → Suffix → SemanticValue
lengthened base x = type (record { start = base.span.start; end = x.end }) (with_length (type_view base.ty) x.length)

-- a suffix of a type
abbrev pub IsSuffix : Suffix → SemanticValue → Type 0
IsSuffix x v = (s : Span) (t : CTy) → type_suffixed (type s t) v ≡ type (record { start = s.start; end = x.end }) (with_length t x.length)

-- a declaration as a part of a list
abbrev pub IsListed : Decl → SemanticValue → Type 0
IsListed d v = decls_in v ≡ decl_view d ∷ []

-- declarations behind others
abbrev pub AreMoreLines : {A B : Type 0} → Vec Decl A → Vec Decl B → SemanticValue → Type 0
AreMoreLines first ds v = map decl_view first.items ++ decls v ≡ map decl_view ds.items

-- the text of an asm body
abbrev pub IsAsm : Body → SemanticValue → Type 0
IsAsm b v = (t : CToken) × (v ≡ token t) × (asm (lexeme_text t.lexeme) (token_span t) [] ≡ body_view b)

-- the global or function of this declaration
abbrev pub IsItemOfDecl : Decl → Item → SemanticValue → Type 0
IsItemOfDecl d i v = defined (decl_view d) v ≡ item_view i

-- a global or a function behind the first word or words of its type
pub record IsDefined (base : Typed) (i : Item) (v : SemanticValue) : Type 0 where
  pub suffixes : SemanticValue
  pub others : SemanticValue
  pub span : Span
  pub ty : CTy
  pub parts : v ≡ pair suffixes others
  pub typed_so : type_suffixes (typed base) suffixes ≡ type span ty
  pub is : declared_as (typed base) v ≡ item_view i

-- a struct of this name, from its brace on
pub record IsStruct (x : Name) (i : Item) (v : SemanticValue) : Type 0 where
  pub brace : CToken
  pub others : SemanticValue
  pub parts : v ≡ pair (token brace) others
  pub is : (y : CToken) → parsed_name y ≡ name_view x → struct_of y v ≡ item_view i

-- a struct, or a global or function of a struct type, behind `struct` and a name
abbrev pub IsItemAfterName : CToken → CName → Item → SemanticValue → Type 0
IsItemAfterName t x i v = (y : CToken) → parsed_name y ≡ x → item_after_name t y v ≡ item_view i
