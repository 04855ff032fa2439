-- The grammar of C0. A piece of it is a token, or is made of pieces: one after the other (`▸`), one of two (`or`), any number of times
-- (`many`), once or not at all (`maybe`), or a production by its name (`the`).
use Rattle.std.specs.Prelude.{IsTrue, List, [], ◌∷◌, ◌++◌}
use Rattle.c0_tokens.specs.Tokens.{CToken}
use Rattle.c0_tokens.specs.declared.token.Mark.{Mark}
use Rattle.c0_tokens.specs.declared.token.Mark.TheVariants.{Int, Bool as Boolean, Struct, If, Else, While, Return, New, True, False, Null, Asm, OpenBrace}
use Rattle.c0_tokens.specs.declared.token.Mark.TheVariants.{CloseBrace, OpenParen, CloseParen, OpenBracket, CloseBracket, Semicolon, Comma, Dot, Arrow, Assign}
use Rattle.c0_tokens.specs.declared.token.Mark.TheVariants.{Equal, NotEqual, Less, AtMost, Greater, AtLeast, Plus, Minus, Star, Slash, Percent, Not, Ampersand}
use Rattle.c0_tokens.specs.declared.token.Mark.TheVariants.{And, Or}
use Rattle.c0_parser.specs.Sorts.{Sort, mark, a_name, a_number, an_asm_text, the_end, sort, among}
use Rattle.c0_parser.specs.Value.{SemanticValue, token, pair, none, snoc, chain_value, unary_value, postfix_value}
use Rattle.c0_parser.specs.Value.{primary_value, type_value, decl_value, block_value, statement_value, code_value, body_value}

-- the productions
pub data Rule : Type 0 where
  disjunction conjunction equality relation sum product unary postfix primary : Rule
  type decl block statement code body : Rule

infixr 20 ◌▸◌
infixr 10 ◌or◌
pub data Piece : Type 0 where
  one_of : Sort → List Sort → Piece
  ◌▸◌ : Piece → Piece → Piece
  ◌or◌ : Piece → Piece → Piece
  many : Piece → Piece
  maybe : Piece → Piece
  the : Rule → Piece

-- a reserved word or a mark
abbrev pub sign : Mark → Piece
sign m = one_of (mark m) []

abbrev pub NAME : Piece
NAME = one_of a_name []

abbrev pub NUMBER : Piece
NUMBER = one_of a_number []

-- expr = and { "||" and }
abbrev pub EXPR : Piece
EXPR = the disjunction

-- [ expr { "," expr } ]
abbrev pub ARGS : Piece
ARGS = maybe (EXPR ▸ many (sign Comma ▸ EXPR))

-- NAME "(" [ expr { "," expr } ] ")"
abbrev pub CALL : Piece
CALL = NAME ▸ sign OpenParen ▸ ARGS ▸ sign CloseParen

-- expr | NAME "(" [ expr { "," expr } ] ")" | "new" type
abbrev pub RIGHT : Piece
RIGHT = (sign New ▸ the type) or CALL or EXPR

-- "int" | "bool"
abbrev pub BASIC : Piece
BASIC = one_of (mark Int) (mark Boolean ∷ [])

-- "int" | "bool" | "struct" NAME
abbrev pub BASE : Piece
BASE = BASIC or sign Struct ▸ NAME

-- "*" | "[" NUMBER "]"
abbrev pub SUFFIX : Piece
SUFFIX = sign Star or sign OpenBracket ▸ NUMBER ▸ sign CloseBracket

abbrev pub SUFFIXES : Piece
SUFFIXES = many SUFFIX

-- type NAME ";"
abbrev pub LINE : Piece
LINE = the decl ▸ sign Semicolon

-- the pieces of which each production is made
abbrev pub production : Rule → Piece
production disjunction = the conjunction ▸ many (sign Or ▸ the conjunction)
production conjunction = the equality ▸ many (sign And ▸ the equality)
production equality = the relation ▸ maybe (one_of (mark Equal) (mark NotEqual ∷ []) ▸ the relation)
production relation = the sum ▸ maybe (one_of (mark Less) (mark AtMost ∷ mark Greater ∷ mark AtLeast ∷ []) ▸ the sum)
production sum = the product ▸ many (one_of (mark Plus) (mark Minus ∷ []) ▸ the product)
production product = the unary ▸ many (one_of (mark Star) (mark Slash ∷ mark Percent ∷ []) ▸ the unary)
production unary = one_of (mark Minus) (mark Not ∷ mark Star ∷ mark Ampersand ∷ []) ▸ the unary or the postfix
production postfix = the primary ▸ many (one_of (mark Dot) (mark Arrow ∷ []) ▸ NAME or sign OpenBracket ▸ EXPR ▸ sign CloseBracket)
production primary = one_of a_name (a_number ∷ mark True ∷ mark False ∷ mark Null ∷ []) or sign OpenParen ▸ EXPR ▸ sign CloseParen
production type = BASE ▸ SUFFIXES
production decl = the type ▸ NAME
production block = sign OpenBrace ▸ many (the statement) ▸ sign CloseBrace
production statement = the unary ▸ sign Assign ▸ RIGHT ▸ sign Semicolon
    or sign If ▸ sign OpenParen ▸ EXPR ▸ sign CloseParen ▸ the block ▸ maybe (sign Else ▸ the block)
    or sign While ▸ sign OpenParen ▸ EXPR ▸ sign CloseParen ▸ the block
production code = sign OpenBrace ▸ many LINE ▸ many (the statement) ▸ sign Return ▸ EXPR ▸ sign Semicolon ▸ sign CloseBrace
production body = the code or sign Asm ▸ one_of an_asm_text []

-- what a production means, from what its pieces mean
abbrev pub production_value : Rule → SemanticValue → SemanticValue
production_value disjunction v = chain_value v
production_value conjunction v = chain_value v
production_value equality v = chain_value v
production_value relation v = chain_value v
production_value sum v = chain_value v
production_value product v = chain_value v
production_value unary v = unary_value v
production_value postfix v = postfix_value v
production_value primary v = primary_value v
production_value type v = type_value v
production_value decl v = decl_value v
production_value block v = block_value v
production_value statement v = statement_value v
production_value code v = code_value v
production_value body v = body_value v

-- "{" type NAME ";" { type NAME ";" } "}" ";"
abbrev pub FIELDS : Piece
FIELDS = sign OpenBrace ▸ (LINE ▸ many LINE) ▸ sign CloseBrace ▸ sign Semicolon

-- "(" [ type NAME { "," type NAME } ] ")" body
abbrev pub FUNCTION : Piece
FUNCTION = sign OpenParen ▸ maybe (the decl ▸ many (sign Comma ▸ the decl)) ▸ sign CloseParen ▸ the body

-- a struct, a global or a function: "struct" NAME fields | type NAME ( ";" | parameters body )
abbrev pub ITEM : Piece
ITEM = sign Struct ▸ NAME ▸ FIELDS or the decl ▸ (sign Semicolon or FUNCTION)

-- a unit, and the end of the source
abbrev pub UNIT : Piece
UNIT = many ITEM ▸ one_of the_end []

-- that a piece derives these tokens with this meaning
pub data Derives : Piece → List CToken → SemanticValue → Type 0 where
  taken : (s : Sort) (ss : List Sort) (t : CToken) → IsTrue (among (s ∷ ss) (sort t.lexeme)) → Derives (one_of s ss) (t ∷ []) (token t)
  both : {a b : Piece} {xs ys : List CToken} {v w : SemanticValue} → Derives a xs v → Derives b ys w → Derives (a ▸ b) (xs ++ ys) (pair v w)
  first : {a b : Piece} {xs : List CToken} {v : SemanticValue} → Derives a xs v → Derives (a or b) xs v
  second : {a b : Piece} {xs : List CToken} {v : SemanticValue} → Derives b xs v → Derives (a or b) xs v
  no_more : {a : Piece} → Derives (many a) [] none
  one_more : {a : Piece} {xs ys : List CToken} {v w : SemanticValue} → Derives (many a) xs v → Derives a ys w → Derives (many a) (xs ++ ys) (snoc v w)
  left_out : {a : Piece} → Derives (maybe a) [] none
  there : {a : Piece} {xs : List CToken} {v : SemanticValue} → Derives a xs v → Derives (maybe a) xs (snoc none v)
  made : (r : Rule) {xs : List CToken} {v : SemanticValue} → Derives (production r) xs v → Derives (the r) xs (production_value r v)
