-- The grammar as a machine that reads token by token, with a stack of what is still wanted and a stack of what was read: for proofs.
use Rattle.std.specs.Prelude.{◌≡◌, Bool, true, false, not, ◌&&◌, ◌||◌, cond, Option, Some, None, List, [], ◌∷◌}
use Rattle.c0_tokens.specs.Tokens.{CToken}
use Rattle.c0_tokens.specs.declared.token.Mark.TheVariants.{Int, Bool as Boolean, Struct, If, While, True, False, Null}
use Rattle.c0_tokens.specs.declared.token.Mark.TheVariants.{Asm, OpenBrace, OpenParen, Minus, Star, Not, Ampersand}
use Rattle.c0_parser.specs.Sorts.{Sort, mark, a_name, a_number, sort, among}
use Rattle.c0_parser.specs.Value.{SemanticValue, token, pair, none, snoc}
use Rattle.c0_parser.specs.Grammar.{Rule, disjunction, conjunction, equality, relation, sum, product, unary, postfix, primary, type, decl, block}
use Rattle.c0_parser.specs.Grammar.{statement, code, body, Piece, one_of, sign, ◌▸◌, ◌or◌, many, maybe, the, production, production_value}

-- the sort of a token
abbrev pub kind : CToken → Sort
kind t = sort t.lexeme

-- whether nothing may stand for a piece
abbrev pub nullable : Piece → Bool
nullable (one_of s ss) = false
nullable (a ▸ b) = nullable a && nullable b
nullable (a or b) = nullable a || nullable b
nullable (many a) = true
nullable (maybe a) = true
nullable (the r) = false

-- the sorts that begin a primary
abbrev pub primary_starts : List Sort
primary_starts = a_name ∷ a_number ∷ mark True ∷ mark False ∷ mark Null ∷ mark OpenParen ∷ []

-- the sorts that begin an expression
abbrev pub expr_starts : List Sort
expr_starts = mark Minus ∷ mark Not ∷ mark Star ∷ mark Ampersand ∷ primary_starts

-- the sorts that begin a production
abbrev pub rule_starts : Rule → List Sort
rule_starts disjunction = expr_starts
rule_starts conjunction = expr_starts
rule_starts equality = expr_starts
rule_starts relation = expr_starts
rule_starts sum = expr_starts
rule_starts product = expr_starts
rule_starts unary = expr_starts
rule_starts postfix = primary_starts
rule_starts primary = primary_starts
rule_starts type = mark Int ∷ mark Boolean ∷ mark Struct ∷ []
rule_starts decl = mark Int ∷ mark Boolean ∷ mark Struct ∷ []
rule_starts block = mark OpenBrace ∷ []
rule_starts statement = mark If ∷ mark While ∷ expr_starts
rule_starts code = mark OpenBrace ∷ []
rule_starts body = mark OpenBrace ∷ mark Asm ∷ []

-- whether a token of this sort can begin a piece
abbrev pub starts : Piece → Sort → Bool
starts (one_of s ss) k = among (s ∷ ss) k
starts (a ▸ b) k = starts a k || (nullable a && starts b k)
starts (a or b) k = starts a k || starts b k
starts (many a) k = starts a k
starts (maybe a) k = starts a k
starts (the r) k = among (rule_starts r) k

-- whether a piece can begin with the next token
abbrev pub heads : Piece → List CToken → Bool
heads p [] = false
heads p (t ∷ ts) = starts p (kind t)

-- which of two pieces comes: where both can begin so, `(` behind it tells
abbrev pub picks : Piece → Piece → List CToken → Bool
picks a b [] = false
picks a b (t ∷ ts) = starts a (kind t) && (not (starts b (kind t)) || heads (sign OpenParen) ts)

-- what is to be done: a piece to be read, more of a list, or a change of what was read
pub data Task : Type 0 where
  want : Piece → Task
  more : Piece → Task
  act : (List SemanticValue → List SemanticValue) → Task

-- the tokens left, what is to be done with them, and what was read, the last in front
pub data ParserState : Type 0 where
  at : List CToken → List Task → List SemanticValue → ParserState

abbrev pub paired : List SemanticValue → List SemanticValue
paired (w ∷ v ∷ vs) = pair v w ∷ vs
paired vs = vs

abbrev pub listed : List SemanticValue → List SemanticValue
listed (w ∷ v ∷ vs) = snoc v w ∷ vs
listed vs = []

abbrev pub meant : Rule → List SemanticValue → List SemanticValue
meant r (v ∷ vs) = production_value r v ∷ vs
meant r vs = vs

-- a token of these sorts is taken
abbrev pub take_one : List Sort → List CToken → List Task → List SemanticValue → Option ParserState
take_one ss [] st vs = None
take_one ss (t ∷ ts) st vs = cond (among ss (kind t)) (Some (at ts st (token t ∷ vs))) None

abbrev pub enter_piece : Piece → List CToken → List Task → List SemanticValue → Option ParserState
enter_piece (one_of s ss) ts st vs = take_one (s ∷ ss) ts st vs
enter_piece (a ▸ b) ts st vs = Some (at ts (want a ∷ want b ∷ act paired ∷ st) vs)
enter_piece (a or b) ts st vs = Some (at ts (want (cond (picks a b ts) a b) ∷ st) vs)
enter_piece (many a) ts st vs = Some (at ts (more a ∷ st) (none ∷ vs))
enter_piece (maybe a) ts st vs = Some (cond (heads a ts) (at ts (want a ∷ act listed ∷ st) (none ∷ vs)) (at ts st (none ∷ vs)))
enter_piece (the r) ts st vs = Some (at ts (want (production r) ∷ act (meant r) ∷ st) vs)

abbrev pub parser_step : ParserState → Option ParserState
parser_step (at ts [] vs) = None
parser_step (at ts (want p ∷ st) vs) = enter_piece p ts st vs
parser_step (at ts (more a ∷ st) vs) = Some (cond (heads a ts) (at ts (want a ∷ act listed ∷ more a ∷ st) vs) (at ts st vs))
parser_step (at ts (act f ∷ st) vs) = Some (at ts st (f vs))

-- that one state leads to another
pub data ParserLeads : ParserState → ParserState → Type 0 where
  still : (s : ParserState) → ParserLeads s s
  go : (a b c : ParserState) → parser_step a ≡ Some b → ParserLeads b c → ParserLeads a c
