-- What the functions give that read the parts of expressions: for proofs.
use Rattle.std.specs.Prelude.{ℕ, ◌≡◌, true, false, List, [], ◌∷◌, map, length, Result, Ok, Err, Option, Some, None}
use Rattle.std.specs.Borrow.{Bor}
use Rattle.c0_tokens.specs.Tokens.{CToken, token_view}
use Rattle.c0_tokens.specs.declared.token.Token.{Token}
use Rattle.c0_tokens.specs.declared.token.Mark.{Mark}
use Rattle.c0_tokens.specs.declared.token.Mark.TheVariants.{True, False, Null, Dot, Arrow, OpenBracket, CloseBracket}
use Rattle.c0_tree.specs.declared.tree.Kind.TheVariants.{Unresolved}
use Rattle.c0_tree.specs.declared.tree.Name.{Name}
use Rattle.c0_tree.specs.View.{expr_view, name_view}
use Rattle.c0_parser.specs.Sorts.{mark, a_name, a_number, among}
use Rattle.c0_parser.specs.Value.{SemanticValue, token, pair, expr, parsed_name, token_span, suffixed}
use Rattle.c0_parser.specs.Grammar.{Piece, one_of, sign, ◌▸◌, ◌or◌, EXPR, NAME}
use Rattle.c0_parser.specs.Machine.{heads, kind}
use Rattle.c0_parser.specs.Contract.{as_seen}
use Rattle.c0_parser.specs.Levels.{heads_any}
use Rattle.c0_parser.specs.Views.{IsPart}
use Rattle.c0_parser.specs.declared.reader.Halt.{Halt}
use Rattle.c0_parser.specs.declared.reader.Halt.TheVariants.{Memory, Left}
use Rattle.c0_parser.specs.declared.expressions.Part.{Part}

-- what a part means
abbrev pub part_value : Part → SemanticValue
part_value p = expr p.span (expr_view p.expr)

-- what stands between two tokens, with them
abbrev pub enclosed : Token → Part → Token → SemanticValue
enclosed opening inner closing = pair (token (token_view opening)) (pair (part_value inner) (token (token_view closing)))

-- a part is a field of this name of another part, behind `.` or `->`
abbrev pub IsFieldOf : Part → Token → Name → Part → Type 0
IsFieldOf left sign name p = (x : CToken) → parsed_name x ≡ name_view name → IsPart p (suffixed (part_value left) (pair (token (token_view sign)) (token x)))

-- a name is read at this token with this text: it is not known what it stands for
abbrev pub IsNameOf : Token → List ℕ → Name → Type 0
IsNameOf t text x = name_view x ≡ record { text = text; span = token_span (token_view t); kind = Unresolved; number = 0 }

-- a name, a number, true, false or null
abbrev pub LITERAL : Piece
LITERAL = one_of a_name (a_number ∷ mark True ∷ mark False ∷ mark Null ∷ [])

-- .NAME or ->NAME
abbrev pub FIELD : Piece
FIELD = one_of (mark Dot) (mark Arrow ∷ []) ▸ NAME

-- [ expr ]
abbrev pub ELEMENT : Piece
ELEMENT = sign OpenBracket ▸ EXPR ▸ sign CloseBracket

-- what may stand behind a primary
abbrev pub PRIMARY_SUFFIX : Piece
PRIMARY_SUFFIX = FIELD or ELEMENT

-- the first token is none of these marks, or is one of them
abbrev pub TakesAny : List Mark → List Token → Option (Token × Bor (List Token)) → Type 0
TakesAny marks ts None = heads_any (map mark marks) (as_seen ts) ≡ false
TakesAny marks ts (Some r) = (ts ≡ r.0 ∷ r.1.now) × (among (map mark marks) (kind (token_view r.0)) ≡ true)

-- there is no literal
abbrev pub NoLiteral : List Token → Halt → Type 0
NoLiteral ts Memory = Unit {0}
NoLiteral ts (Left n) = (heads LITERAL (as_seen ts) ≡ false) × (length ts ≡ n)

-- a literal is taken
abbrev pub GivesLiteral : (Part → CToken → Type 0) → List Token → Result (Part × Bor (List Token)) Halt → Type 0
GivesLiteral Is ts (Ok r) = (t : CToken) × (as_seen ts ≡ t ∷ as_seen r.1.now)
    × (among (a_name ∷ a_number ∷ mark True ∷ mark False ∷ mark Null ∷ []) (kind t) ≡ true) × Is r.0 t
GivesLiteral Is ts (Err h) = NoLiteral ts h
