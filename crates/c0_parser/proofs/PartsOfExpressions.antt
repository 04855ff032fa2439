-- What the functions of expressions need of the grammar: its pieces by levels of operators, and the parts of an expression one after another.
use Rattle.std.proofs.Common.{◌≡◌, ◌<◌, List, [], ◌∷◌, length, map, refl, sym, ap, ◌∙◌, subst, arith, Ok, Err, Result}
use Rattle.std.specs.Prelude.{Bool, true, false, not, ◌||◌, ◌&&◌}
use Rattle.std.specs.Borrow.{Bor}
use Rattle.c0_tokens.specs.Tokens.{CToken, token_view, lexeme_view, fixed}
use Rattle.c0_tokens.specs.declared.token.Mark.TheVariants.{True, False, Null, OpenParen, CloseParen, OpenBracket, Dot, Arrow, Equal, NotEqual, Less, AtMost, Greater, AtLeast, Plus, Minus, Star, Slash, Percent, Not, Ampersand, And, Or}
use Rattle.c0_tokens.specs.declared.token.Token.{Token}
use Rattle.c0_parser.specs.Sorts.{Sort, mark, a_name, a_number, same_sort, among}
use Rattle.c0_parser.specs.Value.{SemanticValue, token, pair, none, snoc, joined, chained, chain_value, suffixed, suffixes, primary_value, unary_value}
use Rattle.c0_parser.specs.Grammar.{conjunction, equality, relation, sum, product, unary, postfix, primary, Piece, one_of, sign, ◌▸◌, many, maybe, the, production, production_value, EXPR, NAME}
use Rattle.c0_parser.specs.Machine.{heads, kind, starts, picks, at, want, ParserLeads, go, still}
use Rattle.c0_parser.specs.Contract.{as_seen, PieceReads, PieceGoesOn, Refuses, PieceFails, PieceGives, GivesAny}
use Rattle.c0_parser.specs.Views.{IsPart}
use Rattle.c0_parser.specs.Levels.{rule_of, operand_of, marks_of, operators, operation, chains, heads_any}
use Rattle.c0_parser.specs.Tails.{part_value, LITERAL, FIELD, ELEMENT, PRIMARY_SUFFIX, GivesLiteral}
use Rattle.c0_parser.specs.declared.expressions.Level.{Level}
use Rattle.c0_parser.specs.declared.expressions.Level.TheVariants.{Disjunction, Conjunction, Equality, Relation, Sum, Product}
use Rattle.c0_parser.specs.declared.expressions.Part.{Part}
use Rattle.c0_parser.specs.declared.reader.Halt.{Halt}
use Rattle.c0_parser.proofs.PieceSteps.{refuses_one, seen_length, goes_both, goes_first, goes_second, goes_the, goes_many, refuses_the, refuses_second, refuses_left, list_item, fails_left, fails_right, fails_first, fails_second, fails_the, fails_many, fails_by, no_memory, shorter}
use Rattle.c0_parser.specs.declared.reader.Halt.TheVariants.{Memory, Left}
use Rattle.c0_parser.proofs.DerivedIsRead.{picks_first, cond_true}
use Rattle.c0_parser.proofs.TokensDecide.{no_yes}

-- sorts that a token may be of

or_none : (b : Bool) → (b || false) ≡ b
or_none true = refl
or_none false = refl

or_skip : (b c : Bool) → (b || c) ≡ ((b || false) || c)
or_skip true c = refl
or_skip false c = refl

-- the next token is of the first sort or of one of the others
pub heads_any_cons : (s : Sort) (ss : List Sort) (ts : List CToken) → heads_any (s ∷ ss) ts ≡ (heads (one_of s []) ts || heads_any ss ts)
heads_any_cons s ss [] = refl
heads_any_cons s ss (t ∷ ts) = or_skip (same_sort s (kind t)) (among ss (kind t))

-- a piece that begins with one of some sorts
heads_any_pair : (s : Sort) (ss : List Sort) (b : Piece) (ts : List CToken) → heads (one_of s ss ▸ b) ts ≡ heads_any (s ∷ ss) ts
heads_any_pair s ss b [] = refl
heads_any_pair s ss b (t ∷ ts) = or_none (among (s ∷ ss) (kind t))

-- such a token is there
pub heads_any_here : (ss : List Sort) (t : Token) (ts rest : List Token) → ts ≡ t ∷ rest → among ss (kind (token_view t)) ≡ true → heads_any ss (as_seen ts) ≡ true
heads_any_here ss t ts rest e h = ap (λ l. heads_any ss (as_seen l)) e ∙ h

-- such a token is taken
goes_any : (s : Sort) (ss : List Sort) (t : CToken) (ts rest : List CToken) → ts ≡ t ∷ rest → among (s ∷ ss) (kind t) ≡ true → PieceReads (one_of s ss) ts (token t) rest
goes_any s ss t ts rest e h = record { by = λ st vs. subst (λ l. ParserLeads (at l (want (one_of s ss) ∷ st) vs) (at rest st (token t ∷ vs))) (sym e) (go _ (at rest st (token t ∷ vs)) _ (cond_true (among (s ∷ ss) (kind t)) _ _ h) (still _)) }

-- levels

pub production_chain : (l : Level) → chains l ≡ true → production (rule_of l) ≡ the (operand_of l) ▸ many (operation l)
production_chain Disjunction e = refl
production_chain Conjunction e = refl
production_chain Equality e = no_yes e
production_chain Relation e = no_yes e
production_chain Sum e = refl
production_chain Product e = refl

pub production_pair : (l : Level) → chains l ≡ false → production (rule_of l) ≡ the (operand_of l) ▸ maybe (operation l)
production_pair Disjunction e = no_yes (sym e)
production_pair Conjunction e = no_yes (sym e)
production_pair Equality e = refl
production_pair Relation e = refl
production_pair Sum e = no_yes (sym e)
production_pair Product e = no_yes (sym e)

pub level_meaning : (l : Level) (v : SemanticValue) → production_value (rule_of l) v ≡ chain_value v
level_meaning Disjunction v = refl
level_meaning Conjunction v = refl
level_meaning Equality v = refl
level_meaning Relation v = refl
level_meaning Sum v = refl
level_meaning Product v = refl

-- an operator of the level is taken
pub goes_operator : (l : Level) (t : Token) (ts rest : List Token) → ts ≡ t ∷ rest → among (map mark (marks_of l)) (kind (token_view t)) ≡ true → PieceReads (operators l) (as_seen ts) (token (token_view t)) (as_seen rest)
goes_operator Disjunction t ts rest e h = goes_any _ _ (token_view t) (as_seen ts) (as_seen rest) (ap as_seen e) h
goes_operator Conjunction t ts rest e h = goes_any _ _ (token_view t) (as_seen ts) (as_seen rest) (ap as_seen e) h
goes_operator Equality t ts rest e h = goes_any _ _ (token_view t) (as_seen ts) (as_seen rest) (ap as_seen e) h
goes_operator Relation t ts rest e h = goes_any _ _ (token_view t) (as_seen ts) (as_seen rest) (ap as_seen e) h
goes_operator Sum t ts rest e h = goes_any _ _ (token_view t) (as_seen ts) (as_seen rest) (ap as_seen e) h
goes_operator Product t ts rest e h = goes_any _ _ (token_view t) (as_seen ts) (as_seen rest) (ap as_seen e) h

-- whether an operation of the level follows
pub operation_heads : (l : Level) (ts : List CToken) → heads (operation l) ts ≡ heads_any (map mark (marks_of l)) ts
operation_heads Disjunction ts = heads_any_pair (mark Or) [] (the conjunction) ts
operation_heads Conjunction ts = heads_any_pair (mark And) [] (the equality) ts
operation_heads Equality ts = heads_any_pair (mark Equal) (mark NotEqual ∷ []) (the relation) ts
operation_heads Relation ts = heads_any_pair (mark Less) (mark AtMost ∷ mark Greater ∷ mark AtLeast ∷ []) (the sum) ts
operation_heads Sum ts = heads_any_pair (mark Plus) (mark Minus ∷ []) (the product) ts
operation_heads Product ts = heads_any_pair (mark Star) (mark Slash ∷ mark Percent ∷ []) (the unary) ts

-- an operation
pub goes_operation : (l : Level) (t : Token) (ts others : List Token) {rest : List CToken} {v : SemanticValue} → ts ≡ t ∷ others → among (map mark (marks_of l)) (kind (token_view t)) ≡ true
    → PieceReads (the (operand_of l)) (as_seen others) v rest → PieceReads (operation l) (as_seen ts) (pair (token (token_view t)) v) rest
goes_operation l t ts others e h g = goes_both (goes_operator l t ts others e h) g

pub fails_operation : (l : Level) (t : Token) (ts others : List Token) {h : Halt} → ts ≡ t ∷ others → among (map mark (marks_of l)) (kind (token_view t)) ≡ true
    → PieceFails (the (operand_of l)) (as_seen others) h → PieceFails (operation l) (as_seen ts) h
fails_operation l t ts others e h f = fails_right (goes_operator l t ts others e h) f

-- an operator stands next, so an operation follows
pub operation_here : (l : Level) (t : Token) (ts others : List Token) → ts ≡ t ∷ others → among (map mark (marks_of l)) (kind (token_view t)) ≡ true → heads (operation l) (as_seen ts) ≡ true
operation_here l t ts others e h = operation_heads l (as_seen ts) ∙ heads_any_here (map mark (marks_of l)) t ts others e h

-- a chain of operators so far: its first operand, and the operations behind it
pub record ChainSoFar (l : Level) (ts : List Token) (left : Part) (rest : List Token) : Type 0 where
  pub first : SemanticValue
  pub mid : List CToken
  pub operations : SemanticValue
  pub first_goes : PieceReads (the (operand_of l)) (as_seen ts) first mid
  pub on : PieceGoesOn (operation l) mid none (as_seen rest) operations
  pub is : IsPart left (chained first operations)
  pub inside : length rest < length ts

-- a chain with one more operation
pub chain_more : (l : Level) (ts rest others after : List Token) (left right both : Part) (t : Token) (v : SemanticValue) → ChainSoFar l ts left rest → rest ≡ t ∷ others → among (map mark (marks_of l)) (kind (token_view t)) ≡ true
    → PieceReads (the (operand_of l)) (as_seen others) v (as_seen after) → IsPart right v → length after < length others
    → IsPart both (joined (part_value left) (pair (token (token_view t)) (part_value right))) → ChainSoFar l ts both after
chain_more l ts rest others after left right both t v c e h g is inside both_is = record {
  first = c.first;
  mid = c.mid;
  operations = snoc c.operations (pair (token (token_view t)) v);
  first_goes = c.first_goes;
  on = list_item c.on (operation_here l t rest others e h) (goes_operation l t rest others e h g);
  is = ap (λ x. joined x (pair (token (token_view t)) v)) c.is ∙ ap (λ x. joined (part_value left) (pair (token (token_view t)) x)) is ∙ both_is;
  inside = omega (arith, c.inside, shorter t rest others e, inside);
}

-- the chain ends where no operator follows
pub chain_ends : (l : Level) (ts rest : List Token) (left : Part) → ChainSoFar l ts left rest → chains l ≡ true → heads_any (map mark (marks_of l)) (as_seen rest) ≡ false
    → (v : SemanticValue) × PieceReads (the (rule_of l)) (as_seen ts) v (as_seen rest) × IsPart left v × (length rest < length ts)
chain_ends l ts rest left c chain e = (
  production_value (rule_of l) (pair c.first c.operations),
  goes_the (rule_of l) (subst (λ p. PieceReads p (as_seen ts) (pair c.first c.operations) (as_seen rest)) (sym (production_chain l chain)) (goes_both c.first_goes (goes_many c.on (operation_heads l (as_seen rest) ∙ e)))),
  level_meaning l (pair c.first c.operations) ∙ c.is,
  c.inside,
)

-- a right operand cannot be read
pub chain_fails : (l : Level) (ts rest others : List Token) (left : Part) (t : Token) (h : Halt) → ChainSoFar l ts left rest → chains l ≡ true → rest ≡ t ∷ others → among (map mark (marks_of l)) (kind (token_view t)) ≡ true
    → PieceFails (the (operand_of l)) (as_seen others) h → PieceFails (the (rule_of l)) (as_seen ts) h
chain_fails l ts rest others left t h c chain e m f =
    fails_the (rule_of l) (subst (λ p. PieceFails p (as_seen ts) h) (sym (production_chain l chain)) (fails_right c.first_goes (fails_many c.on (operation_here l t rest others e m) (fails_operation l t rest others e m f))))

-- the left operand cannot be read
pub first_fails : (l : Level) (ts : List Token) (h : Halt) → PieceFails (the (operand_of l)) (as_seen ts) h → PieceFails (the (rule_of l)) (as_seen ts) h
first_fails l ts h f = cases (chains l) refl
  where
    cases : (b : Bool) → chains l ≡ b → PieceFails (the (rule_of l)) (as_seen ts) h
    cases true e = fails_the (rule_of l) (subst (λ p. PieceFails p (as_seen ts) h) (sym (production_chain l e)) (fails_left (many (operation l)) f))
    cases false e = fails_the (rule_of l) (subst (λ p. PieceFails p (as_seen ts) h) (sym (production_pair l e)) (fails_left (maybe (operation l)) f))

-- a left operand, and perhaps an operation behind it
pub pair_gives : (l : Level) (ts rest : List Token) (left : Part) (v : SemanticValue) (r : Result (Part × Bor (List Token)) Halt) → chains l ≡ false → PieceReads (the (operand_of l)) (as_seen ts) v (as_seen rest) → IsPart left v → length rest < length ts
    → GivesAny (maybe (operation l)) (λ p w. IsPart p (chained (part_value left) w)) rest r → PieceGives (the (rule_of l)) IsPart ts r
pair_gives l ts rest left v (Ok r) e g is inside a = (
  production_value (rule_of l) (pair v a.0),
  goes_the (rule_of l) (subst (λ p. PieceReads p (as_seen ts) (pair v a.0) (as_seen r.1.now)) (sym (production_pair l e)) (goes_both g a.1)),
  level_meaning l (pair v a.0) ∙ ap (λ x. chained x a.0) is ∙ a.2,
  omega (arith, inside, a.3),
)
pair_gives l ts rest left v (Err h) e g is inside f = fails_the (rule_of l) (subst (λ p. PieceFails p (as_seen ts) h) (sym (production_pair l e)) (fails_right g f))

-- suffixes

-- a primary so far, and the suffixes behind it
pub record SuffixesSoFar (ts : List Token) (left : Part) (rest : List Token) : Type 0 where
  pub first : SemanticValue
  pub mid : List CToken
  pub parts : SemanticValue
  pub first_goes : PieceReads (the primary) (as_seen ts) first mid
  pub on : PieceGoesOn PRIMARY_SUFFIX mid none (as_seen rest) parts
  pub is : IsPart left (suffixes first parts)
  pub inside : length rest < length ts

pub suffixes_more : (ts rest after : List Token) (left longer : Part) (v : SemanticValue) → SuffixesSoFar ts left rest → heads PRIMARY_SUFFIX (as_seen rest) ≡ true → PieceReads PRIMARY_SUFFIX (as_seen rest) v (as_seen after) → IsPart longer (suffixed (part_value left) v)
    → length after < length rest → SuffixesSoFar ts longer after
suffixes_more ts rest after left longer v c h g is inside = record {
  first = c.first;
  mid = c.mid;
  parts = snoc c.parts v;
  first_goes = c.first_goes;
  on = list_item c.on h g;
  is = ap (λ x. suffixed x v) c.is ∙ is;
  inside = omega (arith, c.inside, inside);
}

pub suffixes_end : (ts rest : List Token) (left : Part) → SuffixesSoFar ts left rest → heads PRIMARY_SUFFIX (as_seen rest) ≡ false → (v : SemanticValue) × PieceReads (the postfix) (as_seen ts) v (as_seen rest) × IsPart left v × (length rest < length ts)
suffixes_end ts rest left c h = (suffixes c.first c.parts, goes_the postfix (goes_both c.first_goes (goes_many c.on h)), c.is, c.inside)

pub suffixes_fail : (ts rest : List Token) (left : Part) (h : Halt) → SuffixesSoFar ts left rest → heads PRIMARY_SUFFIX (as_seen rest) ≡ true → PieceFails PRIMARY_SUFFIX (as_seen rest) h → PieceFails (the postfix) (as_seen ts) h
suffixes_fail ts rest left h c e f = fails_the postfix (fails_right c.first_goes (fails_many c.on e f))

-- whether a suffix begins with one of its three marks
pub suffix_heads : (ts : List CToken) → heads PRIMARY_SUFFIX ts ≡ heads_any (mark Dot ∷ mark Arrow ∷ mark OpenBracket ∷ []) ts
suffix_heads [] = refl
suffix_heads (t ∷ ts) = three (same_sort (mark Dot) (kind t)) (same_sort (mark Arrow) (kind t)) (same_sort (mark OpenBracket) (kind t))
  where
    three : (a b c : Bool) → (((a || (b || false)) || false) || ((c || false) || false)) ≡ (a || (b || (c || false)))
    three true b c = refl
    three false true c = refl
    three false false true = refl
    three false false false = refl

not_headed : (a b : Piece) (ts : List CToken) → heads a ts ≡ false → picks a b ts ≡ false
not_headed a b [] h = refl
not_headed a b (t ∷ ts) h = ap (λ x. x && (not (starts b (kind t)) || heads (sign OpenParen) ts)) h

-- an opening bracket picks an element
pub picks_element : (t : Token) (ts rest : List Token) → ts ≡ t ∷ rest → lexeme_view t.lexeme ≡ fixed OpenBracket → picks FIELD ELEMENT (as_seen ts) ≡ false
picks_element t ts rest e h =
    not_headed FIELD ELEMENT (as_seen ts) (ap (λ l. heads FIELD (as_seen l)) e ∙ ap (λ x. starts FIELD (kind (record { lexeme = x; start = t.start; stop = t.end }))) h)

-- where a suffix begins, and with no opening bracket, it is a field
pub field_here : (ts : List CToken) → heads PRIMARY_SUFFIX ts ≡ true → heads (sign OpenBracket) ts ≡ false → heads_any (mark Dot ∷ mark Arrow ∷ []) ts ≡ true
field_here [] h e = no_yes h
field_here (t ∷ ts) h e = two (same_sort (mark Dot) (kind t)) (same_sort (mark Arrow) (kind t)) (same_sort (mark OpenBracket) (kind t) || false) h e
  where
    two : (a b c : Bool) → (((a || (b || false)) || false) || (c || false)) ≡ true → c ≡ false → (a || (b || false)) ≡ true
    two true b c h e = refl
    two false true c h e = refl
    two false false true h e = no_yes (sym e)
    two false false false h e = no_yes h

-- unary expressions

abbrev pub PREFIX : Piece
PREFIX = one_of (mark Minus) (mark Not ∷ mark Star ∷ mark Ampersand ∷ [])

abbrev pub PREFIXED : Piece
PREFIXED = PREFIX ▸ the unary

pub goes_prefix : (t : Token) (ts rest : List Token) → ts ≡ t ∷ rest → among (mark Minus ∷ mark Not ∷ mark Star ∷ mark Ampersand ∷ []) (kind (token_view t)) ≡ true → PieceReads PREFIX (as_seen ts) (token (token_view t)) (as_seen rest)
goes_prefix t ts rest e h = goes_any _ _ (token_view t) (as_seen ts) (as_seen rest) (ap as_seen e) h

pub picks_prefixed : (t : Token) (ts rest : List Token) → ts ≡ t ∷ rest → among (mark Minus ∷ mark Not ∷ mark Star ∷ mark Ampersand ∷ []) (kind (token_view t)) ≡ true → picks PREFIXED (the postfix) (as_seen ts) ≡ true
picks_prefixed t ts rest e h =
    ap (λ l. picks PREFIXED (the postfix) (as_seen l)) e
    ∙ picks_first PREFIXED (the postfix) (token_view t ∷ []) (as_seen rest) refl refl (or_none (among (mark Minus ∷ mark Not ∷ mark Star ∷ mark Ampersand ∷ []) (kind (token_view t))) ∙ h)

pub picks_postfix : (ts : List CToken) → heads_any (mark Minus ∷ mark Not ∷ mark Star ∷ mark Ampersand ∷ []) ts ≡ false → picks PREFIXED (the postfix) ts ≡ false
picks_postfix ts h = not_headed PREFIXED (the postfix) ts (heads_any_pair (mark Minus) (mark Not ∷ mark Star ∷ mark Ampersand ∷ []) (the unary) ts ∙ h)

-- primaries

abbrev pub PARENS : Piece
PARENS = sign OpenParen ▸ EXPR ▸ sign CloseParen

pub picks_parens : (t : Token) (ts rest : List Token) → ts ≡ t ∷ rest → lexeme_view t.lexeme ≡ fixed OpenParen → picks LITERAL PARENS (as_seen ts) ≡ false
picks_parens t ts rest e h =
    not_headed LITERAL PARENS (as_seen ts) (ap (λ l. heads LITERAL (as_seen l)) e ∙ ap (λ x. starts LITERAL (kind (record { lexeme = x; start = t.start; stop = t.end }))) h)

pub picks_literal : (t : CToken) (ts rest : List CToken) → ts ≡ t ∷ rest → among (a_name ∷ a_number ∷ mark True ∷ mark False ∷ mark Null ∷ []) (kind t) ≡ true → picks LITERAL PARENS ts ≡ true
picks_literal t ts rest e h = ap (λ l. picks LITERAL PARENS l) e ∙ picks_first LITERAL PARENS (t ∷ []) rest refl refl h

-- neither a literal nor an opening parenthesis
pub fails_primary : (ts : List Token) → heads LITERAL (as_seen ts) ≡ false → heads (sign OpenParen) (as_seen ts) ≡ false → Refuses (the primary) (as_seen ts) (as_seen ts)
fails_primary ts h e = refuses_the primary (refuses_second LITERAL (not_headed LITERAL PARENS (as_seen ts) h) (refuses_left (EXPR ▸ sign CloseParen) (refuses_one (mark OpenParen) [] (as_seen ts) e)))

-- a literal is a primary
pub literal_gives : (ts : List Token) (r : Result (Part × Bor (List Token)) Halt) → heads (sign OpenParen) (as_seen ts) ≡ false → GivesLiteral (λ p t. IsPart p (primary_value (token t))) ts r → PieceGives (the primary) IsPart ts r
literal_gives ts (Ok r) e g = (
  primary_value (token g.0),
  goes_the primary (goes_first PARENS (picks_literal g.0 (as_seen ts) (as_seen r.1.now) g.1 g.2) (goes_any _ _ g.0 (as_seen ts) (as_seen r.1.now) g.1 g.2)),
  g.3,
  omega (arith, ap length g.1, seen_length ts, seen_length r.1.now),
)
literal_gives ts (Err Memory) e g = no_memory (the primary) (as_seen ts) Memory refl
literal_gives ts (Err (Left n)) e g = fails_by n (fails_primary ts g.0 e) (seen_length ts ∙ g.1)

-- a postfix expression is unary
pub postfix_gives : (ts : List Token) (r : Result (Part × Bor (List Token)) Halt) → heads_any (mark Minus ∷ mark Not ∷ mark Star ∷ mark Ampersand ∷ []) (as_seen ts) ≡ false → PieceGives (the postfix) IsPart ts r → PieceGives (the unary) IsPart ts r
postfix_gives ts (Ok r) e g = (unary_value g.0, goes_the unary (goes_second PREFIXED (picks_postfix (as_seen ts) e) g.1), ap unary_value g.2, g.3)
postfix_gives ts (Err h) e f = fails_the unary (fails_second PREFIXED (picks_postfix (as_seen ts) e) f)

-- a field is picked where a suffix begins without an opening bracket
picks_field_here : (ts : List CToken) → heads PRIMARY_SUFFIX ts ≡ true → heads (sign OpenBracket) ts ≡ false → picks FIELD ELEMENT ts ≡ true
picks_field_here [] h e = no_yes h
picks_field_here (t ∷ ts) h e = picks_first FIELD ELEMENT (t ∷ []) ts refl refl (or_none (among (mark Dot ∷ mark Arrow ∷ []) (kind t)) ∙ field_here (t ∷ ts) h e)

pub field_gives : (left : Part) (ts : List Token) (r : Result (Part × Bor (List Token)) Halt) → heads PRIMARY_SUFFIX (as_seen ts) ≡ true → heads (sign OpenBracket) (as_seen ts) ≡ false
    → PieceGives FIELD (λ p x. IsPart p (suffixed (part_value left) x)) ts r → PieceGives PRIMARY_SUFFIX (λ p x. IsPart p (suffixed (part_value left) x)) ts r
field_gives left ts (Ok r) h e g = (g.0, goes_first ELEMENT (picks_field_here (as_seen ts) h e) g.1, g.2, g.3)
field_gives left ts (Err x) h e f = fails_first ELEMENT (picks_field_here (as_seen ts) h e) f

-- no field
pub fails_field : (ts : List Token) → heads_any (mark Dot ∷ mark Arrow ∷ []) (as_seen ts) ≡ false → PieceFails FIELD (as_seen ts) (Left (length ts))
fails_field ts h = fails_by (length ts) (refuses_left NAME (refuses_one (mark Dot) (mark Arrow ∷ []) (as_seen ts) (any_heads (mark Dot) (mark Arrow ∷ []) (as_seen ts) ∙ h))) (seen_length ts)
  where
    any_heads : (s : Sort) (ss : List Sort) (l : List CToken) → heads (one_of s ss) l ≡ heads_any (s ∷ ss) l
    any_heads s ss [] = refl
    any_heads s ss (t ∷ l) = refl

pub goes_field : (t : Token) (ts rest : List Token) → ts ≡ t ∷ rest → among (mark Dot ∷ mark Arrow ∷ []) (kind (token_view t)) ≡ true → PieceReads (one_of (mark Dot) (mark Arrow ∷ [])) (as_seen ts) (token (token_view t)) (as_seen rest)
goes_field t ts rest e h = goes_any _ _ (token_view t) (as_seen ts) (as_seen rest) (ap as_seen e) h
