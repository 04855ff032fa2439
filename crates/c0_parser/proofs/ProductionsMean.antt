-- What each production means: an expression, a type, a declaration, a block, a statement or a body. So no part of a source means nothing.
use Rattle.std.specs.Prelude.{List}
use Rattle.c0_tokens.specs.declared.token.Mark.TheVariants.{Else}
use Rattle.c0_tokens.specs.Tokens.{CToken}
use Rattle.c0_tree.specs.declared.tree.Span.{Span}
use Rattle.c0_tree.specs.Tree.{CExpr}
use Rattle.c0_parser.specs.Sorts.{Sort}
use Rattle.c0_parser.specs.Value.{SemanticValue, token, pair, none, snoc, expr, type, decl, stmt, block, body, suffixed, suffixes, joined, chained, unary_value, primary_value, base_value, type_suffixed, type_suffixes, decl_of, stored, choice_value, statement_value, code_value, body_value}
use Rattle.c0_parser.specs.Grammar.{Rule, Piece, one_of, sign, ◌▸◌, ◌or◌, many, maybe, the, production, production_value, NAME, EXPR, RIGHT, BASE, SUFFIX, SUFFIXES, Derives}
use Rattle.c0_parser.specs.Grammar as grammar

-- that a value is an expression, a type, a declaration, a block, a statement or a body
abbrev pub IsAnExpr : SemanticValue → Type 0
IsAnExpr (expr s e) = Unit {0}
IsAnExpr _ = ⊥

abbrev pub IsAType : SemanticValue → Type 0
IsAType (type s t) = Unit {0}
IsAType _ = ⊥

abbrev pub IsADecl : SemanticValue → Type 0
IsADecl (decl d) = Unit {0}
IsADecl _ = ⊥

abbrev pub IsABlock : SemanticValue → Type 0
IsABlock (block s ss) = Unit {0}
IsABlock _ = ⊥

abbrev pub IsAStmt : SemanticValue → Type 0
IsAStmt (stmt s) = Unit {0}
IsAStmt _ = ⊥

abbrev pub IsABody : SemanticValue → Type 0
IsABody (body b) = Unit {0}
IsABody _ = ⊥

-- that a value is what a production means
abbrev pub IsMeaningOf : Rule → SemanticValue → Type 0
IsMeaningOf grammar.type v = IsAType v
IsMeaningOf grammar.decl v = IsADecl v
IsMeaningOf grammar.block v = IsABlock v
IsMeaningOf grammar.statement v = IsAStmt v
IsMeaningOf grammar.code v = IsABody v
IsMeaningOf grammar.body v = IsABody v
IsMeaningOf _ v = IsAnExpr v

-- that a value is what a piece means
data Shaped : Piece → SemanticValue → Type 0 where
  taken : (s : Sort) (ss : List Sort) (t : CToken) → Shaped (one_of s ss) (token t)
  both : {a b : Piece} {v w : SemanticValue} → Shaped a v → Shaped b w → Shaped (a ▸ b) (pair v w)
  first : {a b : Piece} {v : SemanticValue} → Shaped a v → Shaped (a or b) v
  second : {a b : Piece} {v : SemanticValue} → Shaped b v → Shaped (a or b) v
  no_more : {a : Piece} → Shaped (many a) none
  one_more : {a : Piece} {v w : SemanticValue} → Shaped (many a) v → Shaped a w → Shaped (many a) (snoc v w)
  left_out : {a : Piece} → Shaped (maybe a) none
  there : {a : Piece} {v : SemanticValue} → Shaped a v → Shaped (maybe a) (snoc none v)
  made : (r : Rule) (v : SemanticValue) → IsMeaningOf r v → Shaped (the r) v

-- a part that may be left out is a list
as_list : {a : Piece} {v : SemanticValue} → Shaped (maybe a) v → Shaped (many a) v
as_list left_out = no_more
as_list (there d) = one_more no_more d

-- chains of operators
joined_is : (v w : SemanticValue) (t : CToken) → IsAnExpr v → IsAnExpr w → IsAnExpr (joined v (pair (token t) w))
joined_is (expr s e) (expr r f) t h k = tt
joined_is (expr s e) _ t h k = absurd k
joined_is _ w t h k = absurd h

chained_is : (b : Rule) {s : Sort} {ss : List Sort} {l : SemanticValue} (v : SemanticValue) → ((w : SemanticValue) → IsMeaningOf b w → IsAnExpr w) → IsAnExpr v → Shaped (many (one_of s ss ▸ the b)) l → IsAnExpr (chained v l)
chained_is b v f h no_more = h
chained_is b v f h (one_more {v = l} d (both (taken _ _ t) (made _ w k))) = joined_is (chained v l) w t (chained_is b v f h d) (f w k)

-- fields and elements
suffixed_is : {s q p o : Sort} {ss qq pp oo : List Sort} {w : SemanticValue} (v : SemanticValue) → IsAnExpr v → Shaped (one_of s ss ▸ one_of q qq or one_of p pp ▸ EXPR ▸ one_of o oo) w → IsAnExpr (suffixed v w)
suffixed_is (expr s e) h (first (both (taken _ _ t) (taken _ _ x))) = tt
suffixed_is (expr s e) h (second (both (taken _ _ t) (both (made _ (expr r i) k) (taken _ _ c)))) = tt
suffixed_is (expr s e) h (second (both (taken _ _ t) (both (made _ _ k) (taken _ _ c)))) = absurd k
suffixed_is _ h d = absurd h

suffixes_is : {s q p o : Sort} {ss qq pp oo : List Sort} {l : SemanticValue} (v : SemanticValue) → IsAnExpr v → Shaped (many (one_of s ss ▸ one_of q qq or one_of p pp ▸ EXPR ▸ one_of o oo)) l → IsAnExpr (suffixes v l)
suffixes_is v h no_more = h
suffixes_is v h (one_more {v = l} d e) = suffixed_is (suffixes v l) (suffixes_is v h d) e

unary_is : {v : SemanticValue} → Shaped (production grammar.unary) v → IsAnExpr (unary_value v)
unary_is (first (both (taken _ _ t) (made _ (expr s e) h))) = tt
unary_is (first (both (taken _ _ t) (made _ _ h))) = absurd h
unary_is (second (made _ (expr s e) h)) = tt
unary_is (second (made _ _ h)) = absurd h

primary_is : {v : SemanticValue} → Shaped (production grammar.primary) v → IsAnExpr (primary_value v)
primary_is (first (taken _ _ t)) = tt
primary_is (second (both (taken _ _ t) (both (made _ (expr s e) h) (taken _ _ c)))) = tt
primary_is (second (both (taken _ _ t) (both (made _ _ h) (taken _ _ c)))) = absurd h

-- types and declarations
base_is : {v : SemanticValue} → Shaped BASE v → IsAType (base_value v)
base_is (first (taken _ _ t)) = tt
base_is (second (both (taken _ _ t) (taken _ _ x))) = tt

type_suffixed_is : {w : SemanticValue} (v : SemanticValue) → IsAType v → Shaped SUFFIX w → IsAType (type_suffixed v w)
type_suffixed_is (type s t) h (first (taken _ _ x)) = tt
type_suffixed_is (type s t) h (second (both (taken _ _ x) (both (taken _ _ n) (taken _ _ c)))) = tt
type_suffixed_is _ h d = absurd h

type_suffixes_are : {l : SemanticValue} (v : SemanticValue) → IsAType v → Shaped SUFFIXES l → IsAType (type_suffixes v l)
type_suffixes_are v h no_more = h
type_suffixes_are v h (one_more {v = l} d e) = type_suffixed_is (type_suffixes v l) (type_suffixes_are v h d) e

decl_of_is : (t : SemanticValue) (x : CToken) → IsAType t → IsADecl (decl_of t x)
decl_of_is (type s t) x h = tt
decl_of_is _ x h = absurd h

-- statements
stored_is : (s : Span) (p : CExpr) {v : SemanticValue} → Shaped RIGHT v → IsAStmt (stored s p v)
stored_is s p (first (both (taken _ _ t) (made _ (type r ty) h))) = tt
stored_is s p (first (both (taken _ _ t) (made _ _ h))) = absurd h
stored_is s p (second (first (both (taken _ _ x) (both (taken _ _ o) (both d (taken _ _ c)))))) = tt
stored_is s p (second (second (made _ (expr r e) h))) = tt
stored_is s p (second (second (made _ _ h))) = absurd h

chosen_is : (t : CToken) (e : CExpr) (v : SemanticValue) {w : SemanticValue} → IsABlock v → Shaped (maybe (sign Else ▸ the grammar.block)) w → IsAStmt (choice_value t e (pair v w))
chosen_is t e (block s a) h left_out = tt
chosen_is t e (block s a) h (there (both (taken _ _ x) (made _ (block r b) k))) = tt
chosen_is t e (block s a) h (there (both (taken _ _ x) (made _ _ k))) = absurd k
chosen_is t e _ h d = absurd h

loop_is : (t : CToken) (e : CExpr) (v : SemanticValue) → IsABlock v → IsAStmt (choice_value t e v)
loop_is t e (block s a) h = tt
loop_is t e _ h = absurd h

statement_is : {v : SemanticValue} → Shaped (production grammar.statement) v → IsAStmt (statement_value v)
statement_is (first (both (made _ (expr s p) h) (both (taken _ _ t) (both d (taken _ _ x))))) = stored_is _ p d
statement_is (first (both (made _ _ h) (both (taken _ _ t) (both d (taken _ _ x))))) = absurd h
statement_is (second (first (both (taken _ _ t) (both (taken _ _ o) (both (made _ (expr s e) h) (both (taken _ _ c) (both (made _ b k) d))))))) = chosen_is t e b k d
statement_is (second (first (both (taken _ _ t) (both (taken _ _ o) (both (made _ _ h) (both (taken _ _ c) (both (made _ _ k) d))))))) = absurd h
statement_is (second (second (both (taken _ _ t) (both (taken _ _ o) (both (made _ (expr s e) h) (both (taken _ _ c) (made _ v k))))))) = loop_is t e v k
statement_is (second (second (both (taken _ _ t) (both (taken _ _ o) (both (made _ _ h) (both (taken _ _ c) (made _ v k))))))) = absurd h

-- bodies
code_is : {v : SemanticValue} → Shaped (production grammar.code) v → IsABody (code_value v)
code_is (both (taken _ _ o) (both l (both d (both (taken _ _ t) (both (made _ (expr s e) h) (both (taken _ _ x) (taken _ _ c))))))) = tt
code_is (both (taken _ _ o) (both l (both d (both (taken _ _ t) (both (made _ _ h) (both (taken _ _ x) (taken _ _ c))))))) = absurd h

body_is : {v : SemanticValue} → Shaped (production grammar.body) v → IsABody (body_value v)
body_is (first (made _ (body b) h)) = tt
body_is (first (made _ _ h)) = absurd h
body_is (second (both (taken _ _ t) (taken _ _ x))) = tt

meaning_is : (r : Rule) {v : SemanticValue} → Shaped (production r) v → IsMeaningOf r (production_value r v)
meaning_is grammar.disjunction (both (made _ v h) d) = chained_is grammar.conjunction v (λ w k. k) h d
meaning_is grammar.conjunction (both (made _ v h) d) = chained_is grammar.equality v (λ w k. k) h d
meaning_is grammar.equality (both (made _ v h) d) = chained_is grammar.relation v (λ w k. k) h (as_list d)
meaning_is grammar.relation (both (made _ v h) d) = chained_is grammar.sum v (λ w k. k) h (as_list d)
meaning_is grammar.sum (both (made _ v h) d) = chained_is grammar.product v (λ w k. k) h d
meaning_is grammar.product (both (made _ v h) d) = chained_is grammar.unary v (λ w k. k) h d
meaning_is grammar.unary d = unary_is d
meaning_is grammar.postfix (both (made _ v h) d) = suffixes_is v h d
meaning_is grammar.primary d = primary_is d
meaning_is grammar.type (both {v = b} d e) = type_suffixes_are (base_value b) (base_is d) e
meaning_is grammar.decl (both (made _ t h) (taken _ _ x)) = decl_of_is t x h
meaning_is grammar.block (both (taken _ _ o) (both d (taken _ _ c))) = tt
meaning_is grammar.statement d = statement_is d
meaning_is grammar.code d = code_is d
meaning_is grammar.body d = body_is d

shaped : {p : Piece} {xs : List CToken} {v : SemanticValue} → Derives p xs v → Shaped p v
shaped (grammar.taken s ss t h) = taken s ss t
shaped (grammar.both d e) = both (shaped d) (shaped e)
shaped (grammar.first d) = first (shaped d)
shaped (grammar.second d) = second (shaped d)
shaped grammar.no_more = no_more
shaped (grammar.one_more d e) = one_more (shaped d) (shaped e)
shaped grammar.left_out = left_out
shaped (grammar.there d) = there (shaped d)
shaped (grammar.made r {v = v} d) = made r (production_value r v) (meaning_is r (shaped d))

meant : {r : Rule} {v : SemanticValue} → Shaped (the r) v → IsMeaningOf r v
meant (made r v h) = h

-- what a production derives is what it means
pub means : (r : Rule) {xs : List CToken} {v : SemanticValue} → Derives (the r) xs v → IsMeaningOf r v
means r d = meant (shaped d)
