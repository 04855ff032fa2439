-- Which tokens may follow a piece without ending it, and the checks of the whole grammar that let one token decide.
use Rattle.std.proofs.Common.{◌≡◌, ℕ, List, [], ◌∷◌, refl, sym, ap, subst}
use Rattle.std.specs.Prelude.{Bool, true, false, not, ◌&&◌, ◌||◌}
use Rattle.std.specs.List.{list_all}
use Rattle.c0_tokens.specs.declared.token.Mark.{Mark}
use Rattle.c0_tokens.specs.declared.token.Mark.TheVariants.{Int, Bool as Boolean, Struct, If, Else, While, Return, New, True, False, Null, Asm, OpenBrace, CloseBrace, OpenParen, CloseParen, OpenBracket, CloseBracket, Semicolon, Comma, Dot, Arrow, Assign, Equal, NotEqual, Less, AtMost, Greater, AtLeast, Plus, Minus, Star, Slash, Percent, Not, Ampersand, And, Or}
use Rattle.c0_tokens.specs.Tokens.{CLexeme, CToken, name, fixed}
use Rattle.c0_parser.specs.Sorts.{Sort, mark, a_name, a_number, an_asm_text, the_end, a_fault, sort, same_mark, same_sort, among}
use Rattle.c0_parser.specs.Grammar.{Rule, disjunction, conjunction, equality, relation, sum, product, unary, postfix, primary, type, decl, block, statement, code, body, Piece, one_of, ◌▸◌, ◌or◌, many, maybe, the, production}
use Rattle.c0_parser.specs.Machine.{kind, nullable, starts, rule_starts}
use Rattle.c0_parser.specs.Factored.{SOURCE}

abbrev postfix_on : List Sort
postfix_on = mark Dot ∷ mark Arrow ∷ mark OpenBracket ∷ []

abbrev product_on : List Sort
product_on = mark Star ∷ mark Slash ∷ mark Percent ∷ postfix_on

abbrev sum_on : List Sort
sum_on = mark Plus ∷ mark Minus ∷ product_on

abbrev relation_on : List Sort
relation_on = mark Less ∷ mark AtMost ∷ mark Greater ∷ mark AtLeast ∷ sum_on

abbrev equality_on : List Sort
equality_on = mark Equal ∷ mark NotEqual ∷ relation_on

-- the sorts that go on with a production that could end; `(` would make a call of an expression
abbrev pub rule_on : Rule → List Sort
rule_on disjunction = mark OpenParen ∷ mark Or ∷ mark And ∷ equality_on
rule_on conjunction = mark And ∷ equality_on
rule_on equality = equality_on
rule_on relation = relation_on
rule_on sum = sum_on
rule_on product = product_on
rule_on unary = postfix_on
rule_on postfix = postfix_on
rule_on primary = []
rule_on type = mark Star ∷ mark OpenBracket ∷ []
rule_on decl = []
rule_on block = []
rule_on statement = mark Else ∷ []
rule_on code = []
rule_on body = []

-- whether a token of this sort goes on with a piece that could end before it
abbrev pub goes_on : Piece → Sort → Bool
goes_on (one_of s ss) k = false
goes_on (a ▸ b) k = goes_on b k || (nullable b && goes_on a k)
goes_on (a or b) k = goes_on a k || goes_on b k
goes_on (many a) k = starts a k || goes_on a k
goes_on (maybe a) k = starts a k || goes_on a k
goes_on (the r) k = among (rule_on r) k

-- all sorts of tokens
abbrev all_sorts : List Sort
all_sorts = a_name ∷ a_number ∷ an_asm_text ∷ the_end ∷ a_fault ∷ mark Int ∷ mark Boolean ∷ mark Struct ∷ mark If ∷ mark Else ∷ mark While ∷ mark Return ∷ mark New ∷ mark True ∷ mark False ∷ mark Null ∷ mark Asm ∷ mark OpenBrace ∷ mark CloseBrace ∷ mark OpenParen ∷ mark CloseParen ∷ mark OpenBracket ∷ mark CloseBracket ∷ mark Semicolon ∷ mark Comma ∷ mark Dot ∷ mark Arrow ∷ mark Assign ∷ mark Equal ∷ mark NotEqual ∷ mark Less ∷ mark AtMost ∷ mark Greater ∷ mark AtLeast ∷ mark Plus ∷ mark Minus ∷ mark Star ∷ mark Slash ∷ mark Percent ∷ mark Not ∷ mark Ampersand ∷ mark And ∷ mark Or ∷ []

-- whether no sort passes both tests
abbrev pub apart : (Sort → Bool) → (Sort → Bool) → Bool
apart f g = list_all (λ k. not (f k && g k)) all_sorts

-- whether each sort that passes the first test passes the second
abbrev pub within : (Sort → Bool) → (Sort → Bool) → Bool
within f g = list_all (λ k. not (f k) || g k) all_sorts

-- a call and an expression, which both can begin with a name
abbrev pub call_or_expr : Piece → Piece → Bool
call_or_expr (one_of a_name [] ▸ one_of (mark OpenParen) [] ▸ c) (the disjunction) = true
call_or_expr _ _ = false

-- whether one token decides at each place of a piece, but for a call
abbrev pub good : Piece → Bool
good (one_of s ss) = true
good (a ▸ b) = good a && (good b && apart (starts b) (goes_on a))
good (a or b) = good a && (good b && (not (nullable a) && (not (nullable b) && (apart (starts a) (starts b) || call_or_expr a b))))
good (many a) = good a && (not (nullable a) && apart (starts a) (goes_on a))
good (maybe a) = good a && not (nullable a)
good (the r) = true

pub all_good : (r : Rule) → good (production r) ≡ true
all_good disjunction = refl
all_good conjunction = refl
all_good equality = refl
all_good relation = refl
all_good sum = refl
all_good product = refl
all_good unary = refl
all_good postfix = refl
all_good primary = refl
all_good type = refl
all_good decl = refl
all_good block = refl
all_good statement = refl
all_good code = refl
all_good body = refl

pub source_good : good SOURCE ≡ true
source_good = refl

pub all_start : (r : Rule) → within (starts (production r)) (among (rule_starts r)) ≡ true
all_start disjunction = refl
all_start conjunction = refl
all_start equality = refl
all_start relation = refl
all_start sum = refl
all_start product = refl
all_start unary = refl
all_start postfix = refl
all_start primary = refl
all_start type = refl
all_start decl = refl
all_start block = refl
all_start statement = refl
all_start code = refl
all_start body = refl

pub none_nullable : (r : Rule) → nullable (production r) ≡ false
none_nullable disjunction = refl
none_nullable conjunction = refl
none_nullable equality = refl
none_nullable relation = refl
none_nullable sum = refl
none_nullable product = refl
none_nullable unary = refl
none_nullable postfix = refl
none_nullable primary = refl
none_nullable type = refl
none_nullable decl = refl
none_nullable block = refl
none_nullable statement = refl
none_nullable code = refl
none_nullable body = refl

pub all_on : (r : Rule) → within (goes_on (production r)) (among (rule_on r)) ≡ true
all_on disjunction = refl
all_on conjunction = refl
all_on equality = refl
all_on relation = refl
all_on sum = refl
all_on product = refl
all_on unary = refl
all_on postfix = refl
all_on primary = refl
all_on type = refl
all_on decl = refl
all_on block = refl
all_on statement = refl
all_on code = refl
all_on body = refl

pub no_yes : {A : Type 0} → false ≡ true → A
no_yes e = absurd (cc_of e)
  where
    cc_of : false ≡ true → ⊥
    cc_of e = cc

same_mark_refl : (m : Mark) → same_mark m m ≡ true
same_mark_refl Int = refl
same_mark_refl Boolean = refl
same_mark_refl Struct = refl
same_mark_refl If = refl
same_mark_refl Else = refl
same_mark_refl While = refl
same_mark_refl Return = refl
same_mark_refl New = refl
same_mark_refl True = refl
same_mark_refl False = refl
same_mark_refl Null = refl
same_mark_refl Asm = refl
same_mark_refl OpenBrace = refl
same_mark_refl CloseBrace = refl
same_mark_refl OpenParen = refl
same_mark_refl CloseParen = refl
same_mark_refl OpenBracket = refl
same_mark_refl CloseBracket = refl
same_mark_refl Semicolon = refl
same_mark_refl Comma = refl
same_mark_refl Dot = refl
same_mark_refl Arrow = refl
same_mark_refl Assign = refl
same_mark_refl Equal = refl
same_mark_refl NotEqual = refl
same_mark_refl Less = refl
same_mark_refl AtMost = refl
same_mark_refl Greater = refl
same_mark_refl AtLeast = refl
same_mark_refl Plus = refl
same_mark_refl Minus = refl
same_mark_refl Star = refl
same_mark_refl Slash = refl
same_mark_refl Percent = refl
same_mark_refl Not = refl
same_mark_refl Ampersand = refl
same_mark_refl And = refl
same_mark_refl Or = refl

same_mark_true : (m n : Mark) → same_mark m n ≡ true → m ≡ n
same_mark_true Int Int e = refl
same_mark_true Boolean Boolean e = refl
same_mark_true Struct Struct e = refl
same_mark_true If If e = refl
same_mark_true Else Else e = refl
same_mark_true While While e = refl
same_mark_true Return Return e = refl
same_mark_true New New e = refl
same_mark_true True True e = refl
same_mark_true False False e = refl
same_mark_true Null Null e = refl
same_mark_true Asm Asm e = refl
same_mark_true OpenBrace OpenBrace e = refl
same_mark_true CloseBrace CloseBrace e = refl
same_mark_true OpenParen OpenParen e = refl
same_mark_true CloseParen CloseParen e = refl
same_mark_true OpenBracket OpenBracket e = refl
same_mark_true CloseBracket CloseBracket e = refl
same_mark_true Semicolon Semicolon e = refl
same_mark_true Comma Comma e = refl
same_mark_true Dot Dot e = refl
same_mark_true Arrow Arrow e = refl
same_mark_true Assign Assign e = refl
same_mark_true Equal Equal e = refl
same_mark_true NotEqual NotEqual e = refl
same_mark_true Less Less e = refl
same_mark_true AtMost AtMost e = refl
same_mark_true Greater Greater e = refl
same_mark_true AtLeast AtLeast e = refl
same_mark_true Plus Plus e = refl
same_mark_true Minus Minus e = refl
same_mark_true Star Star e = refl
same_mark_true Slash Slash e = refl
same_mark_true Percent Percent e = refl
same_mark_true Not Not e = refl
same_mark_true Ampersand Ampersand e = refl
same_mark_true And And e = refl
same_mark_true Or Or e = refl
same_mark_true _ _ e = no_yes e

pub same_sort_refl : (s : Sort) → same_sort s s ≡ true
same_sort_refl (mark m) = same_mark_refl m
same_sort_refl a_name = refl
same_sort_refl a_number = refl
same_sort_refl an_asm_text = refl
same_sort_refl the_end = refl
same_sort_refl a_fault = refl

pub same_sort_true : (s x : Sort) → same_sort s x ≡ true → s ≡ x
same_sort_true (mark m) (mark n) e = ap mark (same_mark_true m n e)
same_sort_true a_name a_name e = refl
same_sort_true a_number a_number e = refl
same_sort_true an_asm_text an_asm_text e = refl
same_sort_true the_end the_end e = refl
same_sort_true a_fault a_fault e = refl
same_sort_true _ _ e = no_yes e

-- each sort is among all sorts
mark_listed : (m : Mark) → among all_sorts (mark m) ≡ true
mark_listed Int = refl
mark_listed Boolean = refl
mark_listed Struct = refl
mark_listed If = refl
mark_listed Else = refl
mark_listed While = refl
mark_listed Return = refl
mark_listed New = refl
mark_listed True = refl
mark_listed False = refl
mark_listed Null = refl
mark_listed Asm = refl
mark_listed OpenBrace = refl
mark_listed CloseBrace = refl
mark_listed OpenParen = refl
mark_listed CloseParen = refl
mark_listed OpenBracket = refl
mark_listed CloseBracket = refl
mark_listed Semicolon = refl
mark_listed Comma = refl
mark_listed Dot = refl
mark_listed Arrow = refl
mark_listed Assign = refl
mark_listed Equal = refl
mark_listed NotEqual = refl
mark_listed Less = refl
mark_listed AtMost = refl
mark_listed Greater = refl
mark_listed AtLeast = refl
mark_listed Plus = refl
mark_listed Minus = refl
mark_listed Star = refl
mark_listed Slash = refl
mark_listed Percent = refl
mark_listed Not = refl
mark_listed Ampersand = refl
mark_listed And = refl
mark_listed Or = refl

sort_listed : (s : Sort) → among all_sorts s ≡ true
sort_listed (mark m) = mark_listed m
sort_listed a_name = refl
sort_listed a_number = refl
sort_listed an_asm_text = refl
sort_listed the_end = refl
sort_listed a_fault = refl

pub and_left : (a b : Bool) → (a && b) ≡ true → a ≡ true
and_left true b e = refl
and_left false b e = e

pub and_right : (a b : Bool) → (a && b) ≡ true → b ≡ true
and_right true b e = e
and_right false b e = cc

-- what holds of each of a list holds of one among them
holds_at : (f : Sort → Bool) (s x : Sort) (ss : List Sort) (b : Bool) → same_sort s x ≡ b → (f s && list_all f ss) ≡ true → (among ss x ≡ true → f x ≡ true) → (b || among ss x) ≡ true → f x ≡ true
holds_at f s x ss true e h g m = subst (λ y. f y ≡ true) (same_sort_true s x e) (and_left (f s) (list_all f ss) h)
holds_at f s x ss false e h g m = g m

holds_among : (f : Sort → Bool) (x : Sort) (ss : List Sort) → list_all f ss ≡ true → among ss x ≡ true → f x ≡ true
holds_among f x [] h m = no_yes m
holds_among f x (s ∷ ss) h m = holds_at f s x ss (same_sort s x) refl h (holds_among f x ss (and_right (f s) (list_all f ss) h)) m

nand : (a b : Bool) → not (a && b) ≡ true → a ≡ true → b ≡ false
nand true true h e = sym h
nand true false h e = refl
nand false b h e = cc

implies : (a b : Bool) → (not a || b) ≡ true → a ≡ true → b ≡ true
implies true b h e = h
implies false b h e = cc

-- a token that passes the first of two tests that no sort passes together fails the second
pub apart_at : (f g : Sort → Bool) (t : CToken) → apart f g ≡ true → f (kind t) ≡ true → g (kind t) ≡ false
apart_at f g t h e = nand (f (kind t)) (g (kind t)) (holds_among (λ k. not (f k && g k)) (kind t) all_sorts h (sort_listed (kind t))) e

pub within_at : (f g : Sort → Bool) (t : CToken) → within f g ≡ true → f (kind t) ≡ true → g (kind t) ≡ true
within_at f g t h e = implies (f (kind t)) (g (kind t)) (holds_among (λ k. not (f k) || g k) (kind t) all_sorts h (sort_listed (kind t))) e

pub or_false : (a : Bool) → (a || false) ≡ true → a ≡ true
or_false true e = refl
or_false false e = e

-- a token of the sort of names is a name
pub is_name : (l : CLexeme) → among (a_name ∷ []) (sort l) ≡ true → (text : List ℕ) × (l ≡ name text)
is_name (name text) e = (text, refl)
is_name _ e = no_yes e

-- a token of a mark's sort is that mark
pub is_mark : (m : Mark) (l : CLexeme) → among (mark m ∷ []) (sort l) ≡ true → l ≡ fixed m
is_mark m (fixed n) e = ap fixed (sym (same_mark_true m n (or_false (same_mark m n) e)))
is_mark m _ e = no_yes e
