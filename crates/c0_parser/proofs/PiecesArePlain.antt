-- The meaning of each piece is plain where its tokens are: numbers are small and no list is long. The value of a piece tells that by
-- itself, so no lemma has a case on a production.
use Rattle.std.proofs.Common.{◌≡◌, ℕ, ◌+◌, ◌^◌, ◌≤◌, Bool, true, ◌&&◌, nat_lt, List, [], ◌∷◌, ◌++◌, length, refl, ap, ◌∙◌, arith, length-append}
use Rattle.std.specs.List.{list_all}
use Rattle.std.proofs.lemmas.Bool.{and_from, and_parts, lt-ltb, le-leb}
use Rattle.c0_tokens.specs.declared.token.Mark.TheVariants.{True, False, Dot, Minus, Star, Not}
use Rattle.c0_tokens.specs.Tokens.{CLexeme, CToken, name, number, fixed}
use Rattle.c0_tokens.specs.Order.{NumberFits}
use Rattle.c0_tree.specs.declared.tree.Span.{Span}
use Rattle.c0_tree.specs.Tree.{CExpr, CName, CStmt, CDecl, CStruct, CFunction}
use Rattle.c0_tree.specs.View.{stmts_of}
use Rattle.c0_tree.specs.Plain.{is_plain_expr, is_nonempty, is_short, is_plain_struct, stmts_length, is_plain_stmt, are_plain_stmts, is_plain_body, is_plain}
use Rattle.c0_parser.specs.Value.{SemanticValue, token, pair, none, snoc, expr, type, decl, stmt, block, body, a_struct, a_global, a_function, lexeme_text, literal, primary_value, part_of, suffixed, suffixes, postfix_value, prefixed, unary_value, joined, chained, chain_value, base_value, type_suffixed, type_suffixes, type_value, decl_of, decl_value, decls_in, decls, decls_from, exprs_in, exprs, args_of, stmts_in, stmts, block_value, stored, choice_value, statement_value, code_value, body_value, parsed_params, defined, struct_of, item_value, structs_of_value, globals_of_value, functions_of_value, structs, globals, functions, parsed_unit}
use Rattle.c0_parser.proofs.PlainTexts.{TextFits}

-- a token's number is small, and its text is no longer than a source
abbrev pub IsSmall : CLexeme → Type 0
IsSmall l = NumberFits l × TextFits 1048576 l

-- how many parts a list has
abbrev pub parts : SemanticValue → ℕ
parts (snoc l x) = parts l + 1
parts _ = 0

-- a struct's fields are few; so are a function's parameters, and its body is plain
abbrev has_few_fields : CStruct → Bool
has_few_fields s = is_short s.fields

abbrev is_plain_function : CFunction → Bool
is_plain_function f = is_short f.params && is_plain_body f.body

-- that a value is plain: its tokens are small, each list in it has no more parts than a source has tokens, and so on
abbrev pub Plain : SemanticValue → Type 0
Plain (token t) = IsSmall t.lexeme
Plain (pair a b) = Plain a × Plain b
Plain (snoc l x) = (parts l + 1 ≤ 1048577) × Plain l × Plain x
Plain (expr s e) = is_plain_expr e ≡ true
Plain (stmt s) = is_plain_stmt s ≡ true
Plain (block s b) = (nat_lt (stmts_length b) (2 ^ 32) ≡ true) × (are_plain_stmts b ≡ true)
Plain (body b) = is_plain_body b ≡ true
Plain (a_struct s) = has_few_fields s ≡ true
Plain (a_function f) = is_plain_function f ≡ true
Plain _ = Unit {0}

-- a list of so few parts, each of which passes a test
abbrev Passes : {A : Type 0} → (A → Bool) → ℕ → List A → Type 0
Passes test n xs = (length xs ≤ n) × (list_all test xs ≡ true)

-- any declaration passes
abbrev any : CDecl → Bool
any d = true

nothing : {A : Type 0} (test : A → Bool) (n : ℕ) → Passes test n []
nothing test n = (omega arith, refl)

only : {A : Type 0} (test : A → Bool) (x : A) → test x ≡ true → Passes test 1 (x ∷ [])
only test x h = (omega arith, and_from (test x) true h refl)

pub all_append : {A : Type 0} (test : A → Bool) (xs ys : List A) → list_all test xs ≡ true → list_all test ys ≡ true → list_all test (xs ++ ys) ≡ true
all_append test [] ys h k = k
all_append test (x ∷ xs) ys h k =
    let p = and_parts (test x) (list_all test xs) h in
    and_from (test x) (list_all test (xs ++ ys)) p.0 (all_append test xs ys p.1 k)

passes_append : {A : Type 0} (test : A → Bool) (n m : ℕ) (xs ys : List A) → Passes test n xs → Passes test m ys → Passes test (n + m) (xs ++ ys)
passes_append test n m xs ys h k = (omega (arith, length-append xs ys), all_append test xs ys h.1 k.1)

parts_few : (v : SemanticValue) → Plain v → parts v ≤ 1048577
parts_few (snoc l x) h = h.0
parts_few _ h = omega arith

-- what passes in so few parts as a plain value has passes
few : {A : Type 0} (test : A → Bool) (v : SemanticValue) (xs : List A) → Plain v → Passes test (parts v) xs → Passes test 1048577 xs
few test v xs h k = let p = parts_few v h in (omega arith, k.1)

short : {A : Type 0} (xs : List A) → length xs ≤ 1048578 → is_short xs ≡ true
short xs h = lt-ltb (length xs) (2 ^ 32) (omega arith)

-- expressions
literal_plain : (t : CToken) (l : CLexeme) → NumberFits l → is_plain_expr (literal t l) ≡ true
literal_plain t (number value) h = le-leb value 2147483647 h
literal_plain t (name text) h = refl
literal_plain t (fixed True) h = refl
literal_plain t (fixed False) h = refl
literal_plain t _ h = refl

pub primary_plain : (v : SemanticValue) → Plain v → Plain (primary_value v)
primary_plain (token t) h = literal_plain t t.lexeme h.0
primary_plain (pair (token open_) (pair (expr s e) (token close))) h = h.1.0
primary_plain _ h = tt

part_plain : (l : CLexeme) (s : Span) (e : CExpr) (x : CName) → is_plain_expr e ≡ true → is_plain_expr (part_of l s e x) ≡ true
part_plain (fixed Dot) s e x h = h
part_plain _ s e x h = h

suffixed_plain : (v x : SemanticValue) → Plain v → Plain x → Plain (suffixed v x)
suffixed_plain (expr s e) (pair (token t) (token x)) h k = part_plain t.lexeme _ e _ h
suffixed_plain (expr s e) (pair (token open_) (pair (expr inner i) (token close))) h k = and_from (is_plain_expr e) (is_plain_expr i) h k.1.0
suffixed_plain _ _ h k = tt

suffixes_plain : (v l : SemanticValue) → Plain v → Plain l → Plain (suffixes v l)
suffixes_plain v none h k = h
suffixes_plain v (snoc l x) h k = suffixed_plain (suffixes v l) x (suffixes_plain v l h k.1) k.2
suffixes_plain _ _ h k = tt

pub postfix_plain : (v : SemanticValue) → Plain v → Plain (postfix_value v)
postfix_plain (pair v l) h = suffixes_plain v l h.0 h.1
postfix_plain _ h = tt

prefixed_plain : (l : CLexeme) (s : Span) (e : CExpr) → is_plain_expr e ≡ true → is_plain_expr (prefixed l s e) ≡ true
prefixed_plain (fixed Minus) s e h = h
prefixed_plain (fixed Not) s e h = h
prefixed_plain (fixed Star) s e h = h
prefixed_plain _ s e h = h

pub unary_plain : (v : SemanticValue) → Plain v → Plain (unary_value v)
unary_plain (pair (token t) (expr s e)) h = prefixed_plain t.lexeme _ e h.1
unary_plain (expr s e) h = h
unary_plain _ h = tt

joined_plain : (v x : SemanticValue) → Plain v → Plain x → Plain (joined v x)
joined_plain (expr s e) (pair (token t) (expr r f)) h k = and_from (is_plain_expr e) (is_plain_expr f) h k.1
joined_plain _ _ h k = tt

chained_plain : (v l : SemanticValue) → Plain v → Plain l → Plain (chained v l)
chained_plain v none h k = h
chained_plain v (snoc l x) h k = joined_plain (chained v l) x (chained_plain v l h k.1) k.2
chained_plain _ _ h k = tt

pub chain_plain : (v : SemanticValue) → Plain v → Plain (chain_value v)
chain_plain (pair v l) h = chained_plain v l h.0 h.1
chain_plain _ h = tt

-- arguments
expr_passes : (v : SemanticValue) → Plain v → Passes is_plain_expr 1 (exprs_in v)
expr_passes (expr s e) h = only is_plain_expr e h
expr_passes (pair _ (expr s e)) h = only is_plain_expr e h.1
expr_passes _ h = nothing is_plain_expr 1

exprs_pass : (v : SemanticValue) → Plain v → Passes is_plain_expr (parts v) (exprs v)
exprs_pass (snoc l x) h = passes_append is_plain_expr (parts l) 1 (exprs l) (exprs_in x) (exprs_pass l h.1) (expr_passes x h.2)
exprs_pass _ h = nothing is_plain_expr 0

args_pass : (v : SemanticValue) → Plain v → Passes is_plain_expr 1048578 (args_of v)
args_pass (snoc none (pair first l)) h =
    passes_append is_plain_expr 1 1048577 (exprs_in first) (exprs l) (expr_passes first h.2.0) (few is_plain_expr l (exprs l) h.2.1 (exprs_pass l h.2.1))
args_pass _ h = nothing is_plain_expr 1048578

-- declarations
decl_passes : (v : SemanticValue) → Passes any 1 (decls_in v)
decl_passes (decl d) = only any d refl
decl_passes (pair (decl d) _) = only any d refl
decl_passes (pair _ (decl d)) = only any d refl
decl_passes _ = nothing any 1

decls_pass : (v : SemanticValue) → Plain v → Passes any (parts v) (decls v)
decls_pass (snoc l x) h = passes_append any (parts l) 1 (decls l) (decls_in x) (decls_pass l h.1) (decl_passes x)
decls_pass _ h = nothing any 0

decls_short : (v : SemanticValue) → Plain v → is_short (decls v) ≡ true
decls_short v h = let p = few any v (decls v) h (decls_pass v h) in short (decls v) (omega arith)

from_short : (v : SemanticValue) → Plain v → is_short (decls_from v) ≡ true
from_short (pair first l) h =
    let p = passes_append any 1 1048577 (decls_in first) (decls l) (decl_passes first) (few any l (decls l) h.1 (decls_pass l h.1)) in
    short (decls_from (pair first l)) p.0
from_short _ h = refl

params_short : (v : SemanticValue) → Plain v → is_short (parsed_params v) ≡ true
params_short (snoc none ds) h = from_short ds h.2
params_short _ h = refl

-- types and declarations have no part that could be long
base_plain : (v : SemanticValue) → Plain (base_value v)
base_plain (token t) = tt
base_plain (pair (token t) (token x)) = tt
base_plain _ = tt

suffixed_type_plain : (v x : SemanticValue) → Plain (type_suffixed v x)
suffixed_type_plain (type s t) (token star) = tt
suffixed_type_plain (type s t) (pair (token open_) (pair (token n) (token close))) = tt
suffixed_type_plain _ _ = tt

suffixed_types_plain : (v l : SemanticValue) → Plain v → Plain (type_suffixes v l)
suffixed_types_plain v none h = h
suffixed_types_plain v (snoc l x) h = suffixed_type_plain (type_suffixes v l) x
suffixed_types_plain _ _ h = tt

pub type_plain : (v : SemanticValue) → Plain (type_value v)
type_plain (pair base l) = suffixed_types_plain (base_value base) l (base_plain base)
type_plain _ = tt

decl_of_plain : (v : SemanticValue) (x : CToken) → Plain (decl_of v x)
decl_of_plain (type s t) x = tt
decl_of_plain _ x = tt

pub decl_plain : (v : SemanticValue) → Plain (decl_value v)
decl_plain (pair t (token x)) = decl_of_plain t x
decl_plain _ = tt

-- statements
stmt_passes : (v : SemanticValue) → Plain v → Passes is_plain_stmt 1 (stmts_in v)
stmt_passes (stmt s) h = only is_plain_stmt s h
stmt_passes _ h = nothing is_plain_stmt 1

stmts_pass : (v : SemanticValue) → Plain v → Passes is_plain_stmt (parts v) (stmts v)
stmts_pass (snoc l x) h = passes_append is_plain_stmt (parts l) 1 (stmts l) (stmts_in x) (stmts_pass l h.1) (stmt_passes x h.2)
stmts_pass _ h = nothing is_plain_stmt 0

stmts_length_of : (ss : List CStmt) → stmts_length (stmts_of ss) ≡ length ss
stmts_length_of [] = refl
stmts_length_of (s ∷ ss) = omega (arith, stmts_length_of ss)

are_plain_of : (ss : List CStmt) → are_plain_stmts (stmts_of ss) ≡ list_all is_plain_stmt ss
are_plain_of [] = refl
are_plain_of (s ∷ ss) = ap (λ b. is_plain_stmt s && b) (are_plain_of ss)

stmts_plain : (v : SemanticValue) → Plain v → (nat_lt (stmts_length (stmts_of (stmts v))) (2 ^ 32) ≡ true) × (are_plain_stmts (stmts_of (stmts v)) ≡ true)
stmts_plain v h =
    let p = few is_plain_stmt v (stmts v) h (stmts_pass v h) in
    (ap (λ n. nat_lt n (2 ^ 32)) (stmts_length_of (stmts v)) ∙ short (stmts v) (omega arith), are_plain_of (stmts v) ∙ p.1)

pub block_plain : (v : SemanticValue) → Plain v → Plain (block_value v)
block_plain (pair (token open_) (pair l (token close))) h = stmts_plain l h.1.0
block_plain _ h = tt

stored_plain : (s : Span) (p : CExpr) (v : SemanticValue) → is_plain_expr p ≡ true → Plain v → Plain (stored s p v)
stored_plain s p (expr r e) h k = and_from (is_plain_expr p) (is_plain_expr e) h k
stored_plain s p (pair (token t) (type r ty)) h k = h
stored_plain s p (pair (token x) (pair (token open_) (pair l (token close)))) h k =
    let a = args_pass l k.1.1.0 in
    and_from (is_plain_expr p) _ h (and_from (is_short (args_of l)) (list_all is_plain_expr (args_of l)) (short (args_of l) a.0) a.1)
stored_plain s p _ h k = tt

chosen_plain : (t : CToken) (e : CExpr) (v : SemanticValue) → is_plain_expr e ≡ true → Plain v → Plain (choice_value t e v)
chosen_plain t e (pair (block s a) none) h k =
    and_from (is_plain_expr e) _ h (and_from _ _ k.0.0 (and_from (are_plain_stmts a) true k.0.1 refl))
chosen_plain t e (pair (block s a) (snoc none (pair (token other) (block r b)))) h k =
    let c = k.1.2.1 in
    and_from (is_plain_expr e) _ h (and_from _ _ k.0.0 (and_from _ _ c.0 (and_from (are_plain_stmts a) (are_plain_stmts b) k.0.1 c.1)))
chosen_plain t e (block s a) h k = and_from (is_plain_expr e) _ h (and_from _ (are_plain_stmts a) k.0 k.1)
chosen_plain t e _ h k = tt

pub statement_plain : (v : SemanticValue) → Plain v → Plain (statement_value v)
statement_plain (pair (expr s p) (pair (token equals) (pair r (token semicolon)))) h = stored_plain _ p r h.0 h.1.1.0
statement_plain (pair (token t) (pair (token open_) (pair (expr s e) (pair (token close) rest)))) h = chosen_plain t e rest h.1.1.0 h.1.1.1.1
statement_plain _ h = tt

-- bodies
pub code_plain : (v : SemanticValue) → Plain v → Plain (code_value v)
code_plain (pair (token open_) (pair locals (pair l (pair (token t) (pair (expr s e) (pair (token semicolon) (token close))))))) h =
    let b = stmts_plain l h.1.1.0 in
    and_from (is_short (decls locals)) _ (decls_short locals h.1.0) (and_from _ _ b.0 (and_from (are_plain_stmts (stmts_of (stmts l))) (is_plain_expr e) b.1 h.1.1.1.1.0))
code_plain _ h = tt

pub body_plain : (v : SemanticValue) → Plain v → Plain (body_value v)
body_plain (pair (token t) (token text)) h =
    let fits = h.1.1 in
    and_from (is_short (lexeme_text text.lexeme)) true (short (lexeme_text text.lexeme) (omega arith)) refl
body_plain (body b) h = h
body_plain _ h = tt

-- items
defined_plain : (d : CDecl) (v : SemanticValue) → Plain v → Plain (defined d v)
defined_plain d (token semicolon) h = tt
defined_plain d (pair (token open_) (pair ps (pair (token close) (body b)))) h = and_from (is_short (parsed_params ps)) (is_plain_body b) (params_short ps h.1.0) h.1.1.1
defined_plain d _ h = tt

struct_plain : (x : CToken) (v : SemanticValue) → Plain v → Plain (struct_of x v)
struct_plain x (pair (token open_) (pair ds (pair (token close) (token semicolon)))) h = from_short ds h.1.0
struct_plain x _ h = tt

item_plain : (v : SemanticValue) → Plain v → Plain (item_value v)
item_plain (pair (token t) (pair (token x) v)) h = struct_plain x v h.1.1
item_plain (pair (decl d) v) h = defined_plain d v h.1
item_plain _ h = tt

struct_passes : (v : SemanticValue) → Plain v → Passes has_few_fields 1 (structs_of_value v)
struct_passes (a_struct s) h = only has_few_fields s h
struct_passes _ h = nothing has_few_fields 1

structs_pass : (v : SemanticValue) → Plain v → Passes has_few_fields (parts v) (structs v)
structs_pass (snoc l x) h = passes_append has_few_fields (parts l) 1 (structs l) (structs_of_value (item_value x)) (structs_pass l h.1) (struct_passes (item_value x) (item_plain x h.2))
structs_pass _ h = nothing has_few_fields 0

global_passes : (v : SemanticValue) → Passes any 1 (globals_of_value v)
global_passes (a_global d) = only any d refl
global_passes _ = nothing any 1

globals_pass : (v : SemanticValue) → Plain v → Passes any (parts v) (globals v)
globals_pass (snoc l x) h = passes_append any (parts l) 1 (globals l) (globals_of_value (item_value x)) (globals_pass l h.1) (global_passes (item_value x))
globals_pass _ h = nothing any 0

function_passes : (v : SemanticValue) → Plain v → Passes is_plain_function 1 (functions_of_value v)
function_passes (a_function f) h = only is_plain_function f h
function_passes _ h = nothing is_plain_function 1

functions_pass : (v : SemanticValue) → Plain v → Passes is_plain_function (parts v) (functions v)
functions_pass (snoc l x) h = passes_append is_plain_function (parts l) 1 (functions l) (functions_of_value (item_value x)) (functions_pass l h.1) (function_passes (item_value x) (item_plain x h.2))
functions_pass _ h = nothing is_plain_function 0

-- structs that have a field each, and few
plain_structs : (ss : List CStruct) → list_all (λ s. is_nonempty s.fields) ss ≡ true → list_all has_few_fields ss ≡ true → list_all is_plain_struct ss ≡ true
plain_structs [] g h = refl
plain_structs (s ∷ ss) g h =
    let p = and_parts (is_nonempty s.fields) (list_all (λ s. is_nonempty s.fields) ss) g in
    let q = and_parts (has_few_fields s) (list_all has_few_fields ss) h in
    and_from (is_plain_struct s) (list_all is_plain_struct ss) (and_from (is_nonempty s.fields) (has_few_fields s) p.0 q.0) (plain_structs ss p.1 q.1)

-- the tree of plain items is plain, where each struct has a field
pub unit_plain : (bytes : ℕ) (v : SemanticValue) → Plain v → list_all (λ s. is_nonempty s.fields) (structs v) ≡ true → is_plain (parsed_unit bytes v) ≡ true
unit_plain bytes v h filled =
    let s = few has_few_fields v (structs v) h (structs_pass v h) in
    let g = few any v (globals v) h (globals_pass v h) in
    let f = few is_plain_function v (functions v) h (functions_pass v h) in
    and_from (is_short (structs v)) _ (short (structs v) (omega arith))
    (and_from (is_short (globals v)) _ (short (globals v) (omega arith))
    (and_from (is_short (functions v)) _ (short (functions v) (omega arith)) (and_from (list_all is_plain_struct (structs v)) (list_all is_plain_function (functions v)) (plain_structs (structs v) filled s.1) f.1)))
