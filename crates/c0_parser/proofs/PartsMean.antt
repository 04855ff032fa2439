-- What the parts of structs, globals and functions mean.
use Rattle.std.proofs.Common.{ℕ, ◌≡◌, List, [], refl, sym, ap, ◌∙◌}
use Rattle.c0_tokens.specs.Tokens.{CToken, asm_text, lexeme_view, token_view}
use Rattle.c0_tokens.specs.declared.token.Token.{Token}
use Rattle.c0_tree.specs.declared.tree.Span.{Span}
use Rattle.c0_tree.specs.Tree.{CName, CTy, named, CDecl, CBody, asm, CFunction, CStruct}
use Rattle.c0_parser.specs.Value.{SemanticValue, token, pair, none, snoc, type, body, a_struct, a_function, token_span, across, lexeme_text, parsed_name, base_value, type_suffixes, decl_of, decls_from, parsed_params, body_value, defined, defined_at, struct_of}
use Rattle.c0_parser.specs.Factored.{declared_as, item_after_name, factored_value}
use Rattle.c0_parser.specs.Views.{typed, item_view, IsDefined}
use Rattle.c0_parser.specs.declared.types.Typed.{Typed}
use Rattle.c0_parser.specs.declared.items.Item.{Item}
use Rattle.c0_parser.proofs.PieceSteps.{decl_with}

pub asm_meaning : (text bytes words : List ℕ) (t : Token) → lexeme_view t.lexeme ≡ asm_text text → bytes ≡ text → words ≡ [] → asm (lexeme_text (lexeme_view t.lexeme)) (token_span (token_view t)) [] ≡ asm bytes (token_span (token_view t)) words
asm_meaning text bytes words t e f g = ap (λ l. asm l (token_span (token_view t)) []) (ap lexeme_text e ∙ sym f) ∙ ap (λ w. asm bytes (token_span (token_view t)) w) (sym g)

pub asm_body_meaning : (a b : SemanticValue) (t x : CToken) (m : CBody) → a ≡ token t → b ≡ token x → asm (lexeme_text x.lexeme) (token_span x) [] ≡ m → body_value (pair a b) ≡ body m
asm_body_meaning a b t x m e f g = ap (λ v. body_value (pair v b)) e ∙ ap (λ v. body_value (pair (token t) v)) f ∙ ap body g

abbrev pub function_with : CDecl → List CDecl → CBody → CFunction
function_with d ps b = record { answer = d.ty; answer_span = d.ty_span; name = d.name; params = ps; body = b }

pub function_meaning : (d : CDecl) (a p q b : SemanticValue) (t u : CToken) (ps : List CDecl) (m : CBody) → a ≡ token t → parsed_params p ≡ ps → q ≡ token u → b ≡ body m → defined d (pair a (pair p (pair q b))) ≡ a_function (function_with d ps m)
function_meaning d a p q b t u ps m e f g h =
    ap (λ v. defined d (pair v (pair p (pair q b)))) e ∙ ap (λ v. defined d (pair (token t) (pair p (pair v b)))) g
    ∙ ap (λ v. defined d (pair (token t) (pair p (pair (token u) v)))) h ∙ ap (λ l. a_function (function_with d l m)) f

pub defined_meaning : (base l n v : SemanticValue) (s : Span) (ty : CTy) (x : CToken) (m : CName) → type_suffixes base l ≡ type s ty → n ≡ token x → parsed_name x ≡ m → declared_as base (pair l (pair n v)) ≡ defined (decl_with s ty m) v
defined_meaning base l n v s ty x m e f g =
    ap (λ z. declared_as base (pair l (pair z v))) f ∙ ap (λ z. defined_at (decl_of z x) v) e ∙ ap (λ z. defined (decl_with s ty z) v) g

abbrev pub struct_with : CName → List CDecl → CStruct
struct_with x ds = record { name = x; fields = ds }

pub struct_meaning : (y : CToken) (a f q s : SemanticValue) (t u o : CToken) (m : CName) (ds : List CDecl) → parsed_name y ≡ m → a ≡ token t → decls_from f ≡ ds → q ≡ token u → s ≡ token o → struct_of y (pair a (pair f (pair q s))) ≡ a_struct (struct_with m ds)
struct_meaning y a f q s t u o m ds n e g h i =
    ap (λ v. struct_of y (pair v (pair f (pair q s)))) e ∙ ap (λ v. struct_of y (pair (token t) (pair f (pair v s)))) h
    ∙ ap (λ v. struct_of y (pair (token t) (pair f (pair (token u) v)))) i ∙ ap (λ z. a_struct (struct_with z (decls_from f))) n ∙ ap (λ z. a_struct (struct_with m z)) g

-- behind what has suffixes no struct stands
none_type : (s : Span) (t : CTy) → none ≡ type s t → ⊥
none_type s t e = cc

pub item_after_name_defined : (t y : CToken) (base l w : SemanticValue) (s : Span) (ty : CTy) → type_suffixes base l ≡ type s ty → item_after_name t y (pair l w) ≡ declared_as (base_value (pair (token t) (token y))) (pair l w)
item_after_name_defined t y base none w s ty e = refl
item_after_name_defined t y base (snoc l x) w s ty e = refl
item_after_name_defined t y base _ w s ty e = absurd (none_type s ty e)

pub factored_defined : (t : CToken) (base l w : SemanticValue) (s : Span) (ty : CTy) → type_suffixes base l ≡ type s ty → factored_value (pair (token t) (pair l w)) ≡ declared_as (base_value (token t)) (pair l w)
factored_defined t base none w s ty e = refl
factored_defined t base (snoc l x) w s ty e = refl
factored_defined t base _ w s ty e = absurd (none_type s ty e)

-- the first words of the type of a struct
pub struct_typed : (t y : CToken) (m : CName) → parsed_name y ≡ m → base_value (pair (token t) (token y)) ≡ type (across (token_span t) m.span) (named m)
struct_typed t y m e = ap (λ z. type (across (token_span t) z.span) (named z)) e

-- an item behind the first words of its type
pub item_after_name_is : (t y : CToken) (m : CName) (b : Typed) (i : Item) (v : SemanticValue) → parsed_name y ≡ m → typed b ≡ type (across (token_span t) m.span) (named m) → IsDefined b i v → item_after_name t y v ≡ item_view i
item_after_name_is t y m b i v g e d =
    ap (item_after_name t y) d.parts ∙ item_after_name_defined t y (typed b) d.suffixes d.others d.span d.ty d.typed_so
    ∙ ap (λ z. declared_as z (pair d.suffixes d.others)) (struct_typed t y m g ∙ sym e) ∙ ap (declared_as (typed b)) (sym d.parts) ∙ d.is

pub basic_is : (t : CToken) (b : Typed) (i : Item) (a v : SemanticValue) → a ≡ token t → base_value (token t) ≡ typed b → IsDefined b i v → factored_value (pair a v) ≡ item_view i
basic_is t b i a v e f d =
    ap (λ z. factored_value (pair z v)) e ∙ ap (λ z. factored_value (pair (token t) z)) d.parts ∙ factored_defined t (typed b) d.suffixes d.others d.span d.ty d.typed_so
    ∙ ap (λ z. declared_as z (pair d.suffixes d.others)) f ∙ ap (declared_as (typed b)) (sym d.parts) ∙ d.is
