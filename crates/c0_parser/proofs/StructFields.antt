-- Each struct of a source has a field: the grammar has at least one line between its braces, and what derives a line means a declaration.
use Rattle.std.proofs.Common.{◌≡◌, Bool, true, List, [], refl, ap}
use Rattle.std.specs.List.{list_all}
use Rattle.std.proofs.lemmas.Bool.{and_from}
use Rattle.c0_tokens.specs.Tokens.{CToken}
use Rattle.c0_tree.specs.Tree.{CDecl, CStruct}
use Rattle.c0_tree.specs.Plain.{is_nonempty}
use Rattle.c0_parser.specs.Value.{SemanticValue, token, pair, type, decl, body, base_value, type_suffixed, type_suffixes, decl_of, decls_from, defined, item_value, structs_of_value, structs}
use Rattle.c0_parser.specs.Grammar.{BASE, SUFFIX, SUFFIXES, ITEM, many, the, Derives, taken, both, first, second, no_more, one_more, made}
use Rattle.c0_parser.specs.Grammar as grammar
use Rattle.c0_parser.proofs.PiecesArePlain.{all_append}

-- that a value is a type, or a declaration
abbrev IsAType : SemanticValue → Type 0
IsAType (type s t) = Unit {0}
IsAType _ = ⊥

abbrev IsADecl : SemanticValue → Type 0
IsADecl (decl d) = Unit {0}
IsADecl _ = ⊥

base_is : {xs : List CToken} {v : SemanticValue} → Derives BASE xs v → IsAType (base_value v)
base_is (first (taken s ss t h)) = tt
base_is (second (both (taken s ss t h) (taken r rr x k))) = tt

suffixed_is : {xs : List CToken} {v : SemanticValue} (base : SemanticValue) → IsAType base → Derives SUFFIX xs v → IsAType (type_suffixed base v)
suffixed_is (type s t) h (first (taken r rr x k)) = tt
suffixed_is (type s t) h (second (both (taken r rr x k) (both (taken q qq n l) (taken p pp c m)))) = tt
suffixed_is _ h d = absurd h

suffixes_are : {xs : List CToken} {v : SemanticValue} (base : SemanticValue) → IsAType base → Derives SUFFIXES xs v → IsAType (type_suffixes base v)
suffixes_are base h no_more = h
suffixes_are base h (one_more {v = l} d e) = suffixed_is (type_suffixes base l) (suffixes_are base h d) e

type_is : {xs : List CToken} {v : SemanticValue} → Derives (the grammar.type) xs v → IsAType v
type_is (made grammar.type (both {v = base} d e)) = suffixes_are (base_value base) (base_is d) e

decl_of_is : (t : SemanticValue) (x : CToken) → IsAType t → IsADecl (decl_of t x)
decl_of_is (type s t) x h = tt
decl_of_is _ x h = absurd h

decl_is : {xs : List CToken} {v : SemanticValue} → Derives (the grammar.decl) xs v → IsADecl v
decl_is (made grammar.decl (both {v = t} d (taken s ss x h))) = decl_of_is t x (type_is d)

-- whether a struct has a field
abbrev has_field : CStruct → Bool
has_field s = is_nonempty s.fields

line_is_part : (a : SemanticValue) (end : CToken) (rest : SemanticValue) → IsADecl a → is_nonempty (decls_from (pair (pair a (token end)) rest)) ≡ true
line_is_part (decl d) end rest h = refl
line_is_part _ end rest h = absurd h

no_struct_defined : (d : CDecl) (v : SemanticValue) → structs_of_value (defined d v) ≡ []
no_struct_defined d (token semicolon) = refl
no_struct_defined d (pair (token opening) (pair ps (pair (token closing) (body b)))) = refl
no_struct_defined d _ = refl

no_struct : (a v : SemanticValue) → IsADecl a → structs_of_value (item_value (pair a v)) ≡ []
no_struct (decl d) v h = no_struct_defined d v
no_struct _ v h = absurd h

item_has_field : {xs : List CToken} {v : SemanticValue} → Derives ITEM xs v → list_all has_field (structs_of_value (item_value v)) ≡ true
item_has_field (first (both (taken s ss t h) (both (taken r rr x k) (both (taken q qq opening l) (both (both {w = rest} (both {v = line} d (taken p pp end m)) e) (both (taken o oo closing n) (taken c ks semicolon b))))))) =
    and_from (is_nonempty (decls_from (pair (pair line (token end)) rest))) true (line_is_part line end rest (decl_is d)) refl
item_has_field (second (both {v = a} {w = v} d e)) = ap (list_all has_field) (no_struct a v (decl_is d))

-- each struct of a list of items has a field
pub structs_have_fields : {xs : List CToken} {l : SemanticValue} → Derives (many ITEM) xs l → list_all has_field (structs l) ≡ true
structs_have_fields no_more = refl
structs_have_fields (one_more {v = l} {w = x} d e) = all_append has_field (structs l) (structs_of_value (item_value x)) (structs_have_fields d) (item_has_field e)
