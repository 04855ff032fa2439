-- The grammar of units and the one that tells its items apart by one token at a time derive the same, with the same meaning.
use Rattle.std.proofs.Common.{◌≡◌, List, [], ◌∷◌, ◌++◌, refl, sym, ap, ◌∙◌, subst, append_assoc}
use Rattle.c0_tokens.specs.Tokens.{CToken}
use Rattle.c0_tokens.specs.declared.token.Mark.TheVariants.{Struct}
use Rattle.c0_parser.specs.Value.{SemanticValue, token, pair, none, snoc, type, decl_of, defined_at, item_value, base_value, type_suffixes, structs_of_value, globals_of_value, functions_of_value, structs, globals, functions}
use Rattle.c0_parser.specs.Grammar.{type as type_rule, decl as decl_rule, Piece, sign, many, NAME, BASIC, SUFFIXES, ITEM, UNIT, Derives, taken, both, first, second, no_more, one_more, made}
use Rattle.c0_parser.specs.Factored.{AFTER_DECL, FACTORED, SOURCE, declared_as, item_after_name, factored_value, factored_structs, factored_globals, factored_functions}

-- a declaration and what stands behind it
declared : (t : SemanticValue) (x : CToken) (v : SemanticValue) → item_value (pair (decl_of t x) v) ≡ defined_at (decl_of t x) v
declared (type s t) x v = refl
declared _ x v = refl

-- the value of a list
abbrev ListLike : SemanticValue → Type 0
ListLike none = Unit {0}
ListLike (snoc l x) = Unit {0}
ListLike _ = ⊥

list_like : {a : Piece} {xs : List CToken} {v : SemanticValue} → Derives (many a) xs v → ListLike v
list_like no_more = tt
list_like (one_more d e) = tt

item_after_name_list : (t x : CToken) (l w : SemanticValue) → ListLike l → item_after_name t x (pair l w) ≡ declared_as (base_value (pair (token t) (token x))) (pair l w)
item_after_name_list t x none w h = refl
item_after_name_list t x (snoc l y) w h = refl
item_after_name_list t x _ w h = absurd h

factored_list : (t : CToken) (l w : SemanticValue) → ListLike l → factored_value (pair (token t) (pair l w)) ≡ declared_as (base_value (token t)) (pair l w)
factored_list t none w h = refl
factored_list t (snoc l y) w h = refl
factored_list t _ w h = absurd h

-- the same item in another grammar
record Other (p : Piece) (xs : List CToken) (f : SemanticValue → SemanticValue) (meant_ : SemanticValue) : Type 0 where
  value : SemanticValue
  derives : Derives p xs value
  same : f value ≡ meant_

to_basic : (t x : CToken) (xs ys : List CToken) (l v : SemanticValue) → Derives BASIC (t ∷ []) (token t) → Derives SUFFIXES xs l → Derives NAME (x ∷ []) (token x) → Derives AFTER_DECL ys v →
    Other FACTORED ((((t ∷ []) ++ xs) ++ x ∷ []) ++ ys) factored_value (item_value (pair (decl_of (type_suffixes (base_value (token t)) l) x) v))
to_basic t x xs ys l v b d n e = record {
  value = pair (token t) (pair l (pair (token x) v));
  derives = subst (λ z. Derives FACTORED (t ∷ z) (pair (token t) (pair l (pair (token x) v)))) (sym (append_assoc xs (x ∷ []) ys)) (second (both b (both d (both n e))));
  same = factored_list t l (pair (token x) v) (list_like d) ∙ sym (declared (type_suffixes (base_value (token t)) l) x v);
}

to_struct : (t s x : CToken) (xs ys : List CToken) (l v : SemanticValue) → Derives (sign Struct) (t ∷ []) (token t) → Derives NAME (s ∷ []) (token s) → Derives SUFFIXES xs l → Derives NAME (x ∷ []) (token x) → Derives AFTER_DECL ys v →
    Other FACTORED ((((t ∷ s ∷ []) ++ xs) ++ x ∷ []) ++ ys) factored_value (item_value (pair (decl_of (type_suffixes (base_value (pair (token t) (token s))) l) x) v))
to_struct t s x xs ys l v b m d n e = record {
  value = pair (token t) (pair (token s) (pair l (pair (token x) v)));
  derives = subst (λ z. Derives FACTORED (t ∷ s ∷ z) (pair (token t) (pair (token s) (pair l (pair (token x) v))))) (sym (append_assoc xs (x ∷ []) ys)) (first (both b (both m (second (both d (both n e))))));
  same = item_after_name_list t s l (pair (token x) v) (list_like d) ∙ sym (declared (type_suffixes (base_value (pair (token t) (token s))) l) x v);
}

to_factored : {xs : List CToken} {v : SemanticValue} → Derives ITEM xs v → Other FACTORED xs factored_value (item_value v)
to_factored (first (both (taken i is t h) (both (taken j js x k) (both (taken a as_ o g) f)))) =
    record { value = _; derives = first (both (taken i is t h) (both (taken j js x k) (first (both (taken a as_ o g) f)))); same = refl }
to_factored (second (both {ys = ys} {w = v} (made _ (both (made _ (both {ys = xs} {w = l} (first (taken i is t h)) d)) (taken j js x k))) e)) = to_basic t x xs ys l v (taken i is t h) d (taken j js x k) e
to_factored (second (both {ys = ys} {w = v} (made _ (both (made _ (both {ys = xs} {w = l} (second (both (taken i is t h) (taken m ms s g))) d)) (taken j js x k))) e)) = to_struct t s x xs ys l v (taken i is t h) (taken m ms s g) d (taken j js x k) e

from_factored : {xs : List CToken} {w : SemanticValue} → Derives FACTORED xs w → Other ITEM xs item_value (factored_value w)
from_factored (first (both (taken i is t h) (both (taken j js x k) (first (both (taken a as_ o g) f))))) =
    record { value = _; derives = first (both (taken i is t h) (both (taken j js x k) (both (taken a as_ o g) f))); same = refl }
from_factored (first (both (taken i is t h) (both (taken m ms s g) (second (both {xs = xs} {v = l} d (both {ys = ys} {w = v} (taken j js x k) e)))))) = record {
  value = pair (decl_of (type_suffixes (base_value (pair (token t) (token s))) l) x) v;
  derives = subst (λ z. Derives ITEM (t ∷ s ∷ z) (pair (decl_of (type_suffixes (base_value (pair (token t) (token s))) l) x) v)) (append_assoc xs (x ∷ []) ys) (second (both (made decl_rule (both (made type_rule (both (second (both (taken i is t h) (taken m ms s g))) d)) (taken j js x k))) e));
  same = declared (type_suffixes (base_value (pair (token t) (token s))) l) x v ∙ sym (item_after_name_list t s l (pair (token x) v) (list_like d));
}
from_factored (second (both (taken i is t h) (both {xs = xs} {v = l} d (both {ys = ys} {w = v} (taken j js x k) e)))) = record {
  value = pair (decl_of (type_suffixes (base_value (token t)) l) x) v;
  derives = subst (λ z. Derives ITEM (t ∷ z) (pair (decl_of (type_suffixes (base_value (token t)) l) x) v)) (append_assoc xs (x ∷ []) ys) (second (both (made decl_rule (both (made type_rule (both (first (taken i is t h)) d)) (taken j js x k))) e));
  same = declared (type_suffixes (base_value (token t)) l) x v ∙ sym (factored_list t l (pair (token x) v) (list_like d));
}

-- two lists of items with the same meanings
pub record SameItems (v w : SemanticValue) : Type 0 where
  pub same_structs : structs v ≡ factored_structs w
  pub same_globals : globals v ≡ factored_globals w
  pub same_functions : functions v ≡ factored_functions w

record OtherList (p : Piece) (xs : List CToken) (f : SemanticValue → Type 0) : Type 0 where
  value : SemanticValue
  derives : Derives p xs value
  same : f value

one_more_same : (v w x y : SemanticValue) → SameItems v w → item_value x ≡ factored_value y → SameItems (snoc v x) (snoc w y)
one_more_same v w x y s e = record {
  same_structs = ap (λ l. l ++ structs_of_value (item_value x)) s.same_structs ∙ ap (λ z. factored_structs w ++ structs_of_value z) e;
  same_globals = ap (λ l. l ++ globals_of_value (item_value x)) s.same_globals ∙ ap (λ z. factored_globals w ++ globals_of_value z) e;
  same_functions = ap (λ l. l ++ functions_of_value (item_value x)) s.same_functions ∙ ap (λ z. factored_functions w ++ functions_of_value z) e;
}

items_to : {xs : List CToken} {v : SemanticValue} → Derives (many ITEM) xs v → OtherList (many FACTORED) xs (λ w. SameItems v w)
items_to no_more = record { value = none; derives = no_more; same = record { same_structs = refl; same_globals = refl; same_functions = refl } }
items_to (one_more {v = v} {w = x} d e) =
    let l = items_to d in
    let i = to_factored e in
    record { value = snoc l.value i.value; derives = one_more l.derives i.derives; same = one_more_same v l.value x i.value l.same (sym i.same) }

items_from : {xs : List CToken} {w : SemanticValue} → Derives (many FACTORED) xs w → OtherList (many ITEM) xs (λ v. SameItems v w)
items_from no_more = record { value = none; derives = no_more; same = record { same_structs = refl; same_globals = refl; same_functions = refl } }
items_from (one_more {v = w} {w = y} d e) =
    let l = items_from d in
    let i = from_factored e in
    record { value = snoc l.value i.value; derives = one_more l.derives i.derives; same = one_more_same l.value w i.value y l.same i.same }

-- the same of units
pub unit_to : (xs : List CToken) (v : SemanticValue) → Derives UNIT xs v → (items : SemanticValue) × (stop : SemanticValue) × (others : SemanticValue) × (v ≡ pair items stop) × Derives SOURCE xs (pair others stop) × SameItems items others
unit_to _ _ (both {v = v} {w = s} d e) = let l = items_to d in (v, s, l.value, refl, both l.derives e, l.same)

pub unit_from : (xs : List CToken) (w : SemanticValue) → Derives SOURCE xs w → (items : SemanticValue) × (stop : SemanticValue) × (others : SemanticValue) × (w ≡ pair items stop) × Derives UNIT xs (pair others stop) × SameItems others items
unit_from _ _ (both {v = v} {w = s} d e) = let l = items_from d in (v, s, l.value, refl, both l.derives e, l.same)
