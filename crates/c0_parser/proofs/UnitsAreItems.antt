-- A unit is made of the items of its source, in order.
use Rattle.std.proofs.Common.{◌≡◌, ℕ, ◌+◌, List, [], ◌∷◌, ◌++◌, length, refl, sym, ap, ◌∙◌, subst, arith}
use Rattle.c0_tokens.specs.Tokens.{CToken, CLexeme, end}
use Rattle.c0_tokens.specs.Nesting.{tokens_of}
use Rattle.c0_tokens.specs.declared.token.Mark.TheVariants.{Semicolon}
use Rattle.std.specs.Prelude.{true}
use Rattle.c0_tree.specs.Tree.{CDecl, CStruct, CFunction, CUnit}
use Rattle.c0_parser.specs.Sorts.{the_end, sort, among}
use Rattle.c0_parser.specs.Value.{SemanticValue, token, pair, none, snoc, decl, body, a_function, defined, item_value, structs_of_value, globals_of_value, functions_of_value, structs, globals, functions, parsed_unit}
use Rattle.c0_parser.specs.Grammar.{many, the, one_of, sign, ◌▸◌, ITEM, FUNCTION, UNIT, Derives, taken, both, first, second, no_more, one_more, made}
use Rattle.c0_parser.specs.Grammar as grammar
use Rattle.c0_parser.specs.Faults.{ReadsAs}
use Rattle.c0_parser.specs.Items.{CItem, struct_item, global_item, function_item, item_piece, item_meaning, DeclareAll, no_items, one_more_item, IsMadeOf, structs_among, globals_among, functions_among, unit_with}
use Rattle.c0_parser.proofs.TokensDecide.{no_yes}
use Rattle.c0_parser.proofs.ProductionsMean.{IsADecl, IsABody, means}

-- what a piece of the grammar declares
record Declared (ts : List CToken) (v : SemanticValue) : Type 0 where
  item : CItem
  derives : Derives (item_piece item) ts v
  means : item_value v ≡ item_meaning item

a_global_is : {xs ys : List CToken} (d : SemanticValue) (t : CToken) → IsADecl d → Derives (the grammar.decl) xs d → Derives (sign Semicolon) ys (token t) → Declared (xs ++ ys) (pair d (token t))
a_global_is (decl d) t h a b = record { item = global_item d; derives = both a b; means = refl }
a_global_is _ t h a b = absurd h

defined_is : (d : CDecl) (o c : CToken) (ps b : SemanticValue) → IsABody b → (f : CFunction) × (defined d (pair (token o) (pair ps (pair (token c) b))) ≡ a_function f)
defined_is d o c ps (body b) h = (_, refl)
defined_is d o c ps _ h = absurd h

a_function_is : {xs ys : List CToken} (d : SemanticValue) (o c : CToken) (ps b : SemanticValue) → IsADecl d → IsABody b → Derives (the grammar.decl) xs d → Derives FUNCTION ys (pair (token o) (pair ps (pair (token c) b))) → Declared (xs ++ ys) (pair d (pair (token o) (pair ps (pair (token c) b))))
a_function_is (decl d) o c ps b h k a e = let f = defined_is d o c ps b k in record { item = function_item f.0; derives = both a e; means = f.1 }
a_function_is _ o c ps b h k a e = absurd h

declared : {xs : List CToken} {v : SemanticValue} → Derives ITEM xs v → Declared xs v
declared (first (both (taken s ss t h) (both (taken r rr x k) (both (taken q qq o l) (both d (both (taken p pp c m) (taken n nn e i))))))) =
    record { item = struct_item _; derives = both (taken s ss t h) (both (taken r rr x k) (both (taken q qq o l) (both d (both (taken p pp c m) (taken n nn e i))))); means = refl }
declared (second (both {v = d} a (first (taken s ss t h)))) = a_global_is d t (means grammar.decl a) a (taken s ss t h)
declared (second (both {v = d} a (second (both (taken s ss o h) (both {v = ps} l (both {w = b} (taken r rr c k) e)))))) =
    a_function_is d o c ps b (means grammar.decl a) (means grammar.body e) a (both (taken s ss o h) (both l (both (taken r rr c k) e)))

-- the other way round
from_item : (i : CItem) {xs : List CToken} {v : SemanticValue} → Derives (item_piece i) xs v → Derives ITEM xs v
from_item (struct_item s) d = first d
from_item (global_item g) (both d e) = second (both d (first e))
from_item (function_item f) (both d e) = second (both d (second e))

-- the items of two lists
structs_append : (is js : List CItem) → structs_among (is ++ js) ≡ structs_among is ++ structs_among js
structs_append [] js = refl
structs_append (struct_item s ∷ is) js = ap (λ l. s ∷ l) (structs_append is js)
structs_append (global_item d ∷ is) js = structs_append is js
structs_append (function_item f ∷ is) js = structs_append is js

globals_append : (is js : List CItem) → globals_among (is ++ js) ≡ globals_among is ++ globals_among js
globals_append [] js = refl
globals_append (struct_item s ∷ is) js = globals_append is js
globals_append (global_item d ∷ is) js = ap (λ l. d ∷ l) (globals_append is js)
globals_append (function_item f ∷ is) js = globals_append is js

functions_append : (is js : List CItem) → functions_among (is ++ js) ≡ functions_among is ++ functions_among js
functions_append [] js = refl
functions_append (struct_item s ∷ is) js = functions_append is js
functions_append (global_item d ∷ is) js = functions_append is js
functions_append (function_item f ∷ is) js = ap (λ l. f ∷ l) (functions_append is js)

struct_of_item : (i : CItem) → structs_of_value (item_meaning i) ≡ structs_among (i ∷ [])
struct_of_item (struct_item s) = refl
struct_of_item (global_item d) = refl
struct_of_item (function_item f) = refl

global_of_item : (i : CItem) → globals_of_value (item_meaning i) ≡ globals_among (i ∷ [])
global_of_item (struct_item s) = refl
global_of_item (global_item d) = refl
global_of_item (function_item f) = refl

function_of_item : (i : CItem) → functions_of_value (item_meaning i) ≡ functions_among (i ∷ [])
function_of_item (struct_item s) = refl
function_of_item (global_item d) = refl
function_of_item (function_item f) = refl

-- a list of the grammar means these items
record MeansItems (v : SemanticValue) (is : List CItem) : Type 0 where
  same_structs : structs v ≡ structs_among is
  same_globals : globals v ≡ globals_among is
  same_functions : functions v ≡ functions_among is

no_items_meant : MeansItems none []
no_items_meant = record { same_structs = refl; same_globals = refl; same_functions = refl }

more_items_meant : (v w : SemanticValue) (is : List CItem) (i : CItem) → MeansItems v is → item_value w ≡ item_meaning i → MeansItems (snoc v w) (is ++ i ∷ [])
more_items_meant v w is i m e = record {
  same_structs = ap (λ l. l ++ structs_of_value (item_value w)) m.same_structs ∙ ap (λ x. structs_among is ++ structs_of_value x) e ∙ ap (λ l. structs_among is ++ l) (struct_of_item i) ∙ sym (structs_append is (i ∷ []));
  same_globals = ap (λ l. l ++ globals_of_value (item_value w)) m.same_globals ∙ ap (λ x. globals_among is ++ globals_of_value x) e ∙ ap (λ l. globals_among is ++ l) (global_of_item i) ∙ sym (globals_append is (i ∷ []));
  same_functions = ap (λ l. l ++ functions_of_value (item_value w)) m.same_functions ∙ ap (λ x. functions_among is ++ functions_of_value x) e ∙ ap (λ l. functions_among is ++ l) (function_of_item i) ∙ sym (functions_append is (i ∷ []));
}

abbrev unit : ℕ → List CStruct → List CDecl → List CFunction → CUnit
unit k ss gs fs = record { length = k; structs = ss; globals = gs; functions = fs }

same_unit : (n : ℕ) (v : SemanticValue) (is : List CItem) → MeansItems v is → parsed_unit n v ≡ unit_with n is
same_unit n v is m =
    ap (λ x. unit n x (globals v) (functions v)) m.same_structs ∙ ap (λ x. unit n (structs_among is) x (functions v)) m.same_globals
    ∙ ap (λ x. unit n (structs_among is) (globals_among is) x) m.same_functions

-- the items that a list of the grammar derives
record ItemsOf (ts : List CToken) (v : SemanticValue) : Type 0 where
  items : List CItem
  declare : DeclareAll ts items
  meant : MeansItems v items

items_of : {ts : List CToken} {v : SemanticValue} → Derives (many ITEM) ts v → ItemsOf ts v
items_of no_more = record { items = []; declare = no_items; meant = no_items_meant }
items_of (one_more {v = v} {w = w} d e) =
    let l = items_of d in
    let x = declared e in
    record {
      items = l.items ++ x.item ∷ [];
      declare = one_more_item l.declare (record { value = w; derives = x.derives; means = x.means });
      meant = more_items_meant v w l.items x.item l.meant x.means;
    }

-- the other way round
record ListOf (ts : List CToken) (is : List CItem) : Type 0 where
  value : SemanticValue
  derives : Derives (many ITEM) ts value
  meant : MeansItems value is

list_of : {ts : List CToken} {is : List CItem} → DeclareAll ts is → ListOf ts is
list_of no_items = record { value = none; derives = no_more; meant = no_items_meant }
list_of (one_more_item {is = is} {i = i} d x) =
    let l = list_of d in
    record {
      value = snoc l.value x.value;
      derives = one_more l.derives (from_item i x.derives);
      meant = more_items_meant l.value x.value is i l.meant x.means;
    }

-- a token of the sort of the end is the end
is_end : (l : CLexeme) → among (the_end ∷ []) (sort l) ≡ true → l ≡ end
is_end end h = refl
is_end _ h = no_yes h

unit_made : (source : List ℕ) (ts : List CToken) (items stop : SemanticValue) → ts ≡ tokens_of source → Derives UNIT ts (pair items stop) → (is : List CItem) × IsMadeOf source is × (parsed_unit (length source) items ≡ unit_with (length source) is)
unit_made source _ items _ at_source (both {xs = xs} d (taken s ss t k)) =
    let l = items_of d in
    (l.items, record { tokens = xs; last = t; stand = sym at_source; ends = is_end t.lexeme k; declared = l.declare }, same_unit (length source) items l.items l.meant)

-- a source that has a tree is a row of items, of which its unit is made
pub made_of_items : (source : List ℕ) (u : CUnit) → ReadsAs source u → (items : List CItem) × IsMadeOf source items × (u ≡ unit_with (length source) items)
made_of_items source u r = let m = unit_made source (tokens_of source) r.0 r.1 refl r.2 in (m.0, m.1, sym r.3 ∙ m.2)

-- a row of items and the end has the tree that is made of them
pub items_read : (source : List ℕ) (items : List CItem) → IsMadeOf source items → ReadsAs source (unit_with (length source) items)
items_read source items m =
    let l = list_of m.declared in
    (l.value, token m.last, subst (λ ts. Derives UNIT ts (pair l.value (token m.last))) (sym m.stand) (both l.derives (taken the_end [] m.last (ap (λ x. among (the_end ∷ []) (sort x)) m.ends))), same_unit (length source) l.value items l.meant)

-- each item is of one kind
pub count_items : (items : List CItem) → length (structs_among items) + length (globals_among items) + length (functions_among items) ≡ length items
count_items [] = refl
count_items (struct_item s ∷ is) = omega (arith, count_items is)
count_items (global_item d ∷ is) = omega (arith, count_items is)
count_items (function_item f ∷ is) = omega (arith, count_items is)
