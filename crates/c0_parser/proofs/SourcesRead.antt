-- What a whole source reads as, from what the machine does with its tokens.
use Rattle.std.proofs.Common.{◌≡◌, ℕ, ◌≤◌, List, [], ◌∷◌, ◌++◌, map, length, refl, sym, ap, ◌∙◌, subst, arith, append_assoc, length-append}
use Rattle.std.specs.Prelude.{Bool, true, false}
use Rattle.c0_tokens.specs.declared.token.TokenFault.TheVariants as token_fault
use Rattle.c0_tokens.specs.declared.token.Token.{Token}
use Rattle.c0_tokens.specs.Tokens.{CToken, CLexeme, faulty, end, token_view}
use Rattle.c0_tokens.specs.Lexis.{is_last}
use Rattle.c0_tokens.specs.Nesting.{tokens_of}
use Rattle.c0_tokens.specs.Order.{EndsOnce}
use Rattle.c0_tree.specs.Tree.{CUnit, CStruct, CDecl, CFunction}
use Rattle.c0_tree.specs.View.{struct_view, decl_view, function_view}
use Rattle.c0_parser.specs.Sorts.{Sort, sort, the_end, a_fault, among}
use Rattle.c0_parser.specs.Value.{SemanticValue, token, pair, snoc, structs_of_value, globals_of_value, functions_of_value, globals, functions, parsed_unit}
use Rattle.c0_parser.specs.Grammar.{one_of, the, decl, Derives, taken, both}
use Rattle.c0_parser.specs.Factored.{FACTORED, SOURCE, factored_value, factored_structs, factored_globals, factored_functions}
use Rattle.c0_parser.specs.Machine.{kind, heads, starts}
use Rattle.c0_parser.specs.Contract.{as_seen, PieceReads, Refuses, PieceFails}
use Rattle.c0_parser.specs.Faults.{ReadsAs, IsFirstBad, fault_by, fault_at, FaultIs}
use Rattle.c0_parser.specs.ToEnd.{AreItems, IsAdded, ReadsToEnd, GivesToEnd}
use Rattle.c0_parser.specs.Views.{item_view}
use Rattle.c0_parser.specs.declared.items.Item.{Item}
use Rattle.c0_parser.specs.declared.reader.Halt.{Halt}
use Rattle.c0_parser.specs.declared.reader.Halt.TheVariants.{Left}
use Rattle.std.specs.Prelude.{Result, Ok, Err}
use Rattle.std.specs.Result.{IsErrAnd}
use Rattle.c0_parser.specs.declared.fault.ReadFault.{ReadFault}
use Rattle.c0_parser.specs.declared.source.Items.{Items}
use Rattle.c0_parser.proofs.TokensDecide.{within_at, no_yes}
use Rattle.c0_parser.proofs.ReadIsDerived.{back}
use Rattle.c0_parser.proofs.FirstBadToken.{ends_source, EndsSource, first_bad, derived, one_meaning, source_means}
use Rattle.c0_parser.proofs.PieceSteps.{seen_length, goes_one}
use Rattle.c0_parser.proofs.FactoredGrammar.{SameItems, unit_to, unit_from}

-- what begins a declaration begins an item, and the other way round
pub item_heads : (ts : List CToken) → heads (the decl) ts ≡ true → heads FACTORED ts ≡ true
item_heads [] h = h
item_heads (t ∷ ts) h = within_at (starts (the decl)) (starts FACTORED) t refl h

not_by : (a b : Bool) → (b ≡ true → a ≡ true) → a ≡ false → b ≡ false
not_by a true f e = absurd (no_yes (sym e ∙ f refl))
not_by a false f e = refl

pub no_item : (ts : List CToken) → heads (the decl) ts ≡ false → heads FACTORED ts ≡ false
no_item [] h = h
no_item (t ∷ ts) h = not_by (starts (the decl) (kind t)) (starts FACTORED (kind t)) (λ e. within_at (starts FACTORED) (starts (the decl)) t refl e) h

-- a token that ends the tokens of a source
last_ends : (t : CToken) (l : CLexeme) → l ≡ t.lexeme → is_last l ≡ true → ends_source t ≡ true
last_ends t end e h = ap (λ x. among (the_end ∷ a_fault ∷ []) (sort x)) (sym e)
last_ends t (faulty f) e h = ap (λ x. among (the_end ∷ a_fault ∷ []) (sort x)) (sym e)
last_ends t _ e h = no_yes h

pub ends : (ts : List CToken) → EndsOnce ts → EndsSource ts
ends [] h = absurd h
ends (t ∷ []) h = record { front = []; last = t; is = refl; ends = last_ends t t.lexeme refl h }
ends (t ∷ u ∷ ts) h = let e = ends (u ∷ ts) h.1 in record { front = t ∷ e.front; last = e.last; is = ap (λ l. t ∷ l) e.is; ends = e.ends }

end_is_last : (l : CLexeme) → among (the_end ∷ []) (sort l) ≡ true → is_last l ≡ true
end_is_last end h = refl
end_is_last (faulty f) h = refl
end_is_last _ h = no_yes h

not_last : (ys : List CToken) (t u : CToken) (r : List CToken) → EndsOnce ((ys ++ t ∷ []) ++ u ∷ r) → is_last t.lexeme ≡ false
not_last [] t u r h = h.0
not_last (y ∷ []) t u r h = not_last [] t u r h.1
not_last (y ∷ z ∷ ys) t u r h = not_last (z ∷ ys) t u r h.1

nothing_after : (xs rest : List CToken) (v : SemanticValue) → Derives SOURCE xs v → EndsOnce (xs ++ rest) → rest ≡ []
nothing_after _ [] _ d h = refl
nothing_after _ (u ∷ r) _ (both {xs = ys} d (taken s ss t k)) h = absurd (no_yes (sym (not_last ys t u r h) ∙ end_is_last t.lexeme k))

-- a source is read to the end of its tokens
pub read_to_end : (ts rest : List CToken) (v : SemanticValue) → EndsOnce ts → PieceReads SOURCE ts v rest → Derives SOURCE ts v
read_to_end ts rest v h g =
    let b = back _ _ (g.by [] []) in
    let m = b.2 [] v (refl, refl) in
    let d = source_means (b.0 ++ []) v m in
    let none_left : rest ≡ [] = nothing_after (b.0 ++ []) rest d.0 d.1 (subst EndsOnce (b.1 ∙ ap (λ l. l ++ rest) (sym (all_of b.0))) h) in
    derived ts v (subst (PieceReads SOURCE ts v) none_left g)
  where
    all_of : (l : List CToken) → l ++ [] ≡ l
    all_of [] = refl
    all_of (x ∷ l) = ap (λ m. x ∷ m) (all_of l)

abbrev unit_with : ℕ → List CStruct → List CDecl → List CFunction → CUnit
unit_with n ss gs fs = record { length = n; structs = ss; globals = gs; functions = fs }

same_units : (n : ℕ) (v w : SemanticValue) → SameItems v w → parsed_unit n v ≡ unit_with n (factored_structs w) (factored_globals w) (factored_functions w)
same_units n v w s =
    ap (λ x. unit_with n x (globals v) (functions v)) s.same_structs ∙ ap (λ x. unit_with n (factored_structs w) x (functions v)) s.same_globals
    ∙ ap (λ x. unit_with n (factored_structs w) (factored_globals w) x) s.same_functions

abbrev unit_seen : ℕ → Items → CUnit
unit_seen n i = unit_with n (map struct_view i.structs.items) (map decl_view i.globals.items) (map function_view i.functions.items)

items_unit : (n : ℕ) (i : Items) (w : SemanticValue) → AreItems i w → unit_with n (factored_structs w) (factored_globals w) (factored_functions w) ≡ unit_seen n i
items_unit n i w a =
    ap (λ x. unit_with n x (factored_globals w) (factored_functions w)) a.same_structs ∙ ap (λ x. unit_with n (map struct_view i.structs.items) x (factored_functions w)) a.same_globals
    ∙ ap (λ x. unit_with n (map struct_view i.structs.items) (map decl_view i.globals.items) x) a.same_functions

same_fields : (a b c d : SemanticValue) → pair a b ≡ pair c d → (a ≡ c) × (b ≡ d)
same_fields a b c d e = (cc, cc)

-- what is read is what the grammar derives
pub reads_found : (source : List ℕ) (ts : List Token) (i : Items) → as_seen ts ≡ tokens_of source → EndsOnce (tokens_of source) → ReadsToEnd ts i → ReadsAs source (unit_seen (length source) i)
reads_found source ts i e h r =
    let d = subst (λ l. Derives SOURCE l (pair r.items r.stop)) e (read_to_end (as_seen ts) r.rest (pair r.items r.stop) (subst EndsOnce (sym e) h) r.goes) in
    let u = unit_from (tokens_of source) (pair r.items r.stop) d in
    let f = same_fields r.items r.stop u.0 u.1 u.3 in
    (u.2, u.1, u.4, same_units (length source) u.2 u.0 u.5 ∙ items_unit (length source) i u.0 (subst (AreItems i) f.0 r.are))

-- a source derives one tree
pub one_tree : (source : List ℕ) (u w : CUnit) → ReadsAs source u → ReadsAs source w → u ≡ w
one_tree source u w a b =
    let f = unit_to (tokens_of source) _ a.2 in
    let g = unit_to (tokens_of source) _ b.2 in
    let m = one_meaning (tokens_of source) _ _ f.4 g.4 in
    let n = length source in
    let same = same_fields f.2 f.1 g.2 g.1 m in
    sym a.3 ∙ ap (parsed_unit n) (same_fields a.0 a.1 f.0 f.1 f.3).0 ∙ same_units n f.0 f.2 f.5
    ∙ ap (λ x. unit_with n (factored_structs x) (factored_globals x) (factored_functions x)) same.0
    ∙ sym (same_units n g.0 g.2 g.5) ∙ ap (parsed_unit n) (sym (same_fields b.0 b.1 g.0 g.1 g.3).0) ∙ b.3

-- where the machine is stuck, no tree is derived
pub not_read : (source : List ℕ) (rest : List CToken) (u : CUnit) → EndsOnce (tokens_of source) → Refuses SOURCE (tokens_of source) rest → ReadsAs source u → ⊥
not_read source rest u h f r =
    let b = first_bad (tokens_of source) rest (ends (tokens_of source) h) f in
    let g = unit_to (tokens_of source) _ r.2 in
    b.3.bad b.1 (pair g.2 g.1) (subst (λ l. Derives SOURCE l (pair g.2 g.1)) b.3.stands g.4)

-- and the token is the first that cannot be
pub is_first_bad : (source : List ℕ) (rest : List CToken) → EndsOnce (tokens_of source) → Refuses SOURCE (tokens_of source) rest → (t : CToken) × (after : List CToken) × (rest ≡ t ∷ after) × IsFirstBad (tokens_of source) t
is_first_bad source rest h f =
    let b = first_bad (tokens_of source) rest (ends (tokens_of source) h) f in
    let k = b.3 in
    let g = unit_from _ _ k.good in (
      b.0,
      b.1,
      b.2,
      record {
        before = k.before;
        after = b.1;
        stands = k.stands;
        good = (k.more, pair g.2 g.1, g.4);
        bad = λ p.
            let m = unit_to _ _ p.2 in
            k.bad p.0 (pair m.2 m.1) (subst (λ l. Derives SOURCE l (pair m.2 m.1)) (append_assoc k.before (b.0 ∷ []) p.0) m.4);
      },
    )

-- the fault of a token
fault_shown : (source : List ℕ) (t : CToken) (l : CLexeme) → l ≡ t.lexeme → length source ≤ 1048576 → IsFirstBad (tokens_of source) t → FaultIs source (fault_by l t.start)
fault_shown source t (faulty token_fault.BadByte) e h f = (h, (t, f, ap (λ x. fault_by x t.start) e))
fault_shown source t (faulty token_fault.BadNumber) e h f = (h, (t, f, ap (λ x. fault_by x t.start) e))
fault_shown source t (faulty token_fault.TooNested) e h f = (h, (t, f, ap (λ x. fault_by x t.start) e))
fault_shown source t _ e h f = (h, (t, f, ap (λ x. fault_by x t.start) e))

pub fault_is : (source : List ℕ) (t : CToken) → length source ≤ 1048576 → IsFirstBad (tokens_of source) t → FaultIs source (fault_at t)
fault_is source t h f = fault_shown source t t.lexeme refl h f

first_same : (x y : CToken) (xs ys : List CToken) → x ∷ xs ≡ y ∷ ys → x ≡ y
first_same x y xs ys e = cc

rest_of : (x y : CToken) (xs ys : List CToken) → x ∷ xs ≡ y ∷ ys → xs ≡ ys
rest_of x y xs ys e = cc

seen_same : (us : List Token) (ys : List CToken) → as_seen us ≡ ys → length us ≡ length ys
seen_same us ys e = sym (seen_length us) ∙ ap length e

-- a token of the source's tokens in its place among the tokens in memory
pub in_place : (ts : List Token) (a : List CToken) (t : CToken) (b : List CToken) → as_seen ts ≡ a ++ t ∷ b → (before : List Token) × (u : Token) × (after : List Token) × (ts ≡ before ++ u ∷ after) × (token_view u ≡ t) × (length after ≡ length b)
in_place [] [] t b e = absurd (omega (arith, ap length e))
in_place [] (x ∷ a) t b e = absurd (omega (arith, ap length e))
in_place (u ∷ ts) [] t b e = ([], u, ts, refl, first_same (token_view u) t (as_seen ts) b e, seen_same ts b (rest_of (token_view u) t (as_seen ts) b e))
in_place (u ∷ ts) (x ∷ a) t b e =
    let r = in_place ts a t b (rest_of (token_view u) x (as_seen ts) (a ++ t ∷ b) e) in
    (u ∷ r.0, r.1, r.2, ap (λ l. u ∷ l) r.3, r.4, r.5)

-- one more item
pub items_more : (v x : SemanticValue) (all : Items) (item : Item) (i : Items) → AreItems all v → factored_value x ≡ item_view item → IsAdded all item i → AreItems i (snoc v x)
items_more v x all item i a e d = record {
  same_structs = ap (λ l. l ++ structs_of_value (factored_value x)) a.same_structs ∙ ap (λ z. map struct_view all.structs.items ++ structs_of_value z) e ∙ sym d.more_structs;
  same_globals = ap (λ l. l ++ globals_of_value (factored_value x)) a.same_globals ∙ ap (λ z. map decl_view all.globals.items ++ globals_of_value z) e ∙ sym d.more_globals;
  same_functions = ap (λ l. l ++ functions_of_value (factored_value x)) a.same_functions ∙ ap (λ z. map function_view all.functions.items ++ functions_of_value z) e ∙ sym d.more_functions;
}

-- where a `?` leaves
pub exits_to_end : (ts : List Token) (r : Result Items Halt) (e : Halt) → IsErrAnd r (λ y. y ≡ e) → PieceFails SOURCE (as_seen ts) e → GivesToEnd ts r
exits_to_end ts (Ok x) e h f = absurd h
exits_to_end ts (Err y) e h f = subst (PieceFails SOURCE (as_seen ts)) (sym h) f

-- a token that may stand next is taken
pub goes_heads : (s : Sort) (ss : List Sort) (ts : List CToken) → heads (one_of s ss) ts ≡ true → (t : CToken) × (rest : List CToken) × PieceReads (one_of s ss) ts (token t) rest
goes_heads s ss [] h = no_yes h
goes_heads s ss (t ∷ ts) h = (t, ts, goes_one s ss t (t ∷ ts) ts refl h)

-- the tokens before it
first_bad_before : (source : List ℕ) (rest : List CToken) → EndsOnce (tokens_of source) → Refuses SOURCE (tokens_of source) rest → List CToken
first_bad_before source rest h f = (first_bad (tokens_of source) rest (ends (tokens_of source) h) f).3.before

first_bad_stands : (source : List ℕ) (rest : List CToken) (h : EndsOnce (tokens_of source)) (f : Refuses SOURCE (tokens_of source) rest) → tokens_of source ≡ first_bad_before source rest h f ++ rest
unfolding first_bad_before
first_bad_stands source rest h f = let b = first_bad (tokens_of source) rest (ends (tokens_of source) h) f in b.3.stands ∙ ap (λ l. b.3.before ++ l) (sym b.2)

-- what the reader's fault tells of the source
pub refused : (source : List ℕ) (ts : List Token) (n : ℕ) → as_seen ts ≡ tokens_of source → PieceFails SOURCE (as_seen ts) (Left n) → (rest : List CToken) × Refuses SOURCE (tokens_of source) rest × (length rest ≡ n)
refused source ts n e f = let r = f.by n refl in (r.0, subst (λ l. Refuses SOURCE l r.0) e r.1, r.2)

pub fits : (source : List ℕ) (ts us : List Token) (n : ℕ) → as_seen ts ≡ tokens_of source → as_seen us ≡ tokens_of source → EndsOnce (tokens_of source) → PieceFails SOURCE (as_seen ts) (Left n) → n ≤ length us
fits source ts us n e g h f =
    let r = refused source ts n e f in
    let b = is_first_bad source r.0 h r.1 in
    let k = b.3 in
    omega (arith, r.2, ap length b.2, ap length (g ∙ first_bad_stands source r.0 h r.1), length-append (first_bad_before source r.0 h r.1) r.0, seen_length us)

pub not_read_so : (source : List ℕ) (ts : List Token) (n : ℕ) (u : CUnit) → as_seen ts ≡ tokens_of source → EndsOnce (tokens_of source) → PieceFails SOURCE (as_seen ts) (Left n) → ReadsAs source u → ⊥
not_read_so source ts n u e h f r = let g = refused source ts n e f in not_read source g.0 u h g.1 r

pub fault_of_first_bad : (source : List ℕ) (ts us : List Token) (n : ℕ) (x : ReadFault) → length source ≤ 1048576 → as_seen ts ≡ tokens_of source → as_seen us ≡ tokens_of source → EndsOnce (tokens_of source) → PieceFails SOURCE (as_seen ts) (Left n) →
    ((before after : List Token) (t : Token) → us ≡ before ++ t ∷ after → length (t ∷ after) ≡ n → x ≡ fault_at (token_view t)) → FaultIs source x
fault_of_first_bad source ts us n x le e g h f is_fault =
    let r = refused source ts n e f in
    let b = is_first_bad source r.0 h r.1 in
    let at_front : tokens_of source ≡ first_bad_before source r.0 h r.1 ++ b.0 ∷ b.1 = first_bad_stands source r.0 h r.1 ∙ ap (λ l. first_bad_before source r.0 h r.1 ++ l) b.2 in
    let p = in_place us (first_bad_before source r.0 h r.1) b.0 b.1 (g ∙ at_front) in
    let is : x ≡ fault_at b.0 = is_fault p.0 p.2 p.1 p.3 (omega (arith, p.5, r.2, ap length b.2)) ∙ ap fault_at p.4 in
    subst (FaultIs source) (sym is) (fault_is source b.0 le b.3)
