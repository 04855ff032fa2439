-- How what is read, or refused, of the parts of a piece makes what is read, or refused, of the piece.
use Rattle.std.proofs.Common.{◌≡◌, ℕ, ◌<◌, List, [], ◌∷◌, ◌++◌, length, map, append_assoc, refl, sym, ap, ◌∙◌, subst, arith, Some}
use Rattle.std.specs.Prelude.{Bool, true, false, not, ◌&&◌, ◌||◌}
use Rattle.std.proofs.lemmas.List.{map-append, append-nil}
use Rattle.c0_parser.proofs.TokensDecide.{apart, apart_at, same_sort_refl}
use Rattle.c0_tokens.specs.Tokens.{CToken, CLexeme, name, number, fixed, token_view, lexeme_view}
use Rattle.c0_tokens.specs.declared.token.Mark.{Mark}
use Rattle.c0_tokens.specs.declared.token.Mark.TheVariants.{OpenParen}
use Rattle.c0_tokens.specs.declared.token.Token.{Token}
use Rattle.c0_parser.specs.Sorts.{Sort, mark, a_name, a_number, sort, same_sort, among}
use Rattle.c0_parser.specs.Value.{SemanticValue, token, pair, none, snoc, type, decl, parsed_name, lexeme_text, token_span, across, base_value, decl_value, decls, decls_in}
use Rattle.c0_tree.specs.declared.tree.Decl.{Decl}
use Rattle.c0_tree.specs.View.{decl_view}
use Rattle.c0_tree.specs.declared.tree.Span.{Span}
use Rattle.c0_tree.specs.declared.tree.Kind.TheVariants.{Unresolved}
use Rattle.c0_tree.specs.Tree.{CName, CTy, named, CDecl}
use Rattle.c0_parser.specs.Grammar.{Rule, Piece, one_of, sign, ◌▸◌, ◌or◌, many, maybe, the, production, production_value, NAME, NUMBER}
use Rattle.c0_parser.specs.Machine.{ParserState, at, Task, want, more, act, paired, listed, meant, picks, heads, kind, nullable, starts, ParserLeads, still, go}
use Rattle.c0_parser.specs.Contract.{as_seen, PieceReads, Stuck, Refuses, PieceGoesOn, PieceFails, PieceReading, ReadingAny, PieceGives, GivesAny}
use Rattle.std.specs.Prelude.{Result, Ok, Err}
use Rattle.std.specs.Result.{IsErrAnd}
use Rattle.std.specs.Borrow.{Bor}
use Rattle.c0_parser.specs.declared.reader.Halt.{Halt}
use Rattle.c0_parser.specs.declared.reader.Halt.TheVariants.{Memory, Left}
use Rattle.c0_parser.proofs.MachineRuns.{then_leads}
use Rattle.c0_parser.proofs.DerivedIsRead.{cond_true, cond_false, more_ends}

pub then_stuck : (a b : ParserState) (rest : List CToken) → ParserLeads a b → Stuck b rest → Stuck a rest
then_stuck a b rest f s = record { sort = s.sort; sorts = s.sorts; tasks = s.tasks; values = s.values; leads = then_leads a b _ f s.leads; refused = s.refused }

pub goes_one : (s : Sort) (ss : List Sort) (t : CToken) (ts rest : List CToken) → ts ≡ t ∷ rest → among (s ∷ ss) (kind t) ≡ true → PieceReads (one_of s ss) ts (token t) rest
goes_one s ss t ts rest e h = record { by = λ st vs. subst (λ l. ParserLeads (at l (want (one_of s ss) ∷ st) vs) (at rest st (token t ∷ vs))) (sym e) (go _ (at rest st (token t ∷ vs)) _ (cond_true (among (s ∷ ss) (kind t)) _ _ h) (still _)) }

pub refuses_one : (s : Sort) (ss : List Sort) (ts : List CToken) → heads (one_of s ss) ts ≡ false → Refuses (one_of s ss) ts ts
refuses_one s ss ts h = record { by = λ st vs. record { sort = s; sorts = ss; tasks = st; values = vs; leads = still _; refused = h } }

pub goes_both : {a b : Piece} {ts mid rest : List CToken} {v w : SemanticValue} → PieceReads a ts v mid → PieceReads b mid w rest → PieceReads (a ▸ b) ts (pair v w) rest
goes_both {a} {b} {ts} {mid} {rest} {v} {w} f g = record {
  by = λ st vs.
      go _ (at ts (want a ∷ want b ∷ act paired ∷ st) vs) _ refl
      (then_leads _ _ _ (f.by (want b ∷ act paired ∷ st) vs) (then_leads _ _ _ (g.by (act paired ∷ st) (v ∷ vs)) (go _ (at rest st (pair v w ∷ vs)) _ refl (still _))));
}

pub refuses_left : {a : Piece} (b : Piece) {ts rest : List CToken} → Refuses a ts rest → Refuses (a ▸ b) ts rest
refuses_left {a} b {ts} {rest} f = record { by = λ st vs. then_stuck _ _ rest (go _ (at ts (want a ∷ want b ∷ act paired ∷ st) vs) _ refl (still _)) (f.by (want b ∷ act paired ∷ st) vs) }

pub refuses_right : {a b : Piece} {ts mid rest : List CToken} {v : SemanticValue} → PieceReads a ts v mid → Refuses b mid rest → Refuses (a ▸ b) ts rest
refuses_right {a} {b} {ts} {mid} {rest} {v} f g = record {
  by = λ st vs.
      then_stuck _ _ rest (go _ (at ts (want a ∷ want b ∷ act paired ∷ st) vs) _ refl (f.by (want b ∷ act paired ∷ st) vs)) (g.by (act paired ∷ st) (v ∷ vs));
}

to_first : (a b : Piece) (ts : List CToken) (st : List Task) (vs : List SemanticValue) → picks a b ts ≡ true → ParserLeads (at ts (want (a or b) ∷ st) vs) (at ts (want a ∷ st) vs)
to_first a b ts st vs h = go _ (at ts (want a ∷ st) vs) _ (ap (λ p. Some (at ts (want p ∷ st) vs)) (cond_true (picks a b ts) a b h)) (still _)

to_second : (a b : Piece) (ts : List CToken) (st : List Task) (vs : List SemanticValue) → picks a b ts ≡ false → ParserLeads (at ts (want (a or b) ∷ st) vs) (at ts (want b ∷ st) vs)
to_second a b ts st vs h = go _ (at ts (want b ∷ st) vs) _ (ap (λ p. Some (at ts (want p ∷ st) vs)) (cond_false (picks a b ts) a b h)) (still _)

pub goes_first : {a : Piece} (b : Piece) {ts rest : List CToken} {v : SemanticValue} → picks a b ts ≡ true → PieceReads a ts v rest → PieceReads (a or b) ts v rest
goes_first {a} b {ts} h f = record { by = λ st vs. then_leads _ _ _ (to_first a b ts st vs h) (f.by st vs) }

pub goes_second : (a : Piece) {b : Piece} {ts rest : List CToken} {v : SemanticValue} → picks a b ts ≡ false → PieceReads b ts v rest → PieceReads (a or b) ts v rest
goes_second a {b} {ts} h f = record { by = λ st vs. then_leads _ _ _ (to_second a b ts st vs h) (f.by st vs) }

pub refuses_first : {a : Piece} (b : Piece) {ts rest : List CToken} → picks a b ts ≡ true → Refuses a ts rest → Refuses (a or b) ts rest
refuses_first {a} b {ts} {rest} h f = record { by = λ st vs. then_stuck _ _ rest (to_first a b ts st vs h) (f.by st vs) }

pub refuses_second : (a : Piece) {b : Piece} {ts rest : List CToken} → picks a b ts ≡ false → Refuses b ts rest → Refuses (a or b) ts rest
refuses_second a {b} {ts} {rest} h f = record { by = λ st vs. then_stuck _ _ rest (to_second a b ts st vs h) (f.by st vs) }

pub goes_the : (r : Rule) {ts rest : List CToken} {v : SemanticValue} → PieceReads (production r) ts v rest → PieceReads (the r) ts (production_value r v) rest
goes_the r {ts} {rest} {v} f = record {
  by = λ st vs.
      go _ (at ts (want (production r) ∷ act (meant r) ∷ st) vs) _ refl (then_leads _ _ _ (f.by (act (meant r) ∷ st) vs) (go _ (at rest st (production_value r v ∷ vs)) _ refl (still _)));
}

pub refuses_the : (r : Rule) {ts rest : List CToken} → Refuses (production r) ts rest → Refuses (the r) ts rest
refuses_the r {ts} {rest} f = record { by = λ st vs. then_stuck _ _ rest (go _ (at ts (want (production r) ∷ act (meant r) ∷ st) vs) _ refl (still _)) (f.by (act (meant r) ∷ st) vs) }

pub goes_without : (a : Piece) (ts : List CToken) → heads a ts ≡ false → PieceReads (maybe a) ts none ts
goes_without a ts h = record { by = λ st vs. go _ (at ts st (none ∷ vs)) _ (ap Some (cond_false (heads a ts) _ _ h)) (still _) }

to_there : (a : Piece) (ts : List CToken) (st : List Task) (vs : List SemanticValue) → heads a ts ≡ true → ParserLeads (at ts (want (maybe a) ∷ st) vs) (at ts (want a ∷ act listed ∷ st) (none ∷ vs))
to_there a ts st vs h = go _ (at ts (want a ∷ act listed ∷ st) (none ∷ vs)) _ (ap Some (cond_true (heads a ts) _ _ h)) (still _)

pub goes_with : {a : Piece} {ts rest : List CToken} {v : SemanticValue} → heads a ts ≡ true → PieceReads a ts v rest → PieceReads (maybe a) ts (snoc none v) rest
goes_with {a} {ts} {rest} {v} h f = record {
  by = λ st vs.
      then_leads _ _ _ (to_there a ts st vs h) (then_leads _ _ _ (f.by (act listed ∷ st) (none ∷ vs)) (go _ (at rest st (snoc none v ∷ vs)) _ refl (still _)));
}

pub refuses_with : {a : Piece} {ts rest : List CToken} → heads a ts ≡ true → Refuses a ts rest → Refuses (maybe a) ts rest
refuses_with {a} {ts} {rest} h f = record { by = λ st vs. then_stuck _ _ rest (to_there a ts st vs h) (f.by (act listed ∷ st) (none ∷ vs)) }

-- lists
pub list_starts : (a : Piece) (ts : List CToken) (v : SemanticValue) → PieceGoesOn a ts v ts v
list_starts a ts v = record { by = λ st vs. still _ }

to_item : (a : Piece) (ts : List CToken) (st : List Task) (vs : List SemanticValue) → heads a ts ≡ true → ParserLeads (at ts (more a ∷ st) vs) (at ts (want a ∷ act listed ∷ more a ∷ st) vs)
to_item a ts st vs h = go _ (at ts (want a ∷ act listed ∷ more a ∷ st) vs) _ (ap Some (cond_true (heads a ts) _ _ h)) (still _)

pub list_item : {a : Piece} {ts mid rest : List CToken} {v w x : SemanticValue} → PieceGoesOn a ts v mid w → heads a mid ≡ true → PieceReads a mid x rest → PieceGoesOn a ts v rest (snoc w x)
list_item {a} {ts} {mid} {rest} {v} {w} {x} f h g = record {
  by = λ st vs.
      then_leads _ _ _ (f.by st vs) (then_leads _ _ _ (to_item a mid st (w ∷ vs) h)
      (then_leads _ _ _ (g.by (act listed ∷ more a ∷ st) (w ∷ vs)) (go _ (at rest (more a ∷ st) (snoc w x ∷ vs)) _ refl (still _))));
}

pub goes_many : {a : Piece} {ts rest : List CToken} {v : SemanticValue} → PieceGoesOn a ts none rest v → heads a rest ≡ false → PieceReads (many a) ts v rest
goes_many {a} {ts} {rest} {v} f h = record {
  by = λ st vs.
      go _ (at ts (more a ∷ st) (none ∷ vs)) _ refl (then_leads _ _ _ (f.by st vs) (more_ends a rest st (v ∷ vs) h));
}

pub refuses_many : {a : Piece} {ts mid rest : List CToken} {v : SemanticValue} → PieceGoesOn a ts none mid v → heads a mid ≡ true → Refuses a mid rest → Refuses (many a) ts rest
refuses_many {a} {ts} {mid} {rest} {v} f h g = record {
  by = λ st vs.
      then_stuck _ _ rest (go _ (at ts (more a ∷ st) (none ∷ vs)) _ refl (then_leads _ _ _ (f.by st vs) (to_item a mid st (v ∷ vs) h))) (g.by (act listed ∷ more a ∷ st) (v ∷ vs));
}

-- the same for the fault that is answered
memory_left : (n : ℕ) → Memory ≡ Left n → ⊥
memory_left n e = cc

pub no_memory : (p : Piece) (ts : List CToken) (h : Halt) → h ≡ Memory → PieceFails p ts h
no_memory p ts h e = record { by = λ n f. absurd (memory_left n (sym e ∙ f)) }

same_left : (m n : ℕ) → Left m ≡ Left n → m ≡ n
same_left m n e = cc

pub fails_by : {p : Piece} {ts rest : List CToken} (n : ℕ) → Refuses p ts rest → length rest ≡ n → PieceFails p ts (Left n)
fails_by {p} {ts} {rest} n f e = record { by = λ m g. (rest, f, e ∙ same_left n m g) }

pub fails_left : {a : Piece} (b : Piece) {ts : List CToken} {h : Halt} → PieceFails a ts h → PieceFails (a ▸ b) ts h
fails_left b f = record { by = λ n e. let r = f.by n e in (r.0, refuses_left b r.1, r.2) }

pub fails_right : {a b : Piece} {ts mid : List CToken} {v : SemanticValue} {h : Halt} → PieceReads a ts v mid → PieceFails b mid h → PieceFails (a ▸ b) ts h
fails_right g f = record { by = λ n e. let r = f.by n e in (r.0, refuses_right g r.1, r.2) }

pub fails_first : {a : Piece} (b : Piece) {ts : List CToken} {h : Halt} → picks a b ts ≡ true → PieceFails a ts h → PieceFails (a or b) ts h
fails_first b p f = record { by = λ n e. let r = f.by n e in (r.0, refuses_first b p r.1, r.2) }

pub fails_second : (a : Piece) {b : Piece} {ts : List CToken} {h : Halt} → picks a b ts ≡ false → PieceFails b ts h → PieceFails (a or b) ts h
fails_second a p f = record { by = λ n e. let r = f.by n e in (r.0, refuses_second a p r.1, r.2) }

pub fails_the : (q : Rule) {ts : List CToken} {h : Halt} → PieceFails (production q) ts h → PieceFails (the q) ts h
fails_the q f = record { by = λ n e. let r = f.by n e in (r.0, refuses_the q r.1, r.2) }

pub fails_with : {a : Piece} {ts : List CToken} {h : Halt} → heads a ts ≡ true → PieceFails a ts h → PieceFails (maybe a) ts h
fails_with p f = record { by = λ n e. let r = f.by n e in (r.0, refuses_with p r.1, r.2) }

pub fails_many : {a : Piece} {ts mid : List CToken} {v : SemanticValue} {h : Halt} → PieceGoesOn a ts none mid v → heads a mid ≡ true → PieceFails a mid h → PieceFails (many a) ts h
fails_many g p f = record { by = λ n e. let r = f.by n e in (r.0, refuses_many g p r.1, r.2) }

-- a mark that stands next
sign_taken : (m : Mark) (l : CLexeme) → l ≡ fixed m → among (mark m ∷ []) (sort l) ≡ true
sign_taken m l e = ap (λ x. among (mark m ∷ []) (sort x)) e ∙ ap (λ x. x || false) (same_sort_refl (mark m))

pub goes_sign : (m : Mark) (t : Token) (ts rest : List Token) → ts ≡ t ∷ rest → lexeme_view t.lexeme ≡ fixed m → PieceReads (sign m) (as_seen ts) (token (token_view t)) (as_seen rest)
goes_sign m t ts rest e h = goes_one (mark m) [] (token_view t) (as_seen ts) (as_seen rest) (ap as_seen e) (sign_taken m (lexeme_view t.lexeme) h)

pub shorter : (t : Token) (ts rest : List Token) → ts ≡ t ∷ rest → length rest < length ts
shorter t ts rest e = omega (arith, ap length e)

pub seen_length : (ts : List Token) → length (as_seen ts) ≡ length ts
seen_length [] = refl
seen_length (t ∷ ts) = omega (arith, seen_length ts)

pub fails_sign : (m : Mark) (ts : List Token) → heads (sign m) (as_seen ts) ≡ false → PieceFails (sign m) (as_seen ts) (Left (length ts))
fails_sign m ts h = fails_by (length ts) (refuses_one (mark m) [] (as_seen ts) h) (seen_length ts)

-- a name that stands next
pub goes_name : (text : List ℕ) (t : Token) (ts rest : List Token) → ts ≡ t ∷ rest → lexeme_view t.lexeme ≡ name text → PieceReads NAME (as_seen ts) (token (token_view t)) (as_seen rest)
goes_name text t ts rest e h = goes_one a_name [] (token_view t) (as_seen ts) (as_seen rest) (ap as_seen e) (ap (λ x. among (a_name ∷ []) (sort x)) h)

abbrev name_of : List ℕ → Token → CName
name_of l t = record { text = l; span = record { start = t.start; end = t.end }; kind = Unresolved; number = 0 }

pub named_at : (text : List ℕ) (t : Token) (bytes : List ℕ) → lexeme_view t.lexeme ≡ name text → bytes ≡ text → parsed_name (token_view t) ≡ name_of bytes t
named_at text t bytes h e = ap (λ l. name_of l t) (ap lexeme_text h ∙ sym e)

pub fails_name : (ts : List Token) → heads NAME (as_seen ts) ≡ false → PieceFails NAME (as_seen ts) (Left (length ts))
fails_name ts h = fails_by (length ts) (refuses_one a_name [] (as_seen ts) h) (seen_length ts)

-- a number that stands next
pub goes_number : (n : ℕ) (t : Token) (ts rest : List Token) → ts ≡ t ∷ rest → lexeme_view t.lexeme ≡ number n → PieceReads NUMBER (as_seen ts) (token (token_view t)) (as_seen rest)
goes_number n t ts rest e h = goes_one a_number [] (token_view t) (as_seen ts) (as_seen rest) (ap as_seen e) (ap (λ x. among (a_number ∷ []) (sort x)) h)

pub fails_number : (ts : List Token) → heads NUMBER (as_seen ts) ≡ false → PieceFails NUMBER (as_seen ts) (Left (length ts))
fails_number ts h = fails_by (length ts) (refuses_one a_number [] (as_seen ts) h) (seen_length ts)

-- what begins a piece, and which of two pieces comes
pub heads_or : (a b : Piece) (ts : List CToken) → heads a ts ≡ false → heads b ts ≡ false → heads (a or b) ts ≡ false
heads_or a b [] f g = refl
heads_or a b (t ∷ ts) f g = ap (λ x. x || starts b (kind t)) f ∙ g

pub heads_not : (a b : Piece) (ts : List CToken) → nullable a ≡ false → heads a ts ≡ false → heads (a ▸ b) ts ≡ false
heads_not a b [] n f = refl
heads_not a b (t ∷ ts) n f = ap (λ x. x || (nullable a && starts b (kind t))) f ∙ ap (λ x. x && starts b (kind t)) n

pub picks_not : (a b : Piece) (ts : List CToken) → heads a ts ≡ false → picks a b ts ≡ false
picks_not a b [] f = refl
picks_not a b (t ∷ ts) f = ap (λ x. x && (not (starts b (kind t)) || heads (sign OpenParen) ts)) f

pub mark_kind : {m : Mark} {l : CLexeme} → l ≡ fixed m → sort l ≡ mark m
mark_kind e = ap (λ l. sort l) e

-- a piece that begins with tokens of this sort
pub heads_at : (p : Piece) (k : Sort) (t : Token) (ts rest : List Token) → ts ≡ t ∷ rest → kind (token_view t) ≡ k → starts p k ≡ true → heads p (as_seen ts) ≡ true
heads_at p k t ts rest e f h = ap (λ l. heads p (as_seen l)) e ∙ ap (starts p) f ∙ h

pub picks_at : (a b : Piece) (k : Sort) (t : Token) (ts rest : List Token) → ts ≡ t ∷ rest → kind (token_view t) ≡ k → starts a k ≡ true → starts b k ≡ false → picks a b (as_seen ts) ≡ true
picks_at a b k t ts rest e f g h =
    ap (λ l. picks a b (as_seen l)) e ∙ ap (λ x. starts a x && (not (starts b x) || heads (sign OpenParen) (as_seen rest))) f
    ∙ ap (λ x. x && (not (starts b k) || heads (sign OpenParen) (as_seen rest))) g ∙ ap (λ x. not x || heads (sign OpenParen) (as_seen rest)) h

-- where a `?` leaves
pub exits : {A : Type 0} (p : Piece) (Is : A → SemanticValue → Type 0) (ts : List Token) (r : Result (A × Bor (List Token)) Halt) (e : Halt) → IsErrAnd r (λ y. y ≡ e) → PieceFails p (as_seen ts) e → PieceGives p Is ts r
exits p Is ts (Ok x) e h f = absurd h
exits p Is ts (Err y) e h f = subst (PieceFails p (as_seen ts)) (sym h) f

pub exits_any : {A : Type 0} (p : Piece) (Is : A → SemanticValue → Type 0) (ts : List Token) (r : Result (A × Bor (List Token)) Halt) (e : Halt) → IsErrAnd r (λ y. y ≡ e) → PieceFails p (as_seen ts) e → GivesAny p Is ts r
exits_any p Is ts (Ok x) e h f = absurd h
exits_any p Is ts (Err y) e h f = subst (PieceFails p (as_seen ts)) (sym h) f

-- the first of two pieces, at a token of a known sort
pub goes_first_at : (a b : Piece) (k : Sort) {t : Token} {ts rest : List Token} {v : SemanticValue} {after : List CToken} → ts ≡ t ∷ rest → kind (token_view t) ≡ k → starts a k ≡ true → starts b k ≡ false → PieceReads a (as_seen ts) v after → PieceReads (a or b) (as_seen ts) v after
goes_first_at a b k {t} {ts} {rest} e f g h d = goes_first b (picks_at a b k t ts rest e f g h) d

pub fails_first_at : (a b : Piece) (k : Sort) {t : Token} {ts rest : List Token} {h : Halt} → ts ≡ t ∷ rest → kind (token_view t) ≡ k → starts a k ≡ true → starts b k ≡ false → PieceFails a (as_seen ts) h → PieceFails (a or b) (as_seen ts) h
fails_first_at a b k {t} {ts} {rest} e f g h d = fails_first b (picks_at a b k t ts rest e f g h) d

-- the second of two pieces, where the first cannot begin
pub goes_second_not : (a : Piece) {b : Piece} {ts rest : List CToken} {v : SemanticValue} → heads a ts ≡ false → PieceReads b ts v rest → PieceReads (a or b) ts v rest
goes_second_not a {b} {ts} h d = goes_second a (picks_not a b ts h) d

pub fails_second_not : (a : Piece) {b : Piece} {ts : List CToken} {h : Halt} → heads a ts ≡ false → PieceFails b ts h → PieceFails (a or b) ts h
fails_second_not a {b} {ts} h d = fails_second a (picks_not a b ts h) d

-- a mark among those that may stand next
pub goes_mark : (s : Sort) (ss : List Sort) (m : Mark) (t : Token) (ts rest : List Token) → among (s ∷ ss) (mark m) ≡ true → ts ≡ t ∷ rest → lexeme_view t.lexeme ≡ fixed m → PieceReads (one_of s ss) (as_seen ts) (token (token_view t)) (as_seen rest)
goes_mark s ss m t ts rest h e f = goes_one s ss (token_view t) (as_seen ts) (as_seen rest) (ap as_seen e) (ap (among (s ∷ ss)) (mark_kind f) ∙ h)

pub heads_is : (p : Piece) (k : Sort) {t : Token} {ts rest : List Token} → ts ≡ t ∷ rest → kind (token_view t) ≡ k → heads p (as_seen ts) ≡ starts p k
heads_is p k e f = ap (λ l. heads p (as_seen l)) e ∙ ap (starts p) f

either : (x y : Bool) → (x || false) ≡ false → (y || false) ≡ false → (x || (y || false)) ≡ false
either true y f g = f
either false y f g = g

pub heads_two : (a b : Sort) (ts : List CToken) → heads (one_of a []) ts ≡ false → heads (one_of b []) ts ≡ false → heads (one_of a (b ∷ [])) ts ≡ false
heads_two a b [] f g = refl
heads_two a b (t ∷ ts) f g = either (same_sort a (kind t)) (same_sort b (kind t)) f g

-- where a last call answers
pub tails : {A : Type 0} (p q : Piece) (Is Js : A → SemanticValue → Type 0) (ts us : List Token) (r : Result (A × Bor (List Token)) Halt) → ((x : A × Bor (List Token)) → PieceReading q Js us x → PieceReading p Is ts x) → ((h : Halt) → PieceFails q (as_seen us) h → PieceFails p (as_seen ts) h) → PieceGives q Js us r → PieceGives p Is ts r
tails p q Is Js ts us (Ok x) f g h = f x h
tails p q Is Js ts us (Err e) f g h = g e h

pub tails_more : {A : Type 0} (p q : Piece) (Is Js : A → SemanticValue → Type 0) (ts us : List Token) (r : Result (A × Bor (List Token)) Halt) → ((x : A × Bor (List Token)) → ReadingAny q Js us x → PieceReading p Is ts x) → ((h : Halt) → PieceFails q (as_seen us) h → PieceFails p (as_seen ts) h) → GivesAny q Js us r → PieceGives p Is ts r
tails_more p q Is Js ts us (Ok x) f g h = f x h
tails_more p q Is Js ts us (Err e) f g h = g e h

pub tails_any : {A : Type 0} (p q : Piece) (Is Js : A → SemanticValue → Type 0) (ts us : List Token) (r : Result (A × Bor (List Token)) Halt) → ((x : A × Bor (List Token)) → ReadingAny q Js us x → ReadingAny p Is ts x) → ((h : Halt) → PieceFails q (as_seen us) h → PieceFails p (as_seen ts) h) → GivesAny q Js us r → GivesAny p Is ts r
tails_any p q Is Js ts us (Ok x) f g h = f x h
tails_any p q Is Js ts us (Err e) f g h = g e h

-- lists: the first state, and one more part
pub list_begins : (a : Piece) (ts rest : List Token) → rest ≡ ts → PieceGoesOn a (as_seen ts) none (as_seen rest) none
list_begins a ts rest e = subst (λ l. PieceGoesOn a (as_seen ts) none (as_seen l) none) (sym e) (list_starts a (as_seen ts) none)

pub list_more : {a : Piece} {ts after : List CToken} {mid here : List Token} {w x : SemanticValue} → PieceGoesOn a ts none (as_seen mid) w → here ≡ mid → heads a (as_seen mid) ≡ true → PieceReads a (as_seen here) x after → PieceGoesOn a ts none after (snoc w x)
list_more {a} {ts} {after} {mid} {here} {w} {x} g e h f = list_item g h (subst (λ l. PieceReads a (as_seen l) x after) e f)

pub fails_list : {a : Piece} {ts : List CToken} {mid here : List Token} {v : SemanticValue} {h : Halt} → PieceGoesOn a ts none (as_seen mid) v → here ≡ mid → heads a (as_seen mid) ≡ true → PieceFails a (as_seen here) h → PieceFails (many a) ts h
fails_list {a} {ts} {mid} {here} {v} {h} g e i f = fails_many g i (subst (λ l. PieceFails a (as_seen l) h) e f)

-- one more element of a list, and of what it stands for
pub mapped_more : {A B : Type 0} (f : A → B) (xs ys : List A) (x : A) (bs : List B) → bs ≡ map f xs → ys ≡ xs ++ x ∷ [] → bs ++ f x ∷ [] ≡ map f ys
mapped_more f xs ys x bs e g = ap (λ l. l ++ f x ∷ []) e ∙ sym (map-append f xs (x ∷ [])) ∙ ap (map f) (sym g)

-- what begins a declaration begins a line
pub heads_then : (a b : Piece) (ts : List CToken) → heads a ts ≡ true → heads (a ▸ b) ts ≡ true
heads_then a b [] h = h
heads_then a b (t ∷ ts) h = ap (λ x. x || (nullable a && starts b (kind t))) h

-- the first of two pieces that no token begins together
picks_apart : (a b : Piece) (ts : List CToken) → apart (starts a) (starts b) ≡ true → heads a ts ≡ true → picks a b ts ≡ true
picks_apart a b [] h f = f
picks_apart a b (t ∷ ts) h f = ap (λ x. x && (not (starts b (kind t)) || heads (sign OpenParen) ts)) f ∙ ap (λ x. not x || heads (sign OpenParen) ts) (apart_at (starts a) (starts b) t h f)

pub goes_first_heads : (a b : Piece) {ts rest : List CToken} {v : SemanticValue} → apart (starts a) (starts b) ≡ true → heads a ts ≡ true → PieceReads a ts v rest → PieceReads (a or b) ts v rest
goes_first_heads a b {ts} h f g = goes_first b (picks_apart a b ts h f) g

pub fails_first_heads : (a b : Piece) {ts : List CToken} {h : Halt} → apart (starts a) (starts b) ≡ true → heads a ts ≡ true → PieceFails a ts h → PieceFails (a or b) ts h
fails_first_heads a b {ts} h f g = fails_first b (picks_apart a b ts h f) g

-- the meanings of small productions
abbrev pub decl_with : Span → CTy → CName → CDecl
decl_with s t n = record { ty = t; ty_span = s; name = n }

pub struct_base : (a b : SemanticValue) (t x : CToken) (s : Span) (n : CName) → a ≡ token t → b ≡ token x → parsed_name x ≡ n → token_span x ≡ s → base_value (pair a b) ≡ type (across (token_span t) s) (named n)
struct_base a b t x s n e f g h =
    ap (λ v. base_value (pair v b)) e ∙ ap (λ v. base_value (pair (token t) v)) f ∙ ap (λ m. type (across (token_span t) (token_span x)) (named m)) g ∙ ap (λ p. type (across (token_span t) p) (named n)) h

pub decl_meaning : (a b : SemanticValue) (s : Span) (t : CTy) (x : CToken) (n : CName) → a ≡ type s t → b ≡ token x → parsed_name x ≡ n → decl_value (pair a b) ≡ decl (decl_with s t n)
decl_meaning a b s t x n e f g =
    ap (λ v. decl_value (pair v b)) e ∙ ap (λ v. decl_value (pair (type s t) v)) f ∙ ap (λ m. decl (decl_with s t m)) g

-- one more declaration behind others
pub more_decls : (first list more_ : List Decl) (d : Decl) (v x : SemanticValue) → map decl_view first ++ decls v ≡ map decl_view list → decls_in x ≡ decl_view d ∷ [] → more_ ≡ list ++ d ∷ [] → map decl_view first ++ decls (snoc v x) ≡ map decl_view more_
more_decls first list more_ d v x e f g =
    sym (append_assoc (map decl_view first) (decls v) (decls_in x)) ∙ ap (λ l. l ++ decls_in x) e ∙ ap (λ l. map decl_view list ++ l) f
    ∙ sym (map-append decl_view list (d ∷ [])) ∙ ap (map decl_view) (sym g)

pub no_decls : (first list : List Decl) → list ≡ first → map decl_view first ++ decls none ≡ map decl_view list
no_decls first list e = append-nil (map decl_view first) ∙ ap (map decl_view) (sym e)

pub comma_decl : (a b : SemanticValue) (d : Decl) {t : CToken} → a ≡ token t → b ≡ decl (decl_view d) → decls_in (pair a b) ≡ decl_view d ∷ []
comma_decl a b d {t} e f = ap (λ v. decls_in (pair v b)) e ∙ ap (λ v. decls_in (pair (token t) v)) f

-- a part that is there, where the same tokens stand under another name
pub goes_with_at : {a : Piece} {ts here : List Token} {rest : List CToken} {v : SemanticValue} → here ≡ ts → heads a (as_seen ts) ≡ true → PieceReads a (as_seen here) v rest → PieceReads (maybe a) (as_seen ts) (snoc none v) rest
goes_with_at {a} {ts} {here} {rest} {v} e h f = goes_with h (subst (λ l. PieceReads a (as_seen l) v rest) e f)

pub fails_with_at : {a : Piece} {ts here : List Token} {h : Halt} → here ≡ ts → heads a (as_seen ts) ≡ true → PieceFails a (as_seen here) h → PieceFails (maybe a) (as_seen ts) h
fails_with_at {a} {ts} {here} {h} e i f = fails_with i (subst (λ l. PieceFails a (as_seen l) h) e f)

pub one_decl : (before after : List Decl) (d : Decl) → before ≡ [] → after ≡ before ++ d ∷ [] → map decl_view after ≡ decl_view d ∷ []
one_decl before after d e f = ap (map decl_view) (f ∙ ap (λ l. l ++ d ∷ []) e)

-- the second of two pieces that no token begins together
picks_second_heads : (a b : Piece) (ts : List CToken) → apart (starts b) (starts a) ≡ true → heads b ts ≡ true → picks a b ts ≡ false
picks_second_heads a b [] h f = refl
picks_second_heads a b (t ∷ ts) h f = ap (λ x. x && (not (starts b (kind t)) || heads (sign OpenParen) ts)) (apart_at (starts b) (starts a) t h f)

pub goes_second_heads : (a b : Piece) {ts rest : List CToken} {v : SemanticValue} → apart (starts b) (starts a) ≡ true → heads b ts ≡ true → PieceReads b ts v rest → PieceReads (a or b) ts v rest
goes_second_heads a b {ts} h f g = goes_second a (picks_second_heads a b ts h f) g

pub fails_second_heads : (a b : Piece) {ts : List CToken} {h : Halt} → apart (starts b) (starts a) ≡ true → heads b ts ≡ true → PieceFails b ts h → PieceFails (a or b) ts h
fails_second_heads a b {ts} h f g = fails_second a (picks_second_heads a b ts h f) g
