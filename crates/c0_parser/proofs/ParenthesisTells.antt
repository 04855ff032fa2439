-- A call and an expression can both begin with a name: `(` behind the name tells, since an expression ends before it there.
use Rattle.std.proofs.Common.{◌≡◌, ℕ, List, [], ◌∷◌, ◌++◌, refl, sym, ap, subst}
use Rattle.std.specs.Prelude.{Bool, true, false, not, ◌&&◌, ◌||◌}
use Rattle.c0_tokens.specs.Tokens.{CToken, name, fixed}
use Rattle.c0_tokens.specs.declared.token.Mark.TheVariants.{OpenParen}
use Rattle.c0_parser.specs.Sorts.{mark, a_name, among}
use Rattle.c0_parser.specs.Value.{SemanticValue}
use Rattle.c0_parser.specs.Grammar.{disjunction, Piece, one_of, sign, ◌▸◌, the, NAME, EXPR, Derives, taken, both}
use Rattle.c0_parser.specs.Machine.{ParserState, at, want, picks, heads, kind, starts, ParserLeads}
use Rattle.c0_parser.proofs.MachineRuns.{one_end, steps}
use Rattle.c0_parser.proofs.TokensDecide.{call_or_expr, within_at, is_name, is_mark, no_yes, or_false}
use Rattle.c0_parser.proofs.DerivedIsRead.{Stops}

pub call_shape : (a b : Piece) → call_or_expr a b ≡ true → (c : Piece) × (a ≡ NAME ▸ sign OpenParen ▸ c) × (b ≡ EXPR)
call_shape (one_of a_name [] ▸ one_of (mark OpenParen) [] ▸ c) (the disjunction) e = (c, refl, refl)
call_shape _ _ e = no_yes e

-- where a name and `(` stand, an expression ends between them
name_ends : (text : List ℕ) (a b c d : ℕ) (r : List CToken) → (v : SemanticValue) × ParserLeads (at (record { lexeme = name text; start = a; stop = b } ∷ record { lexeme = fixed OpenParen; start = c; stop = d } ∷ r) (want EXPR ∷ []) []) (at (record { lexeme = fixed OpenParen; start = c; stop = d } ∷ r) [] (v ∷ []))
name_ends text a b c d r = (_, steps 60 (at (record { lexeme = name text; start = a; stop = b } ∷ record { lexeme = fixed OpenParen; start = c; stop = d } ∷ r) (want EXPR ∷ []) []))

stops_open : (c d : ℕ) (r : List CToken) → Stops EXPR (record { lexeme = fixed OpenParen; start = c; stop = d } ∷ r) → ⊥
stops_open c d r h = no_yes (sym h)

abbrev left_of : ParserState → List CToken
left_of (at ts st vs) = ts

name_at_open : (t u : CToken) (r rest : List CToken) (v : SemanticValue) → (text : List ℕ) → t.lexeme ≡ name text → u.lexeme ≡ fixed OpenParen → ParserLeads (at (t ∷ u ∷ r) (want EXPR ∷ []) []) (at rest [] (v ∷ [])) → Stops EXPR rest → ⊥
name_at_open t u r rest v text e f l s =
    let named : t ≡ record { lexeme = name text; start = t.start; stop = t.stop } = ap (λ x. record { lexeme = x; start = t.start; stop = t.stop }) e in
    let opened : u ≡ record { lexeme = fixed OpenParen; start = u.start; stop = u.stop } = ap (λ x. record { lexeme = x; start = u.start; stop = u.stop }) f in
    let l2 : ParserLeads (at (record { lexeme = name text; start = t.start; stop = t.stop } ∷ record { lexeme = fixed OpenParen; start = u.start; stop = u.stop } ∷ r) (want EXPR ∷ []) []) (at rest [] (v ∷ []))
    = subst (λ x. ParserLeads (at (record { lexeme = name text; start = t.start; stop = t.stop } ∷ x ∷ r) (want EXPR ∷ []) []) (at rest [] (v ∷ []))) opened (subst (λ x. ParserLeads (at (x ∷ u ∷ r) (want EXPR ∷ []) []) (at rest [] (v ∷ []))) named l) in
    let ends = name_ends text t.start t.stop u.start u.stop r in
    stops_open u.start u.stop r (subst (Stops EXPR) (ap left_of (one_end _ _ _ l2 ends.1 refl refl)) s)

-- whether these begin a call
call_here : (c : Piece) (t u : CToken) (r : List CToken) → starts (NAME ▸ sign OpenParen ▸ c) (kind t) ≡ true → among (a_name ∷ []) (kind t) ≡ true
call_here c t u r e = or_false (among (a_name ∷ []) (kind t)) e

name_starts : (t : CToken) → among (a_name ∷ []) (kind t) ≡ true → starts EXPR (kind t) ≡ true
name_starts t e = within_at (among (a_name ∷ [])) (starts EXPR) t refl e

no_call_here : (c : Piece) (t u : CToken) (r rest : List CToken) (v : SemanticValue) (a b : Bool) → starts (NAME ▸ sign OpenParen ▸ c) (kind t) ≡ a → heads (sign OpenParen) (u ∷ r) ≡ b →
    ParserLeads (at (t ∷ u ∷ r) (want EXPR ∷ []) []) (at rest [] (v ∷ [])) → Stops EXPR rest → (a && (not (starts EXPR (kind t)) || b)) ≡ false
no_call_here c t u r rest v true true e f l s =
    let n = is_name t.lexeme (call_here c t u r e) in
    absurd (name_at_open t u r rest v n.0 n.1 (is_mark OpenParen u.lexeme f) l s)
no_call_here c t u r rest v true false e f l s = ap (λ y. not y || false) (name_starts t (call_here c t u r e))
no_call_here c t u r rest v false b e f l s = refl

no_call_last : (c : Piece) (t : CToken) (a : Bool) → starts (NAME ▸ sign OpenParen ▸ c) (kind t) ≡ a → (a && (not (starts EXPR (kind t)) || false)) ≡ false
no_call_last c t true e = ap (λ y. not y || false) (name_starts t (or_false (among (a_name ∷ []) (kind t)) e))
no_call_last c t false e = refl

-- where an expression is read, no call is picked
pub picks_expr : (c : Piece) (l rest : List CToken) (v : SemanticValue) → ParserLeads (at l (want EXPR ∷ []) []) (at rest [] (v ∷ [])) → Stops EXPR rest → picks (NAME ▸ sign OpenParen ▸ c) EXPR l ≡ false
picks_expr c [] rest v l s = refl
picks_expr c (t ∷ []) rest v l s = no_call_last c t (starts (NAME ▸ sign OpenParen ▸ c) (kind t)) refl
picks_expr c (t ∷ u ∷ r) rest v l s = no_call_here c t u r rest v (starts (NAME ▸ sign OpenParen ▸ c) (kind t)) (heads (sign OpenParen) (u ∷ r)) refl refl l s

picked : (a b x : Bool) → a ≡ true → b ≡ true → (a && (not x || b)) ≡ true
picked true true true e f = refl
picked true true false e f = refl
picked true false x e f = no_yes f
picked false b x e f = no_yes e

-- where a call is derived, it is picked
pub picks_call : (c : Piece) (xs rest : List CToken) (v : SemanticValue) → Derives (NAME ▸ sign OpenParen ▸ c) xs v → picks (NAME ▸ sign OpenParen ▸ c) EXPR (xs ++ rest) ≡ true
picks_call c _ rest _ (both (taken s ss t h) (both (taken s2 ss2 u h2) d)) = picked (starts (NAME ▸ sign OpenParen ▸ c) (kind t)) (heads (sign OpenParen) (u ∷ [])) (starts EXPR (kind t)) (ap (λ x. x || false) h) h2
