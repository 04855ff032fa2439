-- What the machine does is derived: what completes a later state completes an earlier one, with the tokens in between.
use Rattle.std.proofs.Common.{◌≡◌, List, [], ◌∷◌, ◌++◌, refl, sym, ap, ◌∙◌, subst, append_assoc}
use Rattle.std.specs.Prelude.{Bool, true, false, cond, Option, Some, None}
use Rattle.c0_tokens.specs.Tokens.{CToken}
use Rattle.c0_parser.specs.Sorts.{Sort, among}
use Rattle.c0_parser.specs.Value.{SemanticValue, token, pair, none, snoc}
use Rattle.c0_parser.specs.Grammar.{Piece, one_of, ◌▸◌, ◌or◌, many, maybe, the, production_value, Derives, taken, both, first, second, no_more, one_more, left_out, there, made}
use Rattle.c0_parser.specs.Machine.{ParserState, at, Task, want, more, act, listed, parser_step, picks, heads, kind, ParserLeads, still, go}

-- more of a list whose first parts were read
pub data More : Piece → SemanticValue → List CToken → SemanticValue → Type 0 where
  ends : {a : Piece} {v : SemanticValue} → More a v [] v
  goes_on : {a : Piece} {v w u : SemanticValue} {xs ys : List CToken} → Derives a xs w → More a (snoc v w) ys u → More a v (xs ++ ys) u

-- what more of a list does to the values
abbrev pub MoreOf : Piece → List SemanticValue → List CToken → List SemanticValue → Type 0
MoreOf a [] xs ws = (v : SemanticValue) × (u : SemanticValue) × More a v xs u × (ws ≡ [])
MoreOf a (v ∷ vs) xs ws = (u : SemanticValue) × More a v xs u × (ws ≡ u ∷ vs)

abbrev pub top : List SemanticValue → SemanticValue
top [] = none
top (v ∷ vs) = v

-- that these tokens do what is to be done and leave this value
abbrev pub Means : List Task → List SemanticValue → List CToken → SemanticValue → Type 0
Means [] vs xs u = (xs ≡ []) × (top vs ≡ u)
Means (want p ∷ st) vs xs u = (ys : List CToken) × (zs : List CToken) × (v : SemanticValue) × (xs ≡ ys ++ zs) × Derives p ys v × Means st (v ∷ vs) zs u
Means (more a ∷ st) vs xs u = (ys : List CToken) × (zs : List CToken) × (ws : List SemanticValue) × (xs ≡ ys ++ zs) × MoreOf a vs ys ws × Means st ws zs u
Means (act f ∷ st) vs xs u = Means st (f vs) xs u

append_nil : (l : List CToken) → l ++ [] ≡ l
append_nil [] = refl
append_nil (x ∷ l) = ap (λ m. x ∷ m) (append_nil l)

derives_more : {a : Piece} {v u : SemanticValue} {xs ys : List CToken} → Derives (many a) xs v → More a v ys u → Derives (many a) (xs ++ ys) u
derives_more {a} {v} {u} {xs} d ends = subst (λ l. Derives (many a) l u) (sym (append_nil xs)) d
derives_more {a} {v} {u} {xs} d (goes_on {xs = ys} {ys = zs} e m) = subst (λ l. Derives (many a) l u) (append_assoc xs ys zs) (derives_more (one_more d e) m)

-- the parts of a list do not depend on those before
elsewhere : {a : Piece} {v u : SemanticValue} {xs : List CToken} (w : SemanticValue) → More a v xs u → (z : SemanticValue) × More a w xs z
elsewhere w ends = (w, ends)
elsewhere w (goes_on {w = x} d m) = let h = elsewhere (snoc w x) m in (h.0, goes_on d h.1)

-- the tokens from one state to another, which complete the first where something completes the second
abbrev pub Back : ParserState → ParserState → Type 0
Back (at ts st vs) (at rest st2 vs2) = (xs : List CToken) × (ts ≡ xs ++ rest) × ((ys : List CToken) (u : SemanticValue) → Means st2 vs2 ys u → Means st vs (xs ++ ys) u)

abbrev BackFrom : ParserState → Option ParserState → Type 0
BackFrom s None = Unit {0}
BackFrom s (Some t) = Back s t

two : (xs a b zs r : List CToken) → xs ≡ a ++ zs → zs ≡ b ++ r → xs ≡ (a ++ b) ++ r
two xs a b zs r e f = e ∙ ap (λ l. a ++ l) f ∙ sym (append_assoc a b r)

back_taken : (s : Sort) (ss : List Sort) (t : CToken) (ts : List CToken) (st : List Task) (vs : List SemanticValue) (b : Bool) → among (s ∷ ss) (kind t) ≡ b → BackFrom (at (t ∷ ts) (want (one_of s ss) ∷ st) vs) (cond b (Some (at ts st (token t ∷ vs))) None)
back_taken s ss t ts st vs true e = (t ∷ [], refl, λ ys u h. (t ∷ [], ys, token t, refl, taken s ss t e, h))
back_taken s ss t ts st vs false e = tt

means_or : (a b : Piece) (st : List Task) (vs : List SemanticValue) (c : Bool) (ys : List CToken) (u : SemanticValue) → Means (want (cond c a b) ∷ st) vs ys u → Means (want (a or b) ∷ st) vs ys u
means_or a b st vs true ys u h = (h.0, h.1, h.2, h.3, first h.4, h.5)
means_or a b st vs false ys u h = (h.0, h.1, h.2, h.3, second h.4, h.5)

back_maybe : (a : Piece) (ts : List CToken) (st : List Task) (vs : List SemanticValue) (c : Bool) → Back (at ts (want (maybe a) ∷ st) vs) (cond c (at ts (want a ∷ act listed ∷ st) (none ∷ vs)) (at ts st (none ∷ vs)))
back_maybe a ts st vs true = ([], refl, λ ys u h. (h.0, h.1, snoc none h.2, h.3, there h.4, h.5))
back_maybe a ts st vs false = ([], refl, λ ys u h. ([], ys, none, refl, left_out, h))

means_more : (a : Piece) (st : List Task) (vs : List SemanticValue) (ys : List CToken) (u : SemanticValue) → Means (want a ∷ act listed ∷ more a ∷ st) vs ys u → Means (more a ∷ st) vs ys u
means_more a st [] ys u h =
    let m = h.5.4 in
    let e = elsewhere (snoc none h.2) m.2 in
    (h.0 ++ h.5.0, h.5.1, h.5.2, two ys h.0 h.5.0 h.1 h.5.1 h.3 h.5.3, (none, e.0, goes_on h.4 e.1, m.3), h.5.5)
means_more a st (v ∷ vs) ys u h =
    let m = h.5.4 in
    (h.0 ++ h.5.0, h.5.1, h.5.2, two ys h.0 h.5.0 h.1 h.5.1 h.3 h.5.3, (m.0, goes_on h.4 m.1, m.2), h.5.5)

pub no_more_of : (a : Piece) (vs : List SemanticValue) → MoreOf a vs [] vs
no_more_of a [] = (none, none, ends, refl)
no_more_of a (v ∷ vs) = (v, ends, refl)

back_more : (a : Piece) (ts : List CToken) (st : List Task) (vs : List SemanticValue) (c : Bool) → Back (at ts (more a ∷ st) vs) (cond c (at ts (want a ∷ act listed ∷ more a ∷ st) vs) (at ts st vs))
back_more a ts st vs true = ([], refl, means_more a st vs)
back_more a ts st vs false = ([], refl, λ ys u h. ([], ys, vs, refl, no_more_of a vs, h))

back_step : (s : ParserState) → BackFrom s (parser_step s)
back_step (at ts [] vs) = tt
back_step (at [] (want (one_of s ss) ∷ st) vs) = tt
back_step (at (t ∷ ts) (want (one_of s ss) ∷ st) vs) = back_taken s ss t ts st vs (among (s ∷ ss) (kind t)) refl
back_step (at ts (want (a ▸ b) ∷ st) vs) = ([], refl, λ ys u h. (h.0 ++ h.5.0, h.5.1, pair h.2 h.5.2, two ys h.0 h.5.0 h.1 h.5.1 h.3 h.5.3, both h.4 h.5.4, h.5.5))
back_step (at ts (want (a or b) ∷ st) vs) = ([], refl, means_or a b st vs (picks a b ts))
back_step (at ts (want (many a) ∷ st) vs) = ([], refl, λ ys u h. (h.0, h.1, h.4.0, h.3, derives_more no_more h.4.1, subst (λ ws. Means st ws h.1 u) h.4.2 h.5))
back_step (at ts (want (maybe a) ∷ st) vs) = back_maybe a ts st vs (heads a ts)
back_step (at ts (want (the r) ∷ st) vs) = ([], refl, λ ys u h. (h.0, h.1, production_value r h.2, h.3, made r h.4, h.5))
back_step (at ts (more a ∷ st) vs) = back_more a ts st vs (heads a ts)
back_step (at ts (act f ∷ st) vs) = ([], refl, λ ys u h. h)

back_then : (a b c : ParserState) → Back a b → Back b c → Back a c
back_then (at ts st vs) (at ts2 st2 vs2) (at ts3 st3 vs3) f g =
    (f.0 ++ g.0, two ts f.0 g.0 ts2 ts3 f.1 g.1, λ ys u h. subst (λ l. Means st vs l u) (sym (append_assoc f.0 g.0 ys)) (f.2 (g.0 ++ ys) u (g.2 ys u h)))

pub back : (a b : ParserState) → ParserLeads a b → Back a b
back _ _ (still (at ts st vs)) = ([], refl, λ ys u h. h)
back _ _ (go a b c e f) = back_then a b c (subst (BackFrom a) e (back_step a)) (back b c f)
