-- Where the machine is stuck at a token, it is stuck there whatever follows.
use Rattle.std.proofs.Common.{◌≡◌, ℕ, ◌≤◌, List, [], ◌∷◌, ◌++◌, length, refl, sym, ap, ◌∙◌, subst, arith, length-append, Option, Some, None, inl, inr}
use Rattle.std.specs.Prelude.{Bool, true, false, cond, not, ◌&&◌, ◌||◌, ◌⊎◌}
use Rattle.c0_tokens.specs.Tokens.{CToken, name}
use Rattle.c0_tokens.specs.declared.token.Mark.TheVariants.{OpenParen}
use Rattle.c0_parser.specs.Sorts.{Sort, a_name, among}
use Rattle.c0_parser.specs.Value.{SemanticValue, token, none}
use Rattle.c0_parser.specs.Grammar.{Piece, one_of, sign, ◌▸◌, ◌or◌, many, maybe, the, production, NAME, EXPR}
use Rattle.c0_parser.specs.Machine.{ParserState, at, Task, want, more, act, paired, listed, meant, parser_step, picks, heads, kind, nullable, starts, ParserLeads, still, go}
use Rattle.c0_parser.specs.Contract.{Stuck}
use Rattle.c0_parser.proofs.MachineRuns.{onward, steps}
use Rattle.c0_parser.proofs.ReadIsDerived.{back}
use Rattle.c0_parser.proofs.TokensDecide.{apart, apart_at, call_or_expr, good, all_good, and_left, and_right, is_name, or_false}
use Rattle.c0_parser.proofs.DerivedIsRead.{cond_true, cond_false}
use Rattle.c0_parser.proofs.ParenthesisTells.{call_shape}
use Rattle.c0_parser.proofs.PieceSteps.{then_stuck}

abbrev pub left_of : ParserState → List CToken
left_of (at ts st vs) = ts

abbrev pub tasks_of : ParserState → List Task
tasks_of (at ts st vs) = st

abbrev pub with_tokens : List CToken → ParserState → ParserState
with_tokens us (at ts st vs) = at us st vs

-- the tokens left get no more
fewer : (a b : ParserState) → ParserLeads a b → length (left_of b) ≤ length (left_of a)
fewer (at ts st vs) (at rest st2 vs2) l =
    let h = back (at ts st vs) (at rest st2 vs2) l in
    omega (arith, ap length h.1, length-append h.0 rest)

-- the pieces that are wanted are pieces in which one token decides, but for a call
abbrev pub Sane : List Task → Type 0
Sane [] = Unit {0}
Sane (want p ∷ st) = (good p ≡ true) × Sane st
Sane (more a ∷ st) = (good (many a) ≡ true) × Sane st
Sane (act f ∷ st) = Sane st

abbrev SaneIn : Option ParserState → Type 0
SaneIn None = Unit {0}
SaneIn (Some s) = Sane (tasks_of s)

sane_taken : (b : Bool) (ts : List CToken) (st : List Task) (vs : List SemanticValue) → Sane st → SaneIn (cond b (Some (at ts st vs)) None)
sane_taken true ts st vs h = h
sane_taken false ts st vs h = tt

sane_or : (c : Bool) (a b : Piece) → good (a or b) ≡ true → good (cond c a b) ≡ true
sane_or true a b g = and_left (good a) _ g
sane_or false a b g = and_left (good b) _ (and_right (good a) _ g)

sane_maybe : (c : Bool) (a : Piece) (ts : List CToken) (st : List Task) (vs : List SemanticValue) → good a ≡ true → Sane st → Sane (tasks_of (cond c (at ts (want a ∷ act listed ∷ st) (none ∷ vs)) (at ts st (none ∷ vs))))
sane_maybe true a ts st vs g h = (g, h)
sane_maybe false a ts st vs g h = h

sane_more : (c : Bool) (a : Piece) (ts : List CToken) (st : List Task) (vs : List SemanticValue) → good (many a) ≡ true → Sane st → Sane (tasks_of (cond c (at ts (want a ∷ act listed ∷ more a ∷ st) vs) (at ts st vs)))
sane_more true a ts st vs g h = (and_left (good a) _ g, (g, h))
sane_more false a ts st vs g h = h

sane_step : (s : ParserState) → Sane (tasks_of s) → SaneIn (parser_step s)
sane_step (at ts [] vs) h = tt
sane_step (at [] (want (one_of s ss) ∷ st) vs) h = tt
sane_step (at (t ∷ ts) (want (one_of s ss) ∷ st) vs) h = sane_taken (among (s ∷ ss) (kind t)) ts st (token t ∷ vs) h.1
sane_step (at ts (want (a ▸ b) ∷ st) vs) h = (and_left (good a) _ h.0, (and_left (good b) _ (and_right (good a) _ h.0), h.1))
sane_step (at ts (want (a or b) ∷ st) vs) h = (sane_or (picks a b ts) a b h.0, h.1)
sane_step (at ts (want (many a) ∷ st) vs) h = h
sane_step (at ts (want (maybe a) ∷ st) vs) h = sane_maybe (heads a ts) a ts st vs (and_left (good a) _ h.0) h.1
sane_step (at ts (want (the r) ∷ st) vs) h = (all_good r, h.1)
sane_step (at ts (more a ∷ st) vs) h = sane_more (heads a ts) a ts st vs h.0 h.1
sane_step (at ts (act f ∷ st) vs) h = h

same_first : (p : Piece) (xs : List CToken) (t : CToken) (a b : List CToken) → heads p (xs ++ t ∷ a) ≡ heads p (xs ++ t ∷ b)
same_first p [] t a b = refl
same_first p (x ∷ xs) t a b = refl

same_picks : (p q : Piece) (x : CToken) (xs : List CToken) (t : CToken) (a b : List CToken) → picks p q (x ∷ (xs ++ t ∷ a)) ≡ picks p q (x ∷ (xs ++ t ∷ b))
same_picks p q x xs t a b = ap (λ h. starts p (kind x) && (not (starts q (kind x)) || h)) (same_first (sign OpenParen) xs t a b)

one_picks : (x y h i : Bool) → (x ≡ true → y ≡ true → ⊥) → (x && (not y || h)) ≡ (x && (not y || i))
one_picks true true h i f = absurd (f refl refl)
one_picks true false h i f = refl
one_picks false y h i f = refl

-- a state from which the machine gets stuck with these tokens left
record Ends (c : ParserState) (t : CToken) (after : List CToken) : Type 0 where
  end : ParserState
  leads : ParserLeads c end
  pub is : left_of end ≡ t ∷ after
  stuck : parser_step end ≡ None

too_few : (c : ParserState) (t : CToken) (after : List CToken) → Ends c t after → length (left_of c) ≤ length after → ⊥
too_few c t after e h = absurd (omega (arith, h, fewer c e.end e.leads, ap length e.is))

ends_on : (c d : ParserState) (t : CToken) (after : List CToken) → Ends c t after → ParserLeads c d → Ends d t after
ends_on c d t after e l = record { end = e.end; leads = onward c d e.end l e.leads e.stuck; is = e.is; stuck = e.stuck }

-- where a name stands, a call and an expression take it
call_takes : (c : Piece) (text : List ℕ) (i j : ℕ) (after : List CToken) (st : List Task) (vs : List SemanticValue) → (d : ParserState) × ParserLeads (at (record { lexeme = name text; start = i; stop = j } ∷ after) (want (NAME ▸ c) ∷ st) vs) d × (left_of d ≡ after)
call_takes c text i j after st vs = (_, steps 2 (at (record { lexeme = name text; start = i; stop = j } ∷ after) (want (NAME ▸ c) ∷ st) vs), refl)

expr_takes : (text : List ℕ) (i j : ℕ) (after : List CToken) (st : List Task) (vs : List SemanticValue) → (d : ParserState) × ParserLeads (at (record { lexeme = name text; start = i; stop = j } ∷ after) (want EXPR ∷ st) vs) d × (left_of d ≡ after)
expr_takes text i j after st vs = (_, steps 19 (at (record { lexeme = name text; start = i; stop = j } ∷ after) (want EXPR ∷ st) vs), refl)

named : (t : CToken) (text : List ℕ) → t.lexeme ≡ name text → t ≡ record { lexeme = name text; start = t.start; stop = t.stop }
named t text e = ap (λ l. record { lexeme = l; start = t.start; stop = t.stop }) e

-- so the machine is not stuck before it
call_not_stuck : (x : Bool) (c : Piece) (t : CToken) (text : List ℕ) (after : List CToken) (st : List Task) (vs : List SemanticValue) → t.lexeme ≡ name text → Ends (at (t ∷ after) (want (cond x (NAME ▸ c) EXPR) ∷ st) vs) t after → ⊥
call_not_stuck true c t text after st vs e h =
    let g = call_takes c text t.start t.stop after st vs in
    let l : ParserLeads (at (t ∷ after) (want (NAME ▸ c) ∷ st) vs) g.0 = subst (λ u. ParserLeads (at (u ∷ after) (want (NAME ▸ c) ∷ st) vs) g.0) (sym (named t text e)) g.1 in
    too_few g.0 t after (ends_on _ g.0 t after h l) (omega (arith, ap length g.2))
call_not_stuck false c t text after st vs e h =
    let g = expr_takes text t.start t.stop after st vs in
    let l : ParserLeads (at (t ∷ after) (want EXPR ∷ st) vs) g.0 = subst (λ u. ParserLeads (at (u ∷ after) (want EXPR ∷ st) vs) g.0) (sym (named t text e)) g.1 in
    too_few g.0 t after (ends_on _ g.0 t after h l) (omega (arith, ap length g.2))

true_false : (a : Bool) → a ≡ true → a ≡ false → ⊥
true_false a e f = cc

one_holds : (a b : Bool) → (a || b) ≡ true → (a ≡ true) ⊎ (b ≡ true)
one_holds true b e = inl refl
one_holds false b e = inr e

-- where two pieces can begin with the token, it is a name, and is taken
not_both : (x : Bool) (a b : Piece) (t : CToken) (after : List CToken) (st : List Task) (vs : List SemanticValue) → (apart (starts a) (starts b) ≡ true) ⊎ (call_or_expr a b ≡ true) →
    Ends (at (t ∷ after) (want (cond x a b) ∷ st) vs) t after → starts a (kind t) ≡ true → starts b (kind t) ≡ true → ⊥
not_both x a b t after st vs (inl h) e f g = true_false (starts b (kind t)) g (apart_at (starts a) (starts b) t h f)
not_both x a b t after st vs (inr h) e f g =
    let c = call_shape a b h in
    let n = is_name t.lexeme (or_false (among (a_name ∷ []) (kind t)) (subst (λ p. starts p (kind t) ≡ true) c.1 f)) in
    call_not_stuck x (sign OpenParen ▸ c.0) t n.0 after st vs n.1
    (subst (λ p. Ends (at (t ∷ after) (want (cond x (NAME ▸ sign OpenParen ▸ c.0) p) ∷ st) vs) t after) c.2
    (subst (λ p. Ends (at (t ∷ after) (want (cond x p b) ∷ st) vs) t after) c.1 e))

good_decides : (a b : Piece) → good (a or b) ≡ true → (apart (starts a) (starts b) ≡ true) ⊎ (call_or_expr a b ≡ true)
good_decides a b g = one_holds (apart (starts a) (starts b)) (call_or_expr a b) (and_right (not (nullable b)) _ (and_right (not (nullable a)) _ (and_right (good b) _ (and_right (good a) _ g))))

-- a step once more, with other tokens behind the one at which the machine is stuck
Again : List CToken → CToken → List CToken → List CToken → ParserState → ParserState → Type 0
Again xs t after others a c = (ys : List CToken) × (left_of c ≡ ys ++ t ∷ after) × ParserLeads (with_tokens (xs ++ t ∷ others) a) (with_tokens (ys ++ t ∷ others) c)

abbrev AgainIn : List CToken → CToken → List CToken → List CToken → ParserState → Option ParserState → Type 0
AgainIn xs t after others a None = Unit {0}
AgainIn xs t after others a (Some c) = Ends c t after → Again xs t after others a c

again_taken : (x : CToken) (xs : List CToken) (t : CToken) (after others : List CToken) (s : Sort) (ss : List Sort) (st : List Task) (vs : List SemanticValue) (b : Bool) → among (s ∷ ss) (kind x) ≡ b →
    AgainIn (x ∷ xs) t after others (at (x ∷ (xs ++ t ∷ after)) (want (one_of s ss) ∷ st) vs) (cond b (Some (at (xs ++ t ∷ after) st (token x ∷ vs))) None)
unfolding Again
again_taken x xs t after others s ss st vs true e = λ h. (xs, refl, go _ (at (xs ++ t ∷ others) st (token x ∷ vs)) _ (cond_true (among (s ∷ ss) (kind x)) _ _ e) (still _))
again_taken x xs t after others s ss st vs false e = tt

again_last : (t : CToken) (after others : List CToken) (s : Sort) (ss : List Sort) (st : List Task) (vs : List SemanticValue) (b : Bool) →
    AgainIn [] t after others (at (t ∷ after) (want (one_of s ss) ∷ st) vs) (cond b (Some (at after st (token t ∷ vs))) None)
unfolding Again
again_last t after others s ss st vs true = λ h. absurd (too_few (at after st (token t ∷ vs)) t after h (omega arith))
again_last t after others s ss st vs false = tt

-- a step that only looks at the first token
again_by : (xs : List CToken) (t : CToken) (after others : List CToken) (st : List Task) (vs : List SemanticValue) (f : Bool → List Task) (g : Bool → List SemanticValue) (h : List CToken → Bool) →
    h (xs ++ t ∷ after) ≡ h (xs ++ t ∷ others) → ((us : List CToken) → parser_step (at us st vs) ≡ Some (at us (f (h us)) (g (h us)))) →
    Again xs t after others (at (xs ++ t ∷ after) st vs) (at (xs ++ t ∷ after) (f (h (xs ++ t ∷ after))) (g (h (xs ++ t ∷ after))))
unfolding Again
again_by xs t after others st vs f g h e s =
    (xs, refl, go _ (at (xs ++ t ∷ others) (f (h (xs ++ t ∷ after))) (g (h (xs ++ t ∷ after)))) _ (s (xs ++ t ∷ others) ∙ ap (λ b. Some (at (xs ++ t ∷ others) (f b) (g b))) (sym e)) (still _))

again_or : (a b : Piece) (xs : List CToken) (t : CToken) (after others : List CToken) (st : List Task) (vs : List SemanticValue) → good (a or b) ≡ true →
    AgainIn xs t after others (at (xs ++ t ∷ after) (want (a or b) ∷ st) vs) (Some (at (xs ++ t ∷ after) (want (cond (picks a b (xs ++ t ∷ after)) a b) ∷ st) vs))
unfolding Again
again_or a b [] t after others st vs g h =
    let e : picks a b (t ∷ after) ≡ picks a b (t ∷ others) = one_picks (starts a (kind t)) (starts b (kind t)) (heads (sign OpenParen) after) (heads (sign OpenParen) others) (not_both (picks a b (t ∷ after)) a b t after st vs (good_decides a b g) h) in
    ([], refl, go _ (at (t ∷ others) (want (cond (picks a b (t ∷ after)) a b) ∷ st) vs) _ (ap (λ c. Some (at (t ∷ others) (want (cond c a b) ∷ st) vs)) (sym e)) (still _))
again_or a b (x ∷ xs) t after others st vs g h = (
  x ∷ xs,
  refl,
  go _ (at (x ∷ (xs ++ t ∷ others)) (want (cond (picks a b (x ∷ (xs ++ t ∷ after))) a b) ∷ st) vs) _
      (ap (λ c. Some (at (x ∷ (xs ++ t ∷ others)) (want (cond c a b) ∷ st) vs)) (sym (same_picks a b x xs t after others))) (still _),
)

again_maybe : (a : Piece) (xs : List CToken) (t : CToken) (after others : List CToken) (st : List Task) (vs : List SemanticValue) (b : Bool) → heads a (xs ++ t ∷ others) ≡ b →
    AgainIn xs t after others (at (xs ++ t ∷ after) (want (maybe a) ∷ st) vs) (Some (cond b (at (xs ++ t ∷ after) (want a ∷ act listed ∷ st) (none ∷ vs)) (at (xs ++ t ∷ after) st (none ∷ vs))))
unfolding Again
again_maybe a xs t after others st vs true e h = (xs, refl, go _ (at (xs ++ t ∷ others) (want a ∷ act listed ∷ st) (none ∷ vs)) _ (ap Some (cond_true (heads a (xs ++ t ∷ others)) _ _ e)) (still _))
again_maybe a xs t after others st vs false e h = (xs, refl, go _ (at (xs ++ t ∷ others) st (none ∷ vs)) _ (ap Some (cond_false (heads a (xs ++ t ∷ others)) _ _ e)) (still _))

again_more : (a : Piece) (xs : List CToken) (t : CToken) (after others : List CToken) (st : List Task) (vs : List SemanticValue) (b : Bool) → heads a (xs ++ t ∷ others) ≡ b →
    AgainIn xs t after others (at (xs ++ t ∷ after) (more a ∷ st) vs) (Some (cond b (at (xs ++ t ∷ after) (want a ∷ act listed ∷ more a ∷ st) vs) (at (xs ++ t ∷ after) st vs)))
unfolding Again
again_more a xs t after others st vs true e h = (xs, refl, go _ (at (xs ++ t ∷ others) (want a ∷ act listed ∷ more a ∷ st) vs) _ (ap Some (cond_true (heads a (xs ++ t ∷ others)) _ _ e)) (still _))
again_more a xs t after others st vs false e h = (xs, refl, go _ (at (xs ++ t ∷ others) st vs) _ (ap Some (cond_false (heads a (xs ++ t ∷ others)) _ _ e)) (still _))

again_step : (xs : List CToken) (t : CToken) (after others : List CToken) (st : List Task) (vs : List SemanticValue) → Sane st → AgainIn xs t after others (at (xs ++ t ∷ after) st vs) (parser_step (at (xs ++ t ∷ after) st vs))
unfolding Again
again_step xs t after others [] vs s = tt
again_step [] t after others (want (one_of i is) ∷ st) vs s = again_last t after others i is st vs (among (i ∷ is) (kind t))
again_step (x ∷ xs) t after others (want (one_of i is) ∷ st) vs s = again_taken x xs t after others i is st vs (among (i ∷ is) (kind x)) refl
again_step xs t after others (want (a ▸ b) ∷ st) vs s = λ h. (xs, refl, go _ (at (xs ++ t ∷ others) (want a ∷ want b ∷ act paired ∷ st) vs) _ refl (still _))
again_step xs t after others (want (a or b) ∷ st) vs s = again_or a b xs t after others st vs s.0
again_step xs t after others (want (many a) ∷ st) vs s = λ h. (xs, refl, go _ (at (xs ++ t ∷ others) (more a ∷ st) (none ∷ vs)) _ refl (still _))
again_step xs t after others (want (maybe a) ∷ st) vs s = again_maybe a xs t after others st vs (heads a (xs ++ t ∷ after)) (sym (same_first a xs t after others))
again_step xs t after others (want (the r) ∷ st) vs s = λ h. (xs, refl, go _ (at (xs ++ t ∷ others) (want (production r) ∷ act (meant r) ∷ st) vs) _ refl (still _))
again_step xs t after others (more a ∷ st) vs s = again_more a xs t after others st vs (heads a (xs ++ t ∷ after)) (sym (same_first a xs t after others))
again_step xs t after others (act f ∷ st) vs s = λ h. (xs, refl, go _ (at (xs ++ t ∷ others) st (f vs)) _ refl (still _))

no_front : (xs : List CToken) (t : CToken) (after : List CToken) → t ∷ after ≡ xs ++ t ∷ after → xs ≡ []
no_front [] t after e = refl
no_front (x ∷ xs) t after e = absurd (omega (arith, ap length e, length-append xs (t ∷ after)))

-- the state at which the machine is stuck
pub record Stop (b : ParserState) (t : CToken) (after : List CToken) : Type 0 where
  pub sort : Sort
  pub sorts : List Sort
  pub tasks : List Task
  pub values : List SemanticValue
  pub is : b ≡ at (t ∷ after) (want (one_of sort sorts) ∷ tasks) values
  pub refused : heads (one_of sort sorts) (t ∷ after) ≡ false

stops : (b : ParserState) (t : CToken) (after : List CToken) → Stop b t after → parser_step b ≡ None
stops b t after s = ap parser_step s.is ∙ cond_false (among (s.sort ∷ s.sorts) (kind t)) _ _ s.refused

stuck_here : (a : ParserState) (t : CToken) (after others xs : List CToken) → Stop a t after → left_of a ≡ xs ++ t ∷ after → Stuck (with_tokens (xs ++ t ∷ others) a) (t ∷ others)
stuck_here a t after others xs s e =
    let none_before : xs ≡ [] = no_front xs t after (sym (ap left_of s.is) ∙ e) in
    let same : with_tokens (xs ++ t ∷ others) a ≡ at (t ∷ others) (want (one_of s.sort s.sorts) ∷ s.tasks) s.values = ap (λ l. with_tokens (l ++ t ∷ others) a) none_before ∙ ap (with_tokens (t ∷ others)) s.is in
    record { sort = s.sort; sorts = s.sorts; tasks = s.tasks; values = s.values; leads = subst (λ x. ParserLeads x (at (t ∷ others) (want (one_of s.sort s.sorts) ∷ s.tasks) s.values)) (sym same) (still _); refused = s.refused }

moved : (a : ParserState) (us : List CToken) → left_of a ≡ us → a ≡ with_tokens us a
moved (at ts st vs) us e = ap (λ l. at l st vs) e

sane_next : (a c : ParserState) → parser_step a ≡ Some c → Sane (tasks_of a) → Sane (tasks_of c)
sane_next a c e s = subst SaneIn e (sane_step a s)

again_state : (a c : ParserState) (t : CToken) (after others xs : List CToken) → left_of a ≡ xs ++ t ∷ after → parser_step a ≡ Some c → Sane (tasks_of a) → Ends c t after → Again xs t after others a c
unfolding Again
again_state (at ts st vs) c t after others xs l e s h =
    subst (λ o. AgainIn xs t after others (at (xs ++ t ∷ after) st vs) o) (ap (λ us. parser_step (at us st vs)) (sym l) ∙ e) (again_step xs t after others st vs s) h

pub replay : (a b : ParserState) → ParserLeads a b → (t : CToken) (after others xs : List CToken) → Stop b t after → Sane (tasks_of a) → left_of a ≡ xs ++ t ∷ after → Stuck (with_tokens (xs ++ t ∷ others) a) (t ∷ others)
unfolding Again
replay _ _ (still a) t after others xs s g e = stuck_here a t after others xs s e
replay _ _ (go a c b f l) t after others xs s g e =
    let h : Ends c t after = record { end = b; leads = l; is = ap left_of s.is; stuck = stops b t after s } in
    let r = again_state a c t after others xs e f g h in
    then_stuck _ _ _ r.2 (replay c b l t after others r.0 s (sane_next a c f g) r.1)
