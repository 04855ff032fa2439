-- What is derived is read: the machine follows a derivation to its end.
use Rattle.std.proofs.Common.{◌≡◌, List, [], ◌∷◌, ◌++◌, refl, sym, ap, ◌∙◌, subst, append_assoc, Some}
use Rattle.std.specs.Prelude.{Bool, true, false, cond, not, ◌&&◌, ◌||◌}
use Rattle.c0_tokens.specs.Tokens.{CToken}
use Rattle.c0_tokens.specs.declared.token.Mark.TheVariants.{OpenParen}
use Rattle.c0_parser.specs.Sorts.{Sort, among}
use Rattle.c0_parser.specs.Value.{SemanticValue, token, pair, none, snoc}
use Rattle.c0_parser.specs.Grammar.{Rule, Piece, one_of, sign, ◌▸◌, ◌or◌, many, maybe, the, production, production_value, Derives, taken, both, first, second, no_more, one_more, left_out, there, made}
use Rattle.c0_parser.specs.Machine.{at, Task, want, more, act, paired, listed, meant, picks, heads, kind, nullable, starts, rule_starts, ParserLeads, still, go}
use Rattle.c0_parser.proofs.MachineRuns.{then_leads}
use Rattle.c0_parser.proofs.TokensDecide.{goes_on, rule_on, apart, all_start, none_nullable, all_on, apart_at, within_at}

and_left : (a b : Bool) → (a && b) ≡ true → a ≡ true
and_left true b e = refl
and_left false b e = e

and_right : (a b : Bool) → (a && b) ≡ true → b ≡ true
and_right true b e = e
and_right false b e = cc

or_left : (a b : Bool) → (a || b) ≡ false → a ≡ false
or_left true b e = e
or_left false b e = refl

or_right : (a b : Bool) → (a || b) ≡ false → b ≡ false
or_right true b e = cc
or_right false b e = e

either_left : (a b : Bool) → a ≡ true → (a || b) ≡ true
either_left a b e = ap (λ x. x || b) e

either_right : (a b : Bool) → b ≡ true → (a || b) ≡ true
either_right true b e = refl
either_right false b e = e

all_true : (a b : Bool) → a ≡ true → b ≡ true → (a && b) ≡ true
all_true a b e f = ap (λ x. x && b) e ∙ f

not_true : (a : Bool) → not a ≡ true → a ≡ true → ⊥
not_true true h e = cc
not_true false h e = cc

true_false : (a : Bool) → a ≡ true → a ≡ false → ⊥
true_false a e f = cc

not_both : (a b : Bool) → (a ≡ true → b ≡ true) → b ≡ false → a ≡ false
not_both true b f e = absurd (true_false b (f refl) e)
not_both false b f e = refl

-- the first token that a piece derives begins it
abbrev pub Begins : Piece → List CToken → Type 0
Begins p [] = nullable p ≡ true
Begins p (t ∷ ts) = starts p (kind t) ≡ true

begins_both : (a b : Piece) (xs ys : List CToken) → Begins a xs → Begins b ys → Begins (a ▸ b) (xs ++ ys)
begins_both a b [] [] f g = all_true (nullable a) (nullable b) f g
begins_both a b [] (t ∷ ys) f g = either_right (starts a (kind t)) (nullable a && starts b (kind t)) (all_true (nullable a) (starts b (kind t)) f g)
begins_both a b (t ∷ xs) ys f g = either_left (starts a (kind t)) (nullable a && starts b (kind t)) f

begins_first : (a b : Piece) (xs : List CToken) → Begins a xs → Begins (a or b) xs
begins_first a b [] f = either_left (nullable a) (nullable b) f
begins_first a b (t ∷ xs) f = either_left (starts a (kind t)) (starts b (kind t)) f

begins_second : (a b : Piece) (xs : List CToken) → Begins b xs → Begins (a or b) xs
begins_second a b [] f = either_right (nullable a) (nullable b) f
begins_second a b (t ∷ xs) f = either_right (starts a (kind t)) (starts b (kind t)) f

begins_more : (a : Piece) (xs ys : List CToken) → Begins (many a) xs → Begins a ys → Begins (many a) (xs ++ ys)
begins_more a [] [] f g = refl
begins_more a [] (t ∷ ys) f g = g
begins_more a (t ∷ xs) ys f g = f

begins_there : (a : Piece) (xs : List CToken) → Begins a xs → Begins (maybe a) xs
begins_there a [] f = refl
begins_there a (t ∷ xs) f = f

begins_made : (r : Rule) (xs : List CToken) → Begins (production r) xs → Begins (the r) xs
begins_made r [] f = absurd (true_false (nullable (production r)) f (none_nullable r))
begins_made r (t ∷ xs) f = within_at (starts (production r)) (among (rule_starts r)) t (all_start r) f

pub begins : {p : Piece} {xs : List CToken} {v : SemanticValue} → Derives p xs v → Begins p xs
begins (taken s ss t h) = h
begins (both {a} {b} {xs} {ys} d e) = begins_both a b xs ys (begins d) (begins e)
begins (first {a} {b} {xs} d) = begins_first a b xs (begins d)
begins (second {a} {b} {xs} d) = begins_second a b xs (begins d)
begins no_more = refl
begins (one_more {a} {xs} {ys} d e) = begins_more a xs ys (begins d) (begins e)
begins left_out = refl
begins (there {a} {xs} d) = begins_there a xs (begins d)
begins (made r {xs} d) = begins_made r xs (begins d)

-- what follows does not go on with a piece
abbrev pub Stops : Piece → List CToken → Type 0
Stops p [] = Unit {0}
Stops p (t ∷ ts) = goes_on p (kind t) ≡ false

stops_one : (p q : Piece) (ts : List CToken) → ((k : Sort) → goes_on p k ≡ false → goes_on q k ≡ false) → Stops p ts → Stops q ts
stops_one p q [] f h = tt
stops_one p q (t ∷ ts) f h = f (kind t) h

-- behind the first of two pieces comes the second, or what comes behind both
stops_before : (a b : Piece) (ys rest : List CToken) → apart (starts b) (goes_on a) ≡ true → Begins b ys → Stops (a ▸ b) rest → Stops a (ys ++ rest)
stops_before a b [] [] h f s = tt
stops_before a b [] (t ∷ rest) h f s = or_right_of (nullable b) (goes_on a (kind t)) f (or_right (goes_on b (kind t)) (nullable b && goes_on a (kind t)) s)
  where
    or_right_of : (x y : Bool) → x ≡ true → (x && y) ≡ false → y ≡ false
    or_right_of true y e h = h
    or_right_of false y e h = cc
stops_before a b (t ∷ ys) rest h f s = apart_at (starts b) (goes_on a) t h f

-- what is read of a piece: a list leaves open whether more of it follows
abbrev pub Follows : Piece → List CToken → SemanticValue → Type 0
Follows (many a) xs v = (rest : List CToken) (st : List Task) (vs : List SemanticValue) → Stops a rest → ParserLeads (at (xs ++ rest) (more a ∷ st) (none ∷ vs)) (at rest (more a ∷ st) (v ∷ vs))
Follows p xs v = (rest : List CToken) (st : List Task) (vs : List SemanticValue) → Stops p rest → ParserLeads (at (xs ++ rest) (want p ∷ st) vs) (at rest st (v ∷ vs))

abbrev pub Reads : Piece → List CToken → SemanticValue → Type 0
Reads p xs v = (rest : List CToken) (st : List Task) (vs : List SemanticValue) → Stops p rest → ParserLeads (at (xs ++ rest) (want p ∷ st) vs) (at rest st (v ∷ vs))

pub cond_true : {A : Type 0} (b : Bool) (x y : A) → b ≡ true → cond b x y ≡ x
cond_true true x y e = refl
cond_true false x y e = cc

pub cond_false : {A : Type 0} (b : Bool) (x y : A) → b ≡ false → cond b x y ≡ y
cond_false true x y e = cc
cond_false false x y e = refl

-- nothing more of a list follows
pub more_ends : (a : Piece) (ts : List CToken) (st : List Task) (vs : List SemanticValue) → heads a ts ≡ false → ParserLeads (at ts (more a ∷ st) vs) (at ts st vs)
more_ends a ts st vs h = go _ (at ts st vs) _ (ap Some (cond_false (heads a ts) _ _ h)) (still _)

not_heads : (a : Piece) (ts : List CToken) → Stops (many a) ts → heads a ts ≡ false
not_heads a [] s = refl
not_heads a (t ∷ ts) s = or_left (starts a (kind t)) (goes_on a (kind t)) s

list_full : (a : Piece) (xs : List CToken) (v : SemanticValue) → Follows (many a) xs v → Reads (many a) xs v
list_full a xs v f rest st vs s =
    go _ (at (xs ++ rest) (more a ∷ st) (none ∷ vs)) _ refl
    (then_leads _ _ _ (f rest st vs (stops_one (many a) a rest (λ k h. or_right (starts a k) (goes_on a k) h) s)) (more_ends a rest st (v ∷ vs) (not_heads a rest s)))

pub full : (p : Piece) (xs : List CToken) (v : SemanticValue) → Follows p xs v → Reads p xs v
full (one_of s ss) xs v f = f
full (a ▸ b) xs v f = f
full (a or b) xs v f = f
full (many a) xs v f = list_full a xs v f
full (maybe a) xs v f = f
full (the r) xs v f = f

pub reads_one : (s : Sort) (ss : List Sort) (t : CToken) → among (s ∷ ss) (kind t) ≡ true → Reads (one_of s ss) (t ∷ []) (token t)
reads_one s ss t h rest st vs stops = go _ (at rest st (token t ∷ vs)) _ (cond_true (among (s ∷ ss) (kind t)) _ _ h) (still _)

pub reads_both : (a b : Piece) (xs ys : List CToken) (v w : SemanticValue) → apart (starts b) (goes_on a) ≡ true → Begins b ys → Reads a xs v → Reads b ys w → Reads (a ▸ b) (xs ++ ys) (pair v w)
reads_both a b xs ys v w h g f e rest st vs s =
    go _ (at ((xs ++ ys) ++ rest) (want a ∷ want b ∷ act paired ∷ st) vs) _ refl
    (subst (λ l. ParserLeads (at l (want a ∷ want b ∷ act paired ∷ st) vs) (at rest st (pair v w ∷ vs))) (sym (append_assoc xs ys rest))
    (then_leads _ _ _ (f (ys ++ rest) (want b ∷ act paired ∷ st) vs (stops_before a b ys rest h g s))
    (then_leads _ _ _ (e rest (act paired ∷ st) (v ∷ vs) (stops_one (a ▸ b) b rest (λ k x. or_left (goes_on b k) (nullable b && goes_on a k) x) s))
    (go _ (at rest st (pair v w ∷ vs)) _ refl (still _)))))

pub reads_first : (a b : Piece) (xs : List CToken) (v : SemanticValue) → ((rest : List CToken) → picks a b (xs ++ rest) ≡ true) → Reads a xs v → Reads (a or b) xs v
reads_first a b xs v h f rest st vs s =
    go _ (at (xs ++ rest) (want a ∷ st) vs) _ (ap (λ p. Some (at (xs ++ rest) (want p ∷ st) vs)) (cond_true (picks a b (xs ++ rest)) a b (h rest)))
    (f rest st vs (stops_one (a or b) a rest (λ k x. or_left (goes_on a k) (goes_on b k) x) s))

pub reads_second : (a b : Piece) (xs : List CToken) (v : SemanticValue) → ((rest : List CToken) → Stops b rest → picks a b (xs ++ rest) ≡ false) → Reads b xs v → Reads (a or b) xs v
reads_second a b xs v h f rest st vs s =
    let t : Stops b rest = stops_one (a or b) b rest (λ k x. or_right (goes_on a k) (goes_on b k) x) s in
    go _ (at (xs ++ rest) (want b ∷ st) vs) _ (ap (λ p. Some (at (xs ++ rest) (want p ∷ st) vs)) (cond_false (picks a b (xs ++ rest)) a b (h rest t))) (f rest st vs t)

heads_first : (a : Piece) (ys rest : List CToken) → nullable a ≡ false → Begins a ys → heads a (ys ++ rest) ≡ true
heads_first a [] rest h f = absurd (true_false (nullable a) f h)
heads_first a (t ∷ ys) rest h f = f

pub reads_left_out : (a : Piece) → Reads (maybe a) [] none
reads_left_out a rest st vs s = go _ (at rest st (none ∷ vs)) _ (ap Some (cond_false (heads a rest) _ _ (not_heads a rest s))) (still _)

pub reads_there : (a : Piece) (xs : List CToken) (v : SemanticValue) → nullable a ≡ false → Begins a xs → Reads a xs v → Reads (maybe a) xs (snoc none v)
reads_there a xs v h g f rest st vs s =
    go _ (at (xs ++ rest) (want a ∷ act listed ∷ st) (none ∷ vs)) _ (ap Some (cond_true (heads a (xs ++ rest)) _ _ (heads_first a xs rest h g)))
    (then_leads _ _ _ (f rest (act listed ∷ st) (none ∷ vs) (stops_one (maybe a) a rest (λ k x. or_right (starts a k) (goes_on a k) x) s))
    (go _ (at rest st (snoc none v ∷ vs)) _ refl (still _)))

pub reads_made : (r : Rule) (xs : List CToken) (v : SemanticValue) → Reads (production r) xs v → Reads (the r) xs (production_value r v)
reads_made r xs v f rest st vs s =
    go _ (at (xs ++ rest) (want (production r) ∷ act (meant r) ∷ st) vs) _ refl
    (then_leads _ _ _ (f rest (act (meant r) ∷ st) vs (stops_rule r rest s)) (go _ (at rest st (production_value r v ∷ vs)) _ refl (still _)))
  where
    stops_rule : (r : Rule) (ts : List CToken) → Stops (the r) ts → Stops (production r) ts
    stops_rule r [] h = tt
    stops_rule r (t ∷ ts) h = not_both (goes_on (production r) (kind t)) (among (rule_on r) (kind t)) (within_at (goes_on (production r)) (among (rule_on r)) t (all_on r)) h

pub follows_no_more : (a : Piece) → Follows (many a) [] none
follows_no_more a rest st vs s = still _

pub follows_one_more : (a : Piece) (xs ys : List CToken) (v w : SemanticValue) → nullable a ≡ false → apart (starts a) (goes_on a) ≡ true → Begins a ys → Follows (many a) xs v → Reads a ys w → Follows (many a) (xs ++ ys) (snoc v w)
follows_one_more a xs ys v w n h g f e rest st vs s =
    subst (λ l. ParserLeads (at l (more a ∷ st) (none ∷ vs)) (at rest (more a ∷ st) (snoc v w ∷ vs))) (sym (append_assoc xs ys rest))
    (then_leads _ _ _ (f (ys ++ rest) st vs (stops_item a ys rest n h g))
    (go _ (at (ys ++ rest) (want a ∷ act listed ∷ more a ∷ st) (v ∷ vs)) _ (ap Some (cond_true (heads a (ys ++ rest)) _ _ (heads_first a ys rest n g)))
    (then_leads _ _ _ (e rest (act listed ∷ more a ∷ st) (v ∷ vs) s) (go _ (at rest (more a ∷ st) (snoc v w ∷ vs)) _ refl (still _)))))
  where
    stops_item : (a : Piece) (ys rest : List CToken) → nullable a ≡ false → apart (starts a) (goes_on a) ≡ true → Begins a ys → Stops a (ys ++ rest)
    stops_item a [] rest n h f = absurd (true_false (nullable a) f n)
    stops_item a (t ∷ ys) rest n h f = apart_at (starts a) (goes_on a) t h f

pub not_of : (a : Bool) → not a ≡ true → a ≡ false
not_of true h = sym h
not_of false h = refl

-- one token decides between two pieces
pub picks_first : (a b : Piece) (xs rest : List CToken) → apart (starts a) (starts b) ≡ true → nullable a ≡ false → Begins a xs → picks a b (xs ++ rest) ≡ true
picks_first a b [] rest h n f = absurd (true_false (nullable a) f n)
picks_first a b (t ∷ xs) rest h n f = all_true (starts a (kind t)) _ f (either_left (not (starts b (kind t))) _ (ap not (apart_at (starts a) (starts b) t h f)))

pub picks_second : (a b : Piece) (xs rest : List CToken) → apart (starts a) (starts b) ≡ true → nullable b ≡ false → Begins b xs → picks a b (xs ++ rest) ≡ false
picks_second a b [] rest h n f = absurd (true_false (nullable b) f n)
picks_second a b (t ∷ xs) rest h n f = ap (λ x. x && (not (starts b (kind t)) || heads (sign OpenParen) (xs ++ rest))) (flip (starts a (kind t)) (starts b (kind t)) (apart_at (starts a) (starts b) t h) f)
  where
    flip : (x y : Bool) → (x ≡ true → y ≡ false) → y ≡ true → x ≡ false
    flip true y g e = absurd (true_false y e (g refl))
    flip false y g e = refl
