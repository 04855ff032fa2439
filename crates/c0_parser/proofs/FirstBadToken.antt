-- Where the machine is stuck, the token is the first that cannot be; and what is read is the one thing that can be read.
use Rattle.std.proofs.Common.{◌≡◌, List, [], ◌∷◌, ◌++◌, length, refl, sym, ap, ◌∙◌, subst, arith, append_assoc}
use Rattle.std.specs.Prelude.{Bool, true, false, ◌&&◌}
use Rattle.std.proofs.lemmas.List.{append-nil}
use Rattle.c0_tokens.specs.Tokens.{CToken}
use Rattle.c0_parser.specs.Sorts.{the_end, a_fault, among}
use Rattle.c0_parser.specs.Value.{SemanticValue}
use Rattle.c0_parser.specs.Grammar.{Rule, disjunction, conjunction, equality, relation, sum, product, unary, postfix, primary, type, decl, block, statement, code, body, Piece, one_of, ◌▸◌, ◌or◌, many, maybe, the, production, Derives, taken, both, first, second, no_more, one_more, left_out, there, made}
use Rattle.c0_parser.specs.Factored.{SOURCE}
use Rattle.c0_parser.specs.Machine.{ParserState, at, want, kind, ParserLeads}
use Rattle.c0_parser.specs.Contract.{PieceReads, Refuses, Stuck}
use Rattle.c0_parser.proofs.MachineRuns.{one_end}
use Rattle.c0_parser.proofs.ReadIsDerived.{back, Means}
use Rattle.c0_parser.proofs.TokensDecide.{apart, apart_at, and_left, and_right, source_good}
use Rattle.c0_parser.proofs.DerivedIsRead.{cond_false}
use Rattle.c0_parser.proofs.DerivationsAreRead.{reads}
use Rattle.c0_parser.proofs.EachPieceDerives.{completes_one}
use Rattle.c0_parser.proofs.StuckWhateverFollows.{left_of, Stop, replay}

-- whether a token ends a source: its end, or a token of no source
abbrev pub ends_source : CToken → Bool
ends_source t = among (the_end ∷ a_fault ∷ []) (kind t)

-- whether a piece takes no such token
abbrev inner : Piece → Bool
inner (one_of s ss) = apart (among (s ∷ ss)) (among (the_end ∷ a_fault ∷ []))
inner (a ▸ b) = inner a && inner b
inner (a or b) = inner a && inner b
inner (many a) = inner a
inner (maybe a) = inner a
inner (the r) = true

all_inner : (r : Rule) → inner (production r) ≡ true
all_inner disjunction = refl
all_inner conjunction = refl
all_inner equality = refl
all_inner relation = refl
all_inner sum = refl
all_inner product = refl
all_inner unary = refl
all_inner postfix = refl
all_inner primary = refl
all_inner type = refl
all_inner decl = refl
all_inner block = refl
all_inner statement = refl
all_inner code = refl
all_inner body = refl

-- no token of these ends a source
abbrev Inner : List CToken → Type 0
Inner [] = Unit {0}
Inner (t ∷ ts) = (ends_source t ≡ false) × Inner ts

inner_append : (xs ys : List CToken) → Inner xs → Inner ys → Inner (xs ++ ys)
inner_append [] ys f g = g
inner_append (x ∷ xs) ys f g = (f.0, inner_append xs ys f.1 g)

inner_tokens : {p : Piece} {xs : List CToken} {v : SemanticValue} → Derives p xs v → inner p ≡ true → Inner xs
inner_tokens (taken s ss t h) g = (apart_at (among (s ∷ ss)) (among (the_end ∷ a_fault ∷ [])) t g h, tt)
inner_tokens (both {a} {b} {xs} {ys} d e) g = inner_append xs ys (inner_tokens d (and_left (inner a) (inner b) g)) (inner_tokens e (and_right (inner a) (inner b) g))
inner_tokens (first {a} {b} d) g = inner_tokens d (and_left (inner a) (inner b) g)
inner_tokens (second {a} {b} d) g = inner_tokens d (and_right (inner a) (inner b) g)
inner_tokens no_more g = tt
inner_tokens (one_more {xs = xs} {ys = ys} d e) g = inner_append xs ys (inner_tokens d g) (inner_tokens e g)
inner_tokens left_out g = tt
inner_tokens (there d) g = inner_tokens d g
inner_tokens (made r d) g = inner_tokens d (all_inner r)

-- a token that ends a source stands last
abbrev LastEnds : List CToken → Type 0
LastEnds [] = Unit {0}
LastEnds (t ∷ []) = Unit {0}
LastEnds (t ∷ u ∷ ts) = (ends_source t ≡ false) × LastEnds (u ∷ ts)

last_ends : (xs : List CToken) (t : CToken) → Inner xs → LastEnds (xs ++ t ∷ [])
last_ends [] t f = tt
last_ends (x ∷ []) t f = (f.0, tt)
last_ends (x ∷ y ∷ xs) t f = (f.0, last_ends (y ∷ xs) t f.1)

source_ends : (xs : List CToken) (v : SemanticValue) → Derives SOURCE xs v → LastEnds xs
source_ends _ _ (both {xs = xs} d (taken s ss t h)) = last_ends xs t (inner_tokens d refl)

true_false : (a : Bool) → a ≡ true → a ≡ false → ⊥
true_false a e f = cc

-- behind a token that ends a source comes none
none_after : (front : List CToken) (l u : CToken) (more : List CToken) → ends_source l ≡ true → LastEnds (front ++ l ∷ u ∷ more) → ⊥
none_after [] l u more e f = true_false (ends_source l) e f.0
none_after (x ∷ []) l u more e f = none_after [] l u more e f.1
none_after (x ∷ y ∷ front) l u more e f = none_after (y ∷ front) l u more e f.1

-- the tokens end with one that ends a source
pub record EndsSource (ts : List CToken) : Type 0 where
  pub front : List CToken
  pub last : CToken
  pub is : ts ≡ front ++ last ∷ []
  pub ends : ends_source last ≡ true

-- this token is the first that cannot be, where what can be is derived from this piece
pub record FirstBad (p : Piece) (ts : List CToken) (t : CToken) (after : List CToken) : Type 0 where
  pub before : List CToken
  pub stands : ts ≡ before ++ t ∷ after
  pub more : List CToken
  pub value : SemanticValue
  pub good : Derives p (before ++ more) value
  pub bad : (others : List CToken) (v : SemanticValue) → Derives p (before ++ t ∷ others) v → ⊥

-- the machine on a source that is derived
accepts : (xs : List CToken) (v : SemanticValue) → Derives SOURCE xs v → ParserLeads (at xs (want SOURCE ∷ []) []) (at [] [] (v ∷ []))
accepts xs v d = subst (λ l. ParserLeads (at l (want SOURCE ∷ []) []) (at [] [] (v ∷ []))) (append-nil xs) (reads SOURCE xs v source_good d [] [] [] tt)

value_of : ParserState → List SemanticValue
value_of (at ts st vs) = vs

same_value : (v w : SemanticValue) → v ∷ [] ≡ w ∷ [] → v ≡ w
same_value v w e = cc

-- one source has one meaning
pub one_meaning : (xs : List CToken) (v w : SemanticValue) → Derives SOURCE xs v → Derives SOURCE xs w → v ≡ w
unfolding value_of
one_meaning xs v w d e = same_value v w (ap value_of (one_end _ _ _ (accepts xs v d) (accepts xs w e) refl refl))

not_stuck : (xs : List CToken) (t : CToken) (others : List CToken) (v : SemanticValue) → Stuck (at xs (want SOURCE ∷ []) []) (t ∷ others) → Derives SOURCE xs v → ⊥
not_stuck xs t others v s d =
    let h : at (t ∷ others) (want (one_of s.sort s.sorts) ∷ s.tasks) s.values ≡ at [] [] (v ∷ []) =
    one_end _ _ _ s.leads (accepts xs v d) (cond_false (among (s.sort ∷ s.sorts) (kind t)) _ _ s.refused) refl in
    absurd (omega (arith, ap length (ap left_of h)))

pub source_means : (xs : List CToken) (u : SemanticValue) → Means (want SOURCE ∷ []) [] xs u → (v : SemanticValue) × Derives SOURCE xs v
source_means xs u m = (m.2, subst (λ l. Derives SOURCE l m.2) (sym (m.3 ∙ ap (λ l. m.0 ++ l) m.5.0 ∙ append-nil m.0)) m.4)

not_all : (ts xs : List CToken) (t : CToken) (more : List CToken) (v : SemanticValue) → EndsSource ts → ts ≡ xs ++ [] → Derives SOURCE (xs ++ t ∷ more) v → ⊥
not_all ts xs t more v e h d =
    let same_tokens : xs ++ t ∷ more ≡ e.front ++ e.last ∷ t ∷ more = ap (λ l. l ++ t ∷ more) (sym (append-nil xs) ∙ sym h ∙ e.is) ∙ append_assoc e.front (e.last ∷ []) (t ∷ more) in
    none_after e.front e.last t more e.ends (source_ends _ v (subst (λ l. Derives SOURCE l v) same_tokens d))

-- where the machine is stuck
pub first_bad : (ts rest : List CToken) → EndsSource ts → Refuses SOURCE ts rest → (t : CToken) × (after : List CToken) × (rest ≡ t ∷ after) × FirstBad SOURCE ts t after
first_bad ts [] e f =
    let s = f.by [] [] in
    let b = back _ _ s.leads in
    let c = completes_one s.sort s.sorts s.tasks s.values in
    let d = source_means _ c.2 (b.2 (c.0 ∷ c.1) c.2 c.3) in
    absurd (not_all ts b.0 c.0 c.1 d.0 e b.1 d.1)
first_bad ts (t ∷ after) e f =
    let s = f.by [] [] in
    let b = back _ _ s.leads in
    let c = completes_one s.sort s.sorts s.tasks s.values in
    let d = source_means _ c.2 (b.2 (c.0 ∷ c.1) c.2 c.3) in
    let stop : Stop (at (t ∷ after) (want (one_of s.sort s.sorts) ∷ s.tasks) s.values) t after = record { sort = s.sort; sorts = s.sorts; tasks = s.tasks; values = s.values; is = refl; refused = s.refused } in (
      t,
      after,
      refl,
      record {
        before = b.0;
        stands = b.1;
        more = c.0 ∷ c.1;
        value = d.0;
        good = d.1;
        bad = λ others v g. not_stuck (b.0 ++ t ∷ others) t others v (replay _ _ s.leads t after others b.0 stop (source_good, tt) b.1) g;
      },
    )

-- what is read is derived
pub derived : (ts : List CToken) (v : SemanticValue) → PieceReads SOURCE ts v [] → Derives SOURCE ts v
unfolding source_means
derived ts v g =
    let b = back _ _ (g.by [] []) in
    let m = b.2 [] v (refl, refl) in
    let d = source_means (b.0 ++ []) v m in
    subst (λ w. Derives SOURCE ts w) m.5.1 (subst (λ l. Derives SOURCE l d.0) (sym b.1) d.1)
