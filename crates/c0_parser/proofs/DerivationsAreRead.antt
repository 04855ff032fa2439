-- Each derivation of the grammar is read.
use Rattle.std.proofs.Common.{◌≡◌, List, [], ◌++◌, refl, ap, ◌∙◌, subst, inl, inr}
use Rattle.std.specs.Prelude.{Bool, true, false, not, ◌||◌, ◌⊎◌}
use Rattle.c0_tokens.specs.declared.token.Mark.TheVariants.{OpenParen}
use Rattle.c0_tokens.specs.Tokens.{CToken}
use Rattle.c0_parser.specs.Value.{SemanticValue}
use Rattle.c0_parser.specs.Grammar.{Piece, ◌▸◌, ◌or◌, production, NAME, sign, Derives, taken, both, first, second, no_more, one_more, left_out, there, made}
use Rattle.c0_parser.specs.Machine.{picks, nullable, starts}
use Rattle.c0_parser.proofs.TokensDecide.{apart, call_or_expr, good, all_good, and_left, and_right}
use Rattle.c0_parser.proofs.DerivedIsRead.{Begins, begins, Stops, Follows, Reads, full, reads_one, reads_both, reads_first, reads_second, reads_left_out, reads_there, reads_made, follows_no_more, follows_one_more, not_of, picks_first, picks_second}
use Rattle.c0_parser.proofs.ParenthesisTells.{call_shape, picks_call, picks_expr}

either_of : (a b : Bool) → (a || b) ≡ true → (a ≡ true) ⊎ (b ≡ true)
either_of true b e = inl refl
either_of false b e = inr e

first_picked : (a b : Piece) (xs : List CToken) (v : SemanticValue) → nullable a ≡ false → (apart (starts a) (starts b) ≡ true) ⊎ (call_or_expr a b ≡ true) → Derives a xs v → (rest : List CToken) → picks a b (xs ++ rest) ≡ true
first_picked a b xs v n (inl h) d rest = picks_first a b xs rest h n (begins d)
first_picked a b xs v n (inr h) d rest =
    let c = call_shape a b h in
    ap (λ p. picks p b (xs ++ rest)) c.1 ∙ ap (λ p. picks (NAME ▸ sign OpenParen ▸ c.0) p (xs ++ rest)) c.2 ∙ picks_call c.0 xs rest v (subst (λ p. Derives p xs v) c.1 d)

second_picked : (a b : Piece) (xs : List CToken) (v : SemanticValue) → nullable b ≡ false → (apart (starts a) (starts b) ≡ true) ⊎ (call_or_expr a b ≡ true) → Begins b xs → Reads b xs v → (rest : List CToken) → Stops b rest → picks a b (xs ++ rest) ≡ false
second_picked a b xs v n (inl h) g f rest s = picks_second a b xs rest h n g
second_picked a b xs v n (inr h) g f rest s =
    let c = call_shape a b h in
    ap (λ p. picks p b (xs ++ rest)) c.1 ∙ ap (λ p. picks (NAME ▸ sign OpenParen ▸ c.0) p (xs ++ rest)) c.2
    ∙ picks_expr c.0 (xs ++ rest) rest v (subst (λ p. Reads p xs v) c.2 f rest [] [] (subst (λ p. Stops p rest) c.2 s)) (subst (λ p. Stops p rest) c.2 s)

-- the parts of what is checked of two alternatives
record Decided (a b : Piece) : Type 0 where
  good_first : good a ≡ true
  good_second : good b ≡ true
  some_first : nullable a ≡ false
  some_second : nullable b ≡ false
  decided : (apart (starts a) (starts b) ≡ true) ⊎ (call_or_expr a b ≡ true)

decided : (a b : Piece) → good (a or b) ≡ true → Decided a b
decided a b g =
    let g1 = and_right (good a) _ g in
    let g2 = and_right (good b) _ g1 in
    let g3 = and_right (not (nullable a)) _ g2 in
    record {
      good_first = and_left (good a) _ g;
      good_second = and_left (good b) _ g1;
      some_first = not_of (nullable a) (and_left (not (nullable a)) _ g2);
      some_second = not_of (nullable b) (and_left (not (nullable b)) _ g3);
      decided = either_of (apart (starts a) (starts b)) (call_or_expr a b) (and_right (not (nullable b)) _ g3);
    }

pub follows : {p : Piece} {xs : List CToken} {v : SemanticValue} → Derives p xs v → good p ≡ true → Follows p xs v
follows (taken s ss t h) g = reads_one s ss t h
follows (both {a} {b} {xs} {ys} {v} {w} d e) g =
    let g1 = and_right (good a) _ g in
    reads_both a b xs ys v w (and_right (good b) _ g1) (begins e) (full a xs v (follows d (and_left (good a) _ g))) (full b ys w (follows e (and_left (good b) _ g1)))
follows (first {a} {b} {xs} {v} d) g =
    let h = decided a b g in
    reads_first a b xs v (first_picked a b xs v h.some_first h.decided d) (full a xs v (follows d h.good_first))
follows (second {a} {b} {xs} {v} d) g =
    let h = decided a b g in
    let f = full b xs v (follows d h.good_second) in
    reads_second a b xs v (second_picked a b xs v h.some_second h.decided (begins d) f) f
follows (no_more {a}) g = follows_no_more a
follows (one_more {a} {xs} {ys} {v} {w} d e) g =
    let g1 = and_right (good a) _ g in
    follows_one_more a xs ys v w (not_of (nullable a) (and_left (not (nullable a)) _ g1)) (and_right (not (nullable a)) _ g1) (begins e) (follows d g) (full a ys w (follows e (and_left (good a) _ g)))
follows (left_out {a}) g = reads_left_out a
follows (there {a} {xs} {v} d) g = reads_there a xs v (not_of (nullable a) (and_right (good a) _ g)) (begins d) (full a xs v (follows d (and_left (good a) _ g)))
follows (made r {xs} {v} d) g = reads_made r xs v (full (production r) xs v (follows d (all_good r)))

-- what is derived is read
pub reads : (p : Piece) (xs : List CToken) (v : SemanticValue) → good p ≡ true → Derives p xs v → Reads p xs v
reads p xs v g d = full p xs v (follows d g)
