-- The marks' table goes from long to short, so the first that stands at the front is the longest.
use Rattle.std.proofs.Common.{◌≡◌, ℕ, zero, suc, ◌<◌, ◌≤◌, Bool, true, false, cond, ◌&&◌, ◌==◌, nat_le, List, [], ◌∷◌, length, drop, get_or, Option, Some, None, refl, ap, ◌∙◌, arith, find, length-drop}
use Rattle.std.specs.Prelude.{option_map, unwrap_or, MatchOption}
use Rattle.std.specs.List.{starts_with}
use Rattle.std.proofs.lemmas.Bool.{leb-true}
use Rattle.c0_tokens.specs.declared.token.TokenFault.TheVariants.{BadByte}
use Rattle.c0_tokens.specs.Tokens.{fixed, faulty}
use Rattle.c0_tokens.specs.Spelling.{Spelling, marks}
use Rattle.c0_tokens.specs.Lexis.{Cut, mark_cut}
use Rattle.c0_tokens.specs.Order.{CutsLongest}
use Rattle.c0_tokens.proofs.SpellingFound.{both_left, both_right}

-- whether no spelling is longer than the one before it, nor the first longer than n
abbrev falls : ℕ → List Spelling → Bool
falls n [] = true
falls n (s ∷ rest) = nat_le (length s.0) n && falls (length s.0) rest

-- then none is longer than n
falls_bound : (n : ℕ) (xs : List Spelling) (k : ℕ) (m : Spelling) → falls n xs ≡ true → k < length xs → length (get_or xs k m).0 ≤ n
falls_bound n [] k m f inside = absurd (omega arith)
falls_bound n (y ∷ ys) zero m f inside = leb-true (length y.0) n (both_left (nat_le (length y.0) n) (falls (length y.0) ys) f)
falls_bound n (y ∷ ys) (suc k) m f inside =
    let here : length y.0 ≤ n = leb-true (length y.0) n (both_left (nat_le (length y.0) n) (falls (length y.0) ys) f) in
    let there : length (get_or ys k m).0 ≤ length y.0 = falls_bound (length y.0) ys k m (both_right (nat_le (length y.0) n) (falls (length y.0) ys) f) (omega arith) in
    omega arith

-- something is found that is no shorter
abbrev IsLonger : Spelling → Option Spelling → Type 0
IsLonger m o = MatchOption o ⊥ (λ f. length m.0 ≤ length f.0)

this_or : (b : Bool) (m y : Spelling) (o : Option Spelling) → length m.0 ≤ length y.0 → IsLonger m o → IsLonger m (cond b (Some y) o)
this_or true m y o h l = h
this_or false m y o h l = l

-- where a spelling of such a table passes, one is found that is no shorter
longest : (p : Spelling → Bool) (n : ℕ) (xs : List Spelling) (k : ℕ) (m : Spelling) → falls n xs ≡ true → k < length xs → get_or xs k m ≡ m → p m ≡ true → IsLonger m (find p xs)
longest p n [] k m f inside e h = absurd (omega arith)
longest p n (y ∷ ys) zero m f inside e h = rw (ap p e ∙ h) (omega (arith, ap (λ s. length s.0) e))
longest p n (y ∷ ys) (suc k) m f inside e h =
    let later = both_right (nat_le (length y.0) n) (falls (length y.0) ys) f in
    let within : k < length ys = omega arith in
    let bound : length (get_or ys k m).0 ≤ length y.0 = falls_bound (length y.0) ys k m later within in
    this_or (p y) m y (find p ys) (omega (arith, bound, ap (λ s. length s.0) e)) (longest p (length y.0) ys k m later within e h)

marks_fall : falls 2 marks ≡ true
unfolding marks
marks_fall = refl

cut_longer : (text : List ℕ) (m : Spelling) (o : Option Spelling) → IsLonger m o
    → length (unwrap_or {T = Cut} (option_map (λ s. record { lexeme = fixed s.1; rest = drop (length s.0) text }) o) (record { lexeme = faulty BadByte; rest = drop 1 text })).rest ≤ length (drop (length m.0) text)
cut_longer text m None l = absurd l
cut_longer text m (Some f) l = omega (arith, l, length-drop (length f.0) text, length-drop (length m.0) text)

pub cuts_longest : (text : List ℕ) (mark : Spelling) → CutsLongest text mark
unfolding mark_cut
cuts_longest text mark among stands =
    cut_longer text mark (find (λ s. starts_with (λ a b. a == b) text s.0) marks)
    (longest (λ s. starts_with (λ a b. a == b) text s.0) 2 marks among.0 mark marks_fall among.1 among.2 stands)
