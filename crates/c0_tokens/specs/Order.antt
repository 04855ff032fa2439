-- What holds of the tokens of every source.
use Rattle.std.specs.Prelude.{◌≡◌, ℕ, ◌<◌, ◌≤◌, true, false, ◌==◌, ⊤, List, [], ◌∷◌, length, drop}
use Rattle.std.specs.List.{Contains, starts_with}
use Rattle.c0_tokens.specs.Tokens.{CLexeme, number, CToken}
use Rattle.c0_tokens.specs.Spelling.{Spelling, marks}
use Rattle.c0_tokens.specs.Lexis.{is_last, mark_cut}

-- the last token, and no other, is the end or a token that no source has; so there is one
abbrev pub EndsOnce : List CToken → Type 0
EndsOnce [] = ⊥
EndsOnce (t ∷ []) = is_last t.lexeme ≡ true
EndsOnce (t ∷ u ∷ rest) = (is_last t.lexeme ≡ false) × EndsOnce (u ∷ rest)

-- tokens stand one after another between two places, and each that a source may have has a byte
abbrev pub TokensInOrder : ℕ → ℕ → List CToken → Type 0
TokensInOrder from to [] = from ≤ to
TokensInOrder from to (t ∷ rest) = (from ≤ t.start) × (t.start ≤ t.stop) × (is_last t.lexeme ≡ false → t.start < t.stop) × TokensInOrder t.stop to rest

-- a number is at most 2147483647
abbrev pub NumberFits : CLexeme → Type 0
NumberFits (number value) = value ≤ 2147483647
NumberFits _ = ⊤

-- each number among tokens is at most 2147483647
abbrev pub NumbersFit : List CToken → Type 0
NumbersFit [] = ⊤
NumbersFit (t ∷ rest) = NumberFits t.lexeme × NumbersFit rest

-- no mark that stands at the front of a text is longer than the one that is cut from it
abbrev pub CutsLongest : List ℕ → Spelling → Type 0
CutsLongest text mark = Contains marks mark → starts_with (λ a b. a == b) text mark.0 ≡ true → length (mark_cut text).rest ≤ length (drop (length mark.0) text)
