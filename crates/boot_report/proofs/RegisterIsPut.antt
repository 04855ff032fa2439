-- The row of a register that was put, piece by piece.
use Rattle.std.proofs.Common.{◌≡◌, ℕ, List, [], ◌∷◌, ◌++◌, ap, ◌∙◌}
use Rattle.std.proofs.lemmas.List.{append_assoc}

-- a text, a number, a blank, a word and a line feed, put one after another
pub hex_put : (text a b c d e number word : List ℕ) → a ≡ text → b ≡ a ++ number → c ≡ b ++ 32 ∷ [] → d ≡ c ++ word → e ≡ d ++ 10 ∷ [] → e ≡ text ++ number ++ (32 ∷ word) ++ 10 ∷ []
hex_put text a b c d e number word ea eb ec ed ee =
    ee ∙ ap (λ d. d ++ 10 ∷ []) (ed ∙ ap (λ c. c ++ word) (ec ∙ ap (λ b. b ++ 32 ∷ []) (eb ∙ ap (λ a. a ++ number) ea)) ∙ append_assoc (text ++ number) (32 ∷ []) word)
