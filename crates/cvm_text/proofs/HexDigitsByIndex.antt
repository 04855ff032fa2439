-- Each digit of a word in hexadecimal, by its index.
use Rattle.std.proofs.Common.{◌≡◌, ◌<◌, ◌+◌, ◌-◌, ◌*◌, ◌/◌, ◌%◌, ◌^◌, ℕ, zero, suc, List, [], ◌∷◌, ◌++◌, take, get_or, refl, ap, sym, ◌∙◌, arith}
use Rattle.std.proofs.lemmas.List.{take_more}
use Rattle.cvm_text.specs.Hex.{hex8, hex_digit}

digit_at : (word index : ℕ) → index < 8 → get_or (hex8 word) index 0 ≡ hex_digit (word / 2 ^ (28 - 4 * index) % 16)
digit_at word zero inside = refl
digit_at word (suc zero) inside = refl
digit_at word (suc (suc zero)) inside = refl
digit_at word (suc (suc (suc zero))) inside = refl
digit_at word (suc (suc (suc (suc zero)))) inside = refl
digit_at word (suc (suc (suc (suc (suc zero))))) inside = refl
digit_at word (suc (suc (suc (suc (suc (suc zero)))))) inside = refl
digit_at word (suc (suc (suc (suc (suc (suc (suc zero))))))) inside = refl
digit_at word (suc (suc (suc (suc (suc (suc (suc (suc k)))))))) inside = absurd (omega arith)

pub one_more_digit : (word index digit : ℕ) (before after : List ℕ) → index < 8 → before ≡ take index (hex8 word) → after ≡ before ++ (digit ∷ [])
    → digit ≡ hex_digit (word / 2 ^ (28 - 4 * index) % 16) → after ≡ take (index + 1) (hex8 word)
one_more_digit word index digit before after inside so_far pushed is =
    pushed ∙ ap (λ bs. bs ++ (digit ∷ [])) so_far ∙ ap (λ d. take index (hex8 word) ++ (d ∷ [])) (is ∙ sym (digit_at word index inside))
    ∙ sym (take_more (hex8 word) index 0 inside)
