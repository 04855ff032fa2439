-- What holds of the tokens of every source: the last one alone ends it, and they stand in order.
use Rattle.std.proofs.Common.{◌≡◌, ℕ, zero, suc, ◌+◌, ◌-◌, ◌<◌, ◌≤◌, Bool, true, false, List, [], ◌∷◌, length, refl, arith, if◌then◌else◌}
use Rattle.c0_tokens.specs.Tokens.{CToken}
use Rattle.c0_tokens.specs.Lexis.{text_from_token, is_asm_word, is_last, tokens_within}
use Rattle.c0_tokens.specs.Nesting.{Depth, outside, depth_after, at_depth, nested, tokens_of}
use Rattle.c0_tokens.specs.Order.{EndsOnce, TokensInOrder}
use Rattle.c0_tokens.proofs.TokensShorten.{next_cut, next_shorter, next_within, left_within, left_shorter}
use Rattle.c0_tokens.proofs.NextTokens.{keeps_last}

-- a token before tokens that end once
ends_after : (t : CToken) (last : Bool) (ts : List CToken) → is_last t.lexeme ≡ last → (last ≡ false → EndsOnce ts) → EndsOnce (t ∷ (if last then [] else ts))
ends_after t true ts e h = e
ends_after t false [] e h = absurd (h refl)
ends_after t false (u ∷ rest) e h = (e, h refl)

-- where enough tokens are allowed, the last one alone is the end or a token that no source has
ends : (n size : ℕ) (d : Depth) (after_asm : Bool) (text : List ℕ) → length text < n → EndsOnce (nested d (tokens_within n size after_asm text))
ends zero size d after_asm text h = absurd (omega arith)
ends (suc n) size d after_asm text h =
    let c = next_cut after_asm text in
    let lexeme = at_depth d c.lexeme in
    let after = nested (depth_after d c.lexeme) (if is_last c.lexeme then [] else tokens_within n size (is_asm_word c.lexeme) c.rest) in
    ends_after (record { lexeme = lexeme; start = size - length (text_from_token after_asm text); stop = size - length c.rest }) (is_last lexeme) after refl
    (λ e. let plain : is_last c.lexeme ≡ false = keeps_last d c.lexeme e in
    let shorter : length c.rest < length text = next_shorter after_asm text plain in
    rw plain (ends n size (depth_after d c.lexeme) (is_asm_word c.lexeme) c.rest (omega arith)))

pub source_ends : (source : List ℕ) → EndsOnce (tokens_of source)
source_ends source = ends (length source + 1) (length source) outside false source (omega arith)

-- the tokens after one
order_after : (from to : ℕ) (last : Bool) (ts : List CToken) → from ≤ to → (last ≡ false → TokensInOrder from to ts) → TokensInOrder from to (if last then [] else ts)
order_after from to true ts e h = e
order_after from to false ts e h = h refl

-- tokens stand after the bytes before them
order : (n size from : ℕ) (d : Depth) (after_asm : Bool) (text : List ℕ) → length text < n → length text ≤ size → from ≤ size - length text → TokensInOrder from size (nested d (tokens_within n size after_asm text))
order zero size from d after_asm text h inside at = absurd (omega arith)
order (suc n) size from d after_asm text h inside at =
    let here = text_from_token after_asm text in
    let c = next_cut after_asm text in
    let lexeme = at_depth d c.lexeme in
    let within : length here ≤ length text = next_within after_asm text in
    let less : length c.rest ≤ length here = left_within after_asm here in
    let after = nested (depth_after d c.lexeme) (if is_last c.lexeme then [] else tokens_within n size (is_asm_word c.lexeme) c.rest) in (
      omega arith,
      omega arith,
      (λ e. let some : length c.rest < length here = left_shorter after_asm here (keeps_last d c.lexeme e) in omega arith),
      order_after (size - length c.rest) size (is_last lexeme) after (omega arith)
          (λ e. let plain : is_last c.lexeme ≡ false = keeps_last d c.lexeme e in
          let shorter : length c.rest < length text = next_shorter after_asm text plain in
          rw plain (order n size (size - length c.rest) (depth_after d c.lexeme) (is_asm_word c.lexeme) c.rest (omega arith) (omega arith) (omega arith))),
    )

pub source_order : (source : List ℕ) → TokensInOrder 0 (length source) (tokens_of source)
source_order source = order (length source + 1) (length source) 0 outside false source (omega arith) (omega arith) (omega arith)
