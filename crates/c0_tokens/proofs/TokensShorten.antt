-- Each token but the last leaves less of the text, so the number of tokens that the definition allows is never the reason to stop.
use Rattle.std.proofs.Common.{◌≡◌, ℕ, zero, suc, ◌+◌, ◌-◌, ◌<◌, ◌≤◌, Bool, true, false, ◌==◌, ◌&&◌, ◌||◌, cond, List, [], ◌∷◌, length, take, drop, Option, Some, None, refl, ap, arith, true≢false, length-drop, if◌then◌else◌, find, get_or, sym, ◌∙◌, not, eq-eqb}
use Rattle.std.specs.Prelude.{option_map, unwrap_or}
use Rattle.std.specs.List.{prefix_len, starts_with, position_or_len}
use Rattle.std.proofs.lemmas.List.Folds.{length-prefix_len}
use Rattle.std.proofs.lemmas.List.Sums.{prefix_len-le-length}
use Rattle.std.proofs.lemmas.Bool.Decides.{nat_tests}
use Rattle.c0_tokens.specs.Tokens.{CToken, fixed, faulty}
use Rattle.c0_tokens.specs.declared.token.TokenFault.TheVariants.{BadByte}
use Rattle.c0_tokens.specs.Spelling.{Spelling, marks}
use Rattle.c0_tokens.specs.Lexis.{gap, Cut, longest_token, asm_cut, mark_cut, word_cut, number_cut, text_from_token, is_unclosed, is_asm_word, is_last, is_letter, is_digit, is_word_byte, is_close_brace, tokens_within}
use Rattle.c0_tokens.proofs.SpellingFound.{mark_has_byte}

-- a run whose first byte passes leaves less of the text
run_shorter : (p : ℕ → Bool) (a : ℕ) (rest : List ℕ) → p a ≡ true → length (drop (length (take (prefix_len p (a ∷ rest)) (a ∷ rest))) (a ∷ rest)) < length (a ∷ rest)
run_shorter p a rest e =
    let n = prefix_len p (a ∷ rest) in
    let some : n ≡ 1 + prefix_len p rest = ap (λ b. cond b (1 + prefix_len p rest) 0) e in
    omega (arith, length-drop (length (take n (a ∷ rest))) (a ∷ rest), length-prefix_len p (a ∷ rest), some)

-- whether a mark stands at the front of a text
abbrev stands : List ℕ → Spelling → Bool
stands text s = starts_with (λ a b. a == b) text s.0

-- a mark leaves less of the text
mark_found : (text : List ℕ) (o : Option Spelling) → 0 < length text → find (stands text) marks ≡ o
    → length (unwrap_or {T = Cut} (option_map (λ s. record { lexeme = fixed s.1; rest = drop (length s.0) text }) o) (record { lexeme = faulty BadByte; rest = drop 1 text })).rest < length text
mark_found text None some e = omega (arith, length-drop 1 text)
mark_found text (Some s) some e = omega (arith, length-drop (length s.0) text, mark_has_byte (stands text) s e)

mark_shorter : (text : List ℕ) → 0 < length text → length (mark_cut text).rest < length text
unfolding mark_cut
mark_shorter text some = mark_found text (find (stands text) marks) some refl

-- a choice of two tokens that leave less
choose_shorter : (b : Bool) (x y : Cut) (n : ℕ) → (b ≡ true → length x.rest < n) → length y.rest < n → length (if b then x else y).rest < n
choose_shorter true x y n l r = l refl
choose_shorter false x y n l r = r

-- a token of a text that isn't empty leaves less of it
cut_shorter : (after_asm : Bool) (a : ℕ) (rest : List ℕ) → length (longest_token after_asm (a ∷ rest)).rest < length (a ∷ rest)
cut_shorter after_asm a rest =
    let n = length (a ∷ rest) in
    let word = word_cut (a ∷ rest) in
    let digits = number_cut (a ∷ rest) in
    let sign = mark_cut (a ∷ rest) in
    choose_shorter (after_asm && (a == 123)) (asm_cut rest) (if is_letter a then word else if is_digit a then digits else sign) n
    (λ e. omega (arith, length-drop (position_or_len is_close_brace rest + 1) rest))
    (choose_shorter (is_letter a) word (if is_digit a then digits else sign) n
    (λ e. run_shorter is_word_byte a rest (ap (λ b. b || is_digit a) e))
    (choose_shorter (is_digit a) digits sign n (run_shorter is_digit a rest) (mark_shorter (a ∷ rest) (omega arith))))

-- so does a token that isn't the last
pub left_shorter : (after_asm : Bool) (text : List ℕ) → is_last (longest_token after_asm text).lexeme ≡ false → length (longest_token after_asm text).rest < length text
left_shorter after_asm [] more = absurd (true≢false more)
left_shorter after_asm (a ∷ rest) more = cut_shorter after_asm a rest

-- no token leaves more of the text
pub left_within : (after_asm : Bool) (text : List ℕ) → length (longest_token after_asm text).rest ≤ length text
left_within after_asm [] = omega arith
left_within after_asm (a ∷ rest) = let h = cut_shorter after_asm a rest in omega (arith, h)

choose_within : (b : Bool) (x : List ℕ) (n : ℕ) → length x ≤ n → length (if b then [] else x) ≤ n
choose_within true x n h = omega arith
choose_within false x n h = h

-- what is left from the next token on is within the text
pub next_within : (after_asm : Bool) (text : List ℕ) → length (text_from_token after_asm text) ≤ length text
next_within after_asm text =
    choose_within (after_asm && is_unclosed (drop (gap text) text)) (drop (gap text) text) (length text) (omega (arith, length-drop (gap text) text))

-- the next token of a text
abbrev pub next_cut : Bool → List ℕ → Cut
next_cut after_asm text = longest_token after_asm (text_from_token after_asm text)

-- what is left after a token that isn't the last is shorter
pub next_shorter : (after_asm : Bool) (text : List ℕ) → is_last (next_cut after_asm text).lexeme ≡ false → length (next_cut after_asm text).rest < length text
next_shorter after_asm text more = omega (arith, left_shorter after_asm (text_from_token after_asm text) more, next_within after_asm text)

-- the token that comes next, where it stands in a source of so many bytes
abbrev pub next_token : ℕ → Bool → List ℕ → CToken
next_token size after_asm text =
    record { lexeme = (next_cut after_asm text).lexeme; start = size - length (text_from_token after_asm text); stop = size - length (next_cut after_asm text).rest }

-- two bounds allow the same tokens if they do after the first
same_end : (n m size : ℕ) (after_asm : Bool) (text : List ℕ) (last : Bool) → is_last (next_cut after_asm text).lexeme ≡ last
    → (last ≡ false → tokens_within n size (is_asm_word (next_cut after_asm text).lexeme) (next_cut after_asm text).rest ≡ tokens_within m size (is_asm_word (next_cut after_asm text).lexeme) (next_cut after_asm text).rest)
    → tokens_within (suc n) size after_asm text ≡ tokens_within (suc m) size after_asm text
same_end n m size after_asm text true e more = rw e refl
same_end n m size after_asm text false e more = rw e (ap (λ ts. next_token size after_asm text ∷ ts) (more refl))

-- where the bound on the number of tokens is above the length, it is never the reason to stop
pub enough : (n m size : ℕ) (after_asm : Bool) (text : List ℕ) → length text < n → length text < m → tokens_within n size after_asm text ≡ tokens_within m size after_asm text
enough zero m size after_asm text l k = absurd (omega arith)
enough (suc n) zero size after_asm text l k = absurd (omega arith)
enough (suc n) (suc m) size after_asm text l k =
    let c = next_cut after_asm text in
    same_end n m size after_asm text (is_last c.lexeme) refl
    (λ e. let shorter : length c.rest < length text = next_shorter after_asm text e in
    enough n m size (is_asm_word c.lexeme) c.rest (omega arith) (omega arith))

-- where an opening brace isn't unclosed, a closing one stands after it
pub closed_after : (text : List ℕ) → 0 < length text → get_or text 0 0 ≡ 123 → is_unclosed text ≡ false → position_or_len is_close_brace (drop 1 text) < length (drop 1 text)
closed_after [] some e closed = absurd (omega arith)
closed_after (a ∷ rest) some e closed =
    let n = position_or_len is_close_brace rest in
    let other : (n == length rest) ≡ false = sym (ap (λ b. b && (n == length rest)) (eq-eqb a 123 e)) ∙ closed in
    let within : n ≤ length rest = prefix_len-le-length (λ b. not (is_close_brace b)) rest in
    below n (length rest) other within
  where
    below : (n m : ℕ) → (n == m) ≡ false → n ≤ m → n < m
    below n m e h = grind (arith, nat_tests)
