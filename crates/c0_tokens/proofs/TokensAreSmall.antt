-- A source has few tokens, and its numbers are small.
use Rattle.std.proofs.Common.{◌≡◌, ℕ, zero, suc, ◌+◌, ◌≤◌, Bool, true, false, ◌&&◌, ◌==◌, nat_le, List, [], ◌∷◌, length, drop, Option, Some, None, refl, sym, arith, find, bytes_eq, if◌then◌else◌}
use Rattle.std.specs.Prelude.{option_map, unwrap_or, take_while}
use Rattle.std.specs.List.{starts_with}
use Rattle.std.proofs.lemmas.Bool.{leb-true}
use Rattle.c0_tokens.specs.declared.token.TokenFault.TheVariants.{BadByte, BadNumber, TooNested}
use Rattle.c0_tokens.specs.Tokens.{CLexeme, name, number, asm_text, fixed, faulty, end, CToken}
use Rattle.c0_tokens.specs.Spelling.{Spelling, reserved_words, marks}
use Rattle.c0_tokens.specs.Lexis.{Cut, longest_token, word_lexeme, number_lexeme, word_cut, number_cut, mark_cut, asm_cut, digits_value, has_leading_zero, text_from_token, is_asm_word, is_last, is_letter, is_digit, is_word_byte, tokens_within}
use Rattle.c0_tokens.specs.Nesting.{Depth, outside, depth_after, at_depth, is_too_nested, nested, tokens_of}
use Rattle.c0_tokens.specs.Order.{NumberFits, NumbersFit}
use Rattle.c0_tokens.proofs.TokensShorten.{next_cut}

small_or_none : (b : Bool) (n m : ℕ) → b ≡ nat_le n m → (m ≡ 2147483647) → NumberFits (if b then number n else faulty BadNumber)
small_or_none true n m e l = let h = leb-true n m (sym e) in omega (arith, h, l)
small_or_none false n m e l = tt

bad_or : (b : Bool) (l : CLexeme) → NumberFits l → NumberFits (if b then faulty BadNumber else l)
bad_or true l h = tt
bad_or false l h = h

number_small : (digits : List ℕ) → NumberFits (number_lexeme digits)
number_small digits =
    bad_or (has_leading_zero digits) (if nat_le (digits_value digits) 2147483647 then number (digits_value digits) else faulty BadNumber)
    (small_or_none (nat_le (digits_value digits) 2147483647) (digits_value digits) 2147483647 refl refl)

word_or_name : (o : Option Spelling) (text : List ℕ) → NumberFits (unwrap_or {T = CLexeme} (option_map (λ s. fixed s.1) o) (name text))
word_or_name None text = tt
word_or_name (Some s) text = tt

word_small : (text : List ℕ) → NumberFits (word_lexeme text)
unfolding word_lexeme
word_small text = word_or_name (find (λ s. bytes_eq s.0 text) reserved_words) text

mark_or_bad : (o : Option Spelling) (text : List ℕ) → NumberFits (unwrap_or {T = Cut} (option_map (λ s. record { lexeme = fixed s.1; rest = drop (length s.0) text }) o) (record { lexeme = faulty BadByte; rest = drop 1 text })).lexeme
mark_or_bad None text = tt
mark_or_bad (Some s) text = tt

mark_small : (text : List ℕ) → NumberFits (mark_cut text).lexeme
unfolding mark_cut
mark_small text = mark_or_bad (find (λ s. starts_with (λ a b. a == b) text s.0) marks) text

choice_small : (b : Bool) (x y : Cut) → NumberFits x.lexeme → NumberFits y.lexeme → NumberFits (if b then x else y).lexeme
choice_small true x y h k = h
choice_small false x y h k = k

cut_small : (after_asm : Bool) (text : List ℕ) → NumberFits (longest_token after_asm text).lexeme
cut_small after_asm [] = tt
cut_small after_asm (a ∷ rest) =
    let word = word_cut (a ∷ rest) in
    let digits = number_cut (a ∷ rest) in
    let sign = mark_cut (a ∷ rest) in
    choice_small (after_asm && (a == 123)) (asm_cut rest) (if is_letter a then word else if is_digit a then digits else sign) tt
    (choice_small (is_letter a) word (if is_digit a then digits else sign) (word_small (take_while is_word_byte (a ∷ rest)))
    (choice_small (is_digit a) digits sign (number_small (take_while is_digit (a ∷ rest))) (mark_small (a ∷ rest))))

nested_or : (b : Bool) (l : CLexeme) → NumberFits l → NumberFits (if b then faulty TooNested else l)
nested_or true l h = tt
nested_or false l h = h

depth_small : (d : Depth) (l : CLexeme) → NumberFits l → NumberFits (at_depth d l)
depth_small d (faulty fault) h = tt
depth_small d (name text) h = nested_or (is_too_nested d (name text)) (name text) h
depth_small d (number value) h = nested_or (is_too_nested d (number value)) (number value) h
depth_small d (asm_text text) h = nested_or (is_too_nested d (asm_text text)) (asm_text text) h
depth_small d (fixed mark) h = nested_or (is_too_nested d (fixed mark)) (fixed mark) h
depth_small d end h = nested_or (is_too_nested d end) end h

rest_small : (b : Bool) (ts : List CToken) → NumbersFit ts → NumbersFit (if b then [] else ts)
rest_small true ts h = tt
rest_small false ts h = h

nested_small : (d : Depth) (ts : List CToken) → NumbersFit ts → NumbersFit (nested d ts)
nested_small d [] h = tt
nested_small d (t ∷ rest) h =
    (depth_small d t.lexeme h.0, rest_small (is_last (at_depth d t.lexeme)) (nested (depth_after d t.lexeme) rest) (nested_small (depth_after d t.lexeme) rest h.1))

within_small : (n size : ℕ) (after_asm : Bool) (text : List ℕ) → NumbersFit (tokens_within n size after_asm text)
within_small zero size after_asm text = tt
within_small (suc n) size after_asm text =
    let c = next_cut after_asm text in
    (cut_small after_asm (text_from_token after_asm text), rest_small (is_last c.lexeme) (tokens_within n size (is_asm_word c.lexeme) c.rest) (within_small n size (is_asm_word c.lexeme) c.rest))

pub source_small : (source : List ℕ) → NumbersFit (tokens_of source)
source_small source = nested_small outside (tokens_within (length source + 1) (length source) false source) (within_small (length source + 1) (length source) false source)

rest_few : (b : Bool) (n : ℕ) (ts : List CToken) → length ts ≤ n → length (if b then [] else ts) ≤ n
rest_few true n ts h = omega arith
rest_few false n ts h = h

nested_few : (d : Depth) (ts : List CToken) → length (nested d ts) ≤ length ts
nested_few d [] = omega arith
nested_few d (t ∷ rest) =
    let h = rest_few (is_last (at_depth d t.lexeme)) (length rest) (nested (depth_after d t.lexeme) rest) (nested_few (depth_after d t.lexeme) rest) in
    omega (arith, h)

within_few : (n size : ℕ) (after_asm : Bool) (text : List ℕ) → length (tokens_within n size after_asm text) ≤ n
within_few zero size after_asm text = omega arith
within_few (suc n) size after_asm text =
    let c = next_cut after_asm text in
    let h = rest_few (is_last c.lexeme) n (tokens_within n size (is_asm_word c.lexeme) c.rest) (within_few n size (is_asm_word c.lexeme) c.rest) in
    omega (arith, h)

pub source_few : (source : List ℕ) → length (tokens_of source) ≤ length source + 1
source_few source =
    let h = nested_few outside (tokens_within (length source + 1) (length source) false source) in
    let k = within_few (length source + 1) (length source) false source in
    omega (arith, h, k)
