-- No name and no asm text of a source is longer than the source: each token is cut from what is left of it.
use Rattle.std.proofs.Common.{ℕ, zero, suc, ◌+◌, ◌≤◌, Bool, true, false, ◌&&◌, ◌==◌, nat_le, List, [], ◌∷◌, length, drop, Option, Some, None, arith, find, bytes_eq, if◌then◌else◌, length-drop}
use Rattle.std.specs.Prelude.{option_map, unwrap_or, take_while}
use Rattle.std.specs.List.{prefix_len, position_or_len, starts_with}
use Rattle.std.proofs.lemmas.List.{length-take}
use Rattle.c0_tokens.specs.declared.token.TokenFault.TheVariants.{BadByte, BadNumber, TooNested}
use Rattle.c0_tokens.specs.Tokens.{CLexeme, name, number, asm_text, fixed, faulty, end, CToken}
use Rattle.c0_tokens.specs.Spelling.{Spelling, reserved_words, marks}
use Rattle.c0_tokens.specs.Lexis.{gap, Cut, longest_token, word_lexeme, number_lexeme, word_cut, number_cut, mark_cut, asm_cut, digits_value, has_leading_zero, is_unclosed, text_from_token, is_asm_word, is_last, is_letter, is_digit, is_word_byte, is_close_brace, tokens_within}
use Rattle.c0_tokens.specs.Nesting.{Depth, outside, depth_after, at_depth, is_too_nested, nested, tokens_of}
use Rattle.c0_parser.specs.Value.{lexeme_text}

-- the text of a token is at most so long
abbrev pub TextFits : ℕ → CLexeme → Type 0
TextFits n l = length (lexeme_text l) ≤ n

-- so is the text of each of these tokens
abbrev pub TextsFit : ℕ → List CToken → Type 0
TextsFit n [] = Unit {0}
TextsFit n (t ∷ ts) = TextFits n t.lexeme × TextsFit n ts

-- so are the text of a token that is cut, and what is left
abbrev CutFits : ℕ → Cut → Type 0
CutFits n c = TextFits n c.lexeme × (length c.rest ≤ n)

choice_fits : (n : ℕ) (b : Bool) (x y : Cut) → CutFits n x → CutFits n y → CutFits n (if b then x else y)
choice_fits n true x y h k = h
choice_fits n false x y h k = k

rest_fits : (n k : ℕ) (text : List ℕ) → length text ≤ n → length (drop k text) ≤ n
rest_fits n k text h = omega (arith, length-drop k text)

run_fits : (n : ℕ) (p : ℕ → Bool) (text : List ℕ) → length text ≤ n → length (take_while p text) ≤ n
run_fits n p text h = omega (arith, length-take (prefix_len p text) text)

asm_fits : (n : ℕ) (rest : List ℕ) → length rest ≤ n → CutFits n (asm_cut rest)
asm_fits n rest h = let k = position_or_len is_close_brace rest in (omega (arith, length-take k rest), rest_fits n (k + 1) rest h)

word_or_name : (n : ℕ) (o : Option Spelling) (text : List ℕ) → length text ≤ n → TextFits n (unwrap_or {T = CLexeme} (option_map (λ s. fixed s.1) o) (name text))
word_or_name n None text h = h
word_or_name n (Some s) text h = omega arith

word_fits : (n : ℕ) (text : List ℕ) → length text ≤ n → TextFits n (word_lexeme text)
unfolding word_lexeme
word_fits n text h = word_or_name n (find (λ s. bytes_eq s.0 text) reserved_words) text h

number_or_bad : (n value : ℕ) (a b : Bool) → TextFits n (if a then faulty BadNumber else if b then number value else faulty BadNumber)
number_or_bad n value true b = omega arith
number_or_bad n value false true = omega arith
number_or_bad n value false false = omega arith

number_fits : (n : ℕ) (digits : List ℕ) → TextFits n (number_lexeme digits)
number_fits n digits = number_or_bad n (digits_value digits) (has_leading_zero digits) (nat_le (digits_value digits) 2147483647)

mark_or_bad : (n : ℕ) (o : Option Spelling) (text : List ℕ) → length text ≤ n →
    CutFits n (unwrap_or {T = Cut} (option_map (λ s. record { lexeme = fixed s.1; rest = drop (length s.0) text }) o) (record { lexeme = faulty BadByte; rest = drop 1 text }))
mark_or_bad n None text h = (omega arith, rest_fits n 1 text h)
mark_or_bad n (Some s) text h = (omega arith, rest_fits n (length s.0) text h)

mark_fits : (n : ℕ) (text : List ℕ) → length text ≤ n → CutFits n (mark_cut text)
unfolding mark_cut
mark_fits n text h = mark_or_bad n (find (λ s. starts_with (λ a b. a == b) text s.0) marks) text h

cut_fits : (n : ℕ) (after_asm : Bool) (text : List ℕ) → length text ≤ n → CutFits n (longest_token after_asm text)
cut_fits n after_asm [] h = (omega arith, omega arith)
cut_fits n after_asm (a ∷ rest) h =
    let text = a ∷ rest in
    let word = word_cut text in
    let digits = number_cut text in
    let sign = mark_cut text in
    choice_fits n (after_asm && (a == 123)) (asm_cut rest) (if is_letter a then word else if is_digit a then digits else sign) (asm_fits n rest (omega arith))
    (choice_fits n (is_letter a) word (if is_digit a then digits else sign)
    (word_fits n (take_while is_word_byte text) (run_fits n is_word_byte text h), rest_fits n (length (take_while is_word_byte text)) text h)
    (choice_fits n (is_digit a) digits sign
    (number_fits n (take_while is_digit text), rest_fits n (length (take_while is_digit text)) text h)
    (mark_fits n text h)))

none_or : (n : ℕ) (b : Bool) (text : List ℕ) → length text ≤ n → length (if b then [] else text) ≤ n
none_or n true text h = omega arith
none_or n false text h = h

next_fits : (n : ℕ) (after_asm : Bool) (text : List ℕ) → length text ≤ n → length (text_from_token after_asm text) ≤ n
next_fits n after_asm text h = none_or n (after_asm && is_unclosed (drop (gap text) text)) (drop (gap text) text) (rest_fits n (gap text) text h)

ends_or : (n : ℕ) (b : Bool) (ts : List CToken) → TextsFit n ts → TextsFit n (if b then [] else ts)
ends_or n true ts h = tt
ends_or n false ts h = h

within_fits : (k n size : ℕ) (after_asm : Bool) (text : List ℕ) → length text ≤ n → TextsFit n (tokens_within k size after_asm text)
within_fits zero n size after_asm text h = tt
within_fits (suc k) n size after_asm text h =
    let c = longest_token after_asm (text_from_token after_asm text) in
    let f = cut_fits n after_asm (text_from_token after_asm text) (next_fits n after_asm text h) in
    (f.0, ends_or n (is_last c.lexeme) (tokens_within k size (is_asm_word c.lexeme) c.rest) (within_fits k n size (is_asm_word c.lexeme) c.rest f.1))

nested_or : (n : ℕ) (b : Bool) (l : CLexeme) → TextFits n l → TextFits n (if b then faulty TooNested else l)
nested_or n true l h = omega arith
nested_or n false l h = h

depth_fits : (n : ℕ) (d : Depth) (l : CLexeme) → TextFits n l → TextFits n (at_depth d l)
depth_fits n d (faulty fault) h = h
depth_fits n d (name text) h = nested_or n (is_too_nested d (name text)) (name text) h
depth_fits n d (number value) h = nested_or n (is_too_nested d (number value)) (number value) h
depth_fits n d (asm_text text) h = nested_or n (is_too_nested d (asm_text text)) (asm_text text) h
depth_fits n d (fixed mark) h = nested_or n (is_too_nested d (fixed mark)) (fixed mark) h
depth_fits n d end h = nested_or n (is_too_nested d end) end h

nested_fits : (n : ℕ) (d : Depth) (ts : List CToken) → TextsFit n ts → TextsFit n (nested d ts)
nested_fits n d [] h = tt
nested_fits n d (t ∷ rest) h =
    (depth_fits n d t.lexeme h.0, ends_or n (is_last (at_depth d t.lexeme)) (nested (depth_after d t.lexeme) rest) (nested_fits n (depth_after d t.lexeme) rest h.1))

pub texts_fit : (source : List ℕ) → TextsFit (length source) (tokens_of source)
texts_fit source =
    nested_fits (length source) outside (tokens_within (length source + 1) (length source) false source)
    (within_fits (length source + 1) (length source) (length source) false source (omega arith))
