-- How a source is cut into tokens, whatever their nesting is.
use Rattle.std.specs.Prelude.{ℕ, zero, suc, ◌+◌, ◌-◌, ◌*◌, Bool, true, false, ◌&&◌, ◌||◌, ◌==◌, nat_le}
use Rattle.std.specs.Prelude.{nat_lt, if◌then◌else◌, option_map, unwrap_or, find, List, [], ◌∷◌, length, drop, fold, take_while, bytes_eq}
use Rattle.std.specs.List.{starts_with, position_or_len, before_first, after_first}
use Rattle.c0_tokens.specs.declared.token.Mark.TheVariants.{Asm}
use Rattle.c0_tokens.specs.declared.token.TokenFault.TheVariants.{BadByte, BadNumber}
use Rattle.c0_tokens.specs.Tokens.{CLexeme, name, number, asm_text, fixed, faulty, end, CToken}
use Rattle.c0_tokens.specs.Spelling.{reserved_words, marks}

-- 0 to 9
abbrev pub is_digit : ℕ → Bool
is_digit b = nat_le 48 b && nat_le b 57

-- a letter or _
abbrev pub is_letter : ℕ → Bool
is_letter b = (nat_le 65 b && nat_le b 90) || (nat_le 97 b && nat_le b 122) || (b == 95)

-- a byte of a name or a reserved word
abbrev pub is_word_byte : ℕ → Bool
is_word_byte b = is_letter b || is_digit b

-- space, tab, CR or LF
abbrev pub is_blank : ℕ → Bool
is_blank b = (b == 32) || (b == 9) || (b == 13) || (b == 10)

-- }
abbrev pub is_close_brace : ℕ → Bool
is_close_brace b = b == 125

-- how many bytes the blanks and comments at the front take; a comment goes from // to the next LF or the end, whatever its bytes are
abbrev mutual
  pub gap : List ℕ → ℕ
  gap [] = 0
  gap (a ∷ rest) = if is_blank a then suc (gap rest) else if a == 47 then slash rest else 0

  -- after a slash
  pub slash : List ℕ → ℕ
  slash [] = 0
  slash (b ∷ rest) = if b == 47 then suc (suc (comment rest)) else 0

  -- inside a comment
  pub comment : List ℕ → ℕ
  comment [] = 0
  comment (b ∷ rest) = if b == 10 then suc (gap rest) else suc (comment rest)

-- a token, and the bytes after it
pub record Cut : Type 0 where
  pub lexeme : CLexeme
  pub rest : List ℕ

-- a reserved word, or a name
unfoldable pub word_lexeme : List ℕ → CLexeme
word_lexeme text = unwrap_or (option_map (λ s. fixed s.1) (find (λ s. bytes_eq s.0 text) reserved_words)) (name text)

-- the number that digits spell
abbrev pub digits_value : List ℕ → ℕ
digits_value digits = fold (λ value d. 10 * value + (d - 48)) 0 digits

-- whether a 0 stands before a further digit
abbrev pub has_leading_zero : List ℕ → Bool
has_leading_zero [] = false
has_leading_zero (d ∷ rest) = (d == 48) && nat_lt 0 (length rest)

-- a run of digits: bad with a leading 0, and above 2147483647
abbrev pub number_lexeme : List ℕ → CLexeme
number_lexeme digits =
    if has_leading_zero digits then faulty BadNumber else
    if nat_le (digits_value digits) 2147483647 then number (digits_value digits) else
    faulty BadNumber

-- what stands at the front of bytes that begin with no letter or digit: the longest mark, or a byte that begins none
unfoldable pub mark_cut : List ℕ → Cut
mark_cut text =
    unwrap_or
    (option_map (λ s. record { lexeme = fixed s.1; rest = drop (length s.0) text }) (find (λ s. starts_with (λ a b. a == b) text s.0) marks))
    (record { lexeme = faulty BadByte; rest = drop 1 text })

-- the asm text that follows an opening brace: the bytes before the next closing one
abbrev pub asm_cut : List ℕ → Cut
asm_cut rest = record { lexeme = asm_text (before_first is_close_brace rest); rest = after_first is_close_brace rest }

-- the reserved word or name that all letters, digits and _ at the front are
abbrev pub word_cut : List ℕ → Cut
word_cut text = record { lexeme = word_lexeme (take_while is_word_byte text); rest = drop (length (take_while is_word_byte text)) text }

-- the number that all digits at the front are
abbrev pub number_cut : List ℕ → Cut
number_cut text = record { lexeme = number_lexeme (take_while is_digit text); rest = drop (length (take_while is_digit text)) text }

-- the longest token at the front of bytes where no blank or comment stands, and whether the token before it was the word asm
abbrev pub longest_token : Bool → List ℕ → Cut
longest_token after_asm [] = record { lexeme = end; rest = [] }
longest_token after_asm (a ∷ rest) =
    if after_asm && (a == 123) then asm_cut rest else
    if is_letter a then word_cut (a ∷ rest) else
    if is_digit a then number_cut (a ∷ rest) else
    mark_cut (a ∷ rest)

-- whether an opening brace stands at the front and no closing one after it
abbrev pub is_unclosed : List ℕ → Bool
is_unclosed [] = false
is_unclosed (a ∷ rest) = (a == 123) && (position_or_len is_close_brace rest == length rest)

-- what is left from the next token on: without the blanks and comments before it, and nothing where an asm text isn't closed
abbrev pub text_from_token : Bool → List ℕ → List ℕ
text_from_token after_asm text = if after_asm && is_unclosed (drop (gap text) text) then [] else drop (gap text) text

-- whether a token is the word asm
abbrev pub is_asm_word : CLexeme → Bool
is_asm_word (fixed Asm) = true
is_asm_word _ = false

-- nothing is read after the end of a source, nor after a token that no source has
abbrev pub is_last : CLexeme → Bool
is_last (faulty fault) = true
is_last end = true
is_last _ = false

-- the tokens, at most so many, of a text that is the end of a source of so many bytes, and whether the token before it was the word asm.
-- A text's first byte stands in the source at the source's length less the text's.
abbrev pub tokens_within : ℕ → ℕ → Bool → List ℕ → List CToken
tokens_within zero size after_asm text = []
tokens_within (suc n) size after_asm text =
    let here = text_from_token after_asm text in
    let c = longest_token after_asm here in
    record { lexeme = c.lexeme; start = size - length here; stop = size - length c.rest }
    ∷ (if is_last c.lexeme then [] else tokens_within n size (is_asm_word c.lexeme) c.rest)

-- the tokens of a source, up to its end or the first byte or number that is bad
abbrev pub plain_tokens : List ℕ → List CToken
plain_tokens source = tokens_within (length source + 1) (length source) false source
