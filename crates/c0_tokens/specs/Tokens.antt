-- A token as contracts see it: its text as a list.
use Rattle.std.specs.Prelude.{ℕ, List}
use Rattle.c0_tokens.specs.declared.token.Mark.{Mark}
use Rattle.c0_tokens.specs.declared.token.TokenFault.{TokenFault}
use Rattle.c0_tokens.specs.declared.token.Lexeme.{Lexeme}
use Rattle.c0_tokens.specs.declared.token.Lexeme.TheVariants.{Name, Number, AsmText, Fixed, Faulty, End}
use Rattle.c0_tokens.specs.declared.token.Token.{Token}

-- what a token is: a name, a number, the text of an asm body, a reserved word or mark, a token of no source, or the end
pub data CLexeme : Type 0 where
  name : (text : List ℕ) → CLexeme
  number : (value : ℕ) → CLexeme
  asm_text : (text : List ℕ) → CLexeme
  fixed : (mark : Mark) → CLexeme
  faulty : (fault : TokenFault) → CLexeme
  end : CLexeme

-- a token, its first byte and the byte after its last one
pub record CToken : Type 0 where
  pub lexeme : CLexeme
  pub start : ℕ
  pub stop : ℕ

-- what contracts see of what a token is
abbrev pub lexeme_view : Lexeme → CLexeme
lexeme_view (Name text) = name text.now
lexeme_view (Number value) = number value
lexeme_view (AsmText text) = asm_text text.now
lexeme_view (Fixed mark) = fixed mark
lexeme_view (Faulty fault) = faulty fault
lexeme_view End = end

-- what contracts see of a token
abbrev pub token_view : Token → CToken
token_view t = record { lexeme = lexeme_view t.lexeme; start = t.start; stop = t.end }
