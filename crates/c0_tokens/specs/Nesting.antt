-- How deep the brackets of a source may nest, and how many tokens may follow one another without an end of a statement or block.
use Rattle.std.specs.Prelude.{ℕ, ◌+◌, ◌-◌, Bool, true, false, ◌&&◌, ◌||◌, nat_le, if◌then◌else◌, List, [], ◌∷◌}
use Rattle.c0_tokens.specs.declared.token.Mark.TheVariants.{OpenBrace, CloseBrace, OpenParen, CloseParen, OpenBracket, CloseBracket, Semicolon}
use Rattle.c0_tokens.specs.declared.token.TokenFault.TheVariants.{TooNested}
use Rattle.c0_tokens.specs.Tokens.{CLexeme, fixed, faulty, CToken}
use Rattle.c0_tokens.specs.Lexis.{is_last, plain_tokens}

-- ( [ {; an asm text is no bracket
abbrev pub opens : CLexeme → Bool
opens (fixed OpenParen) = true
opens (fixed OpenBracket) = true
opens (fixed OpenBrace) = true
opens _ = false

-- ) ] }
abbrev pub closes : CLexeme → Bool
closes (fixed CloseParen) = true
closes (fixed CloseBracket) = true
closes (fixed CloseBrace) = true
closes _ = false

-- ; { }, after which tokens are counted anew; an asm text is none of them
abbrev pub ends_run : CLexeme → Bool
ends_run (fixed Semicolon) = true
ends_run (fixed OpenBrace) = true
ends_run (fixed CloseBrace) = true
ends_run _ = false

-- how many brackets are open, and how many tokens have come after the last ; { } or the start
pub record Depth : Type 0 where
  pub brackets : ℕ
  pub run : ℕ

-- before the first token
abbrev pub outside : Depth
outside = record { brackets = 0; run = 0 }

-- after one more token
abbrev pub depth_after : Depth → CLexeme → Depth
depth_after d lexeme = record {
  brackets = if opens lexeme then d.brackets + 1 else if closes lexeme then d.brackets - 1 else d.brackets;
  run = if ends_run lexeme then 0 else d.run + 1;
}

-- whether a token makes 65 brackets open at once, or is the 513th after the last ; { } or the start, whatever it is
abbrev pub is_too_nested : Depth → CLexeme → Bool
is_too_nested d lexeme = (opens lexeme && nat_le 64 d.brackets) || nat_le 512 d.run

-- a token as it is read at a depth: a bad byte or number stays one
abbrev pub at_depth : Depth → CLexeme → CLexeme
at_depth d (faulty fault) = faulty fault
at_depth d lexeme = if is_too_nested d lexeme then faulty TooNested else lexeme

-- these tokens, which begin at a depth, up to the first that no source has
abbrev pub nested : Depth → List CToken → List CToken
nested d [] = []
nested d (t ∷ rest) =
    let lexeme = at_depth d t.lexeme in
    record t { lexeme = lexeme } ∷ (if is_last lexeme then [] else nested (depth_after d t.lexeme) rest)

-- the tokens of a source, up to its end or the first token that no source has: what follows that one changes no answer, so it isn't read
abbrev pub tokens_of : List ℕ → List CToken
tokens_of source = nested outside (plain_tokens source)
