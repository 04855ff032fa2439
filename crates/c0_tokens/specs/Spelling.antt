-- How the reserved words and the marks are written.
use Rattle.std.specs.Prelude.{ℕ, List, [], ◌∷◌, codes}
use Rattle.c0_tokens.specs.declared.token.Mark.{Mark}
use Rattle.c0_tokens.specs.declared.token.Mark.TheVariants.{Int, Bool, Struct, If, Else, While, Return, New, True, False, Null, Asm, OpenBrace, CloseBrace}
use Rattle.c0_tokens.specs.declared.token.Mark.TheVariants.{OpenParen, CloseParen, OpenBracket, CloseBracket, Semicolon, Comma, Dot, Arrow, Assign, Equal}
use Rattle.c0_tokens.specs.declared.token.Mark.TheVariants.{NotEqual, Less, AtMost, Greater, AtLeast, Plus, Minus, Star, Slash, Percent, Not, Ampersand, And}
use Rattle.c0_tokens.specs.declared.token.Mark.TheVariants.{Or}

-- how it is written, and the reserved word or mark
abbrev pub Spelling : Type 0
Spelling = List ℕ × Mark

-- the reserved words
unfoldable pub reserved_words : List Spelling
reserved_words =
    (codes "int", Int) ∷ (codes "bool", Bool) ∷ (codes "struct", Struct) ∷ (codes "if", If) ∷ (codes "else", Else)
    ∷ (codes "while", While) ∷ (codes "return", Return) ∷ (codes "new", New) ∷ (codes "true", True)
    ∷ (codes "false", False) ∷ (codes "null", Null) ∷ (codes "asm", Asm) ∷ []

-- the marks; those of two bytes stand first
unfoldable pub marks : List Spelling
marks =
    (codes "->", Arrow) ∷ (codes "==", Equal) ∷ (codes "!=", NotEqual) ∷ (codes "<=", AtMost) ∷ (codes ">=", AtLeast)
    ∷ (codes "&&", And) ∷ (codes "||", Or)
    ∷ (codes "{", OpenBrace) ∷ (codes "}", CloseBrace) ∷ (codes "(", OpenParen) ∷ (codes ")", CloseParen)
    ∷ (codes "[", OpenBracket) ∷ (codes "]", CloseBracket) ∷ (codes ";", Semicolon) ∷ (codes ",", Comma)
    ∷ (codes ".", Dot) ∷ (codes "=", Assign) ∷ (codes "<", Less) ∷ (codes ">", Greater) ∷ (codes "+", Plus)
    ∷ (codes "-", Minus) ∷ (codes "*", Star) ∷ (codes "/", Slash) ∷ (codes "%", Percent) ∷ (codes "!", Not)
    ∷ (codes "&", Ampersand) ∷ []
