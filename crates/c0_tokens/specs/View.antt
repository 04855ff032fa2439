-- What contracts see of the code's own types.
use Rattle.c0_tokens.specs.declared.spelling.Spelling.{Spelling as CodeSpelling}
use Rattle.c0_tokens.specs.declared.nesting.Depth.{Depth as CodeDepth}
use Rattle.c0_tokens.specs.declared.lexer.Cut.{Cut as CodeCut}
use Rattle.c0_tokens.specs.Lexis.{Cut}
use Rattle.c0_tokens.specs.Spelling.{Spelling}
use Rattle.c0_tokens.specs.Tokens.{lexeme_view}
use Rattle.c0_tokens.specs.Nesting.{Depth}

-- how a reserved word or a mark is written
abbrev pub spelling_view : CodeSpelling → Spelling
spelling_view s = (s.text.now, s.mark)

-- how deep a place is nested
abbrev pub depth_view : CodeDepth → Depth
depth_view d = record { brackets = d.brackets; run = d.run }

-- a token and the bytes after it
abbrev pub cut_view : CodeCut → Cut
cut_view c = record { lexeme = lexeme_view c.lexeme; rest = c.rest.now }
