-- The sorts of tokens: each reserved word and each mark is a sort of its own.
use Rattle.std.specs.Prelude.{Bool, true, false, List}
use Rattle.std.specs.List.{list_any}
use Rattle.c0_tokens.specs.declared.token.Mark.{Mark}
use Rattle.c0_tokens.specs.declared.token.Mark.TheVariants.{Int, Bool as Boolean, Struct, If, Else, While, Return, New, True, False, Null, Asm, OpenBrace}
use Rattle.c0_tokens.specs.declared.token.Mark.TheVariants.{CloseBrace, OpenParen, CloseParen, OpenBracket, CloseBracket, Semicolon, Comma, Dot, Arrow, Assign}
use Rattle.c0_tokens.specs.declared.token.Mark.TheVariants.{Equal, NotEqual, Less, AtMost, Greater, AtLeast, Plus, Minus, Star, Slash, Percent, Not, Ampersand}
use Rattle.c0_tokens.specs.declared.token.Mark.TheVariants.{And, Or}
use Rattle.c0_tokens.specs.Tokens.{CLexeme, name, number, asm_text, fixed, faulty, end}

-- a sort of tokens
pub data Sort : Type 0 where
  mark : Mark → Sort
  a_name a_number an_asm_text the_end a_fault : Sort

-- the sort of a token
abbrev pub sort : CLexeme → Sort
sort (name text) = a_name
sort (number value) = a_number
sort (asm_text text) = an_asm_text
sort (fixed m) = mark m
sort (faulty fault) = a_fault
sort end = the_end

-- whether two reserved words or marks are the same
abbrev pub same_mark : Mark → Mark → Bool
same_mark Int Int = true
same_mark Boolean Boolean = true
same_mark Struct Struct = true
same_mark If If = true
same_mark Else Else = true
same_mark While While = true
same_mark Return Return = true
same_mark New New = true
same_mark True True = true
same_mark False False = true
same_mark Null Null = true
same_mark Asm Asm = true
same_mark OpenBrace OpenBrace = true
same_mark CloseBrace CloseBrace = true
same_mark OpenParen OpenParen = true
same_mark CloseParen CloseParen = true
same_mark OpenBracket OpenBracket = true
same_mark CloseBracket CloseBracket = true
same_mark Semicolon Semicolon = true
same_mark Comma Comma = true
same_mark Dot Dot = true
same_mark Arrow Arrow = true
same_mark Assign Assign = true
same_mark Equal Equal = true
same_mark NotEqual NotEqual = true
same_mark Less Less = true
same_mark AtMost AtMost = true
same_mark Greater Greater = true
same_mark AtLeast AtLeast = true
same_mark Plus Plus = true
same_mark Minus Minus = true
same_mark Star Star = true
same_mark Slash Slash = true
same_mark Percent Percent = true
same_mark Not Not = true
same_mark Ampersand Ampersand = true
same_mark And And = true
same_mark Or Or = true
same_mark _ _ = false

-- whether two sorts are the same
abbrev pub same_sort : Sort → Sort → Bool
same_sort (mark m) (mark n) = same_mark m n
same_sort a_name a_name = true
same_sort a_number a_number = true
same_sort an_asm_text an_asm_text = true
same_sort the_end the_end = true
same_sort a_fault a_fault = true
same_sort _ _ = false

-- whether a sort is among these
abbrev pub among : List Sort → Sort → Bool
among sorts x = list_any (λ s. same_sort s x) sorts
