-- The levels of binary operators, from the loosest to the tightest.
use Rattle.std.specs.Prelude.{ℕ, Bool, true, false, List, [], ◌∷◌}
use Rattle.c0_tokens.specs.Tokens.{CToken}
use Rattle.c0_tokens.specs.declared.token.Mark.{Mark}
use Rattle.c0_tokens.specs.declared.token.Mark.TheVariants.{Equal, NotEqual, Less, AtMost, Greater, AtLeast, Plus, Minus, Star, Slash, Percent, And, Or}
use Rattle.c0_parser.specs.Sorts.{Sort, mark, among}
use Rattle.c0_parser.specs.Grammar.{Rule, disjunction, conjunction, equality, relation, sum, product, unary, Piece, one_of, ◌▸◌, the}
use Rattle.c0_parser.specs.Machine.{kind}
use Rattle.c0_parser.specs.declared.expressions.Level.{Level}
use Rattle.c0_parser.specs.declared.expressions.Level.TheVariants.{Disjunction, Conjunction, Equality, Relation, Sum, Product}

-- the production of a level
abbrev pub rule_of : Level → Rule
rule_of Disjunction = disjunction
rule_of Conjunction = conjunction
rule_of Equality = equality
rule_of Relation = relation
rule_of Sum = sum
rule_of Product = product

-- the production of its operands
abbrev pub operand_of : Level → Rule
operand_of Disjunction = conjunction
operand_of Conjunction = equality
operand_of Equality = relation
operand_of Relation = sum
operand_of Sum = product
operand_of Product = unary

-- its operators
abbrev pub marks_of : Level → List Mark
marks_of Disjunction = Or ∷ []
marks_of Conjunction = And ∷ []
marks_of Equality = Equal ∷ NotEqual ∷ []
marks_of Relation = Less ∷ AtMost ∷ Greater ∷ AtLeast ∷ []
marks_of Sum = Plus ∷ Minus ∷ []
marks_of Product = Star ∷ Slash ∷ Percent ∷ []

-- one of its operators
abbrev pub operators : Level → Piece
operators Disjunction = one_of (mark Or) []
operators Conjunction = one_of (mark And) []
operators Equality = one_of (mark Equal) (mark NotEqual ∷ [])
operators Relation = one_of (mark Less) (mark AtMost ∷ mark Greater ∷ mark AtLeast ∷ [])
operators Sum = one_of (mark Plus) (mark Minus ∷ [])
operators Product = one_of (mark Star) (mark Slash ∷ mark Percent ∷ [])

-- an operator and its right operand
abbrev pub operation : Level → Piece
operation l = operators l ▸ the (operand_of l)

-- whether operators of the level follow one another
abbrev pub chains : Level → Bool
chains Equality = false
chains Relation = false
chains _ = true

-- the levels are numbered
abbrev pub level_place : Level → ℕ
level_place Disjunction = 0
level_place Conjunction = 1
level_place Equality = 2
level_place Relation = 3
level_place Sum = 4
level_place Product = 5

-- whether the next token is of one of these sorts
abbrev pub heads_any : List Sort → List CToken → Bool
heads_any ss [] = false
heads_any ss (t ∷ ts) = among ss (kind t)
