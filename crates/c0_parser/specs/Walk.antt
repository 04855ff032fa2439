-- A source's tree by computation: the reading machine is run on its tokens, and what it stands at in the end has the tree. To be used for a source that
-- is given as a text (`codes "int x; .."`), to prove `ReadsAs source tree` without a derivation: the law `sources_read_by_walks` asks for
-- `is_read (walk n (start source)) ≡ true`, which is `refl` for enough steps n, about 40 for each token, under
-- `unfolding mark_cut word_lexeme words marks` (c0_tokens/specs/Lexis, Spelling). Texts of some hundred bytes take seconds.
use Rattle.std.specs.Prelude.{◌≡◌, ℕ, zero, suc, Bool, true, false, Option, Some, None, List, [], ◌∷◌, length}
use Rattle.c0_tokens.specs.Nesting.{tokens_of}
use Rattle.c0_tree.specs.Tree.{CUnit}
use Rattle.c0_parser.specs.Value.{SemanticValue, pair, none}
use Rattle.c0_parser.specs.Machine.{ParserState, at, want, parser_step}
use Rattle.c0_parser.specs.Factored.{SOURCE, factored_structs, factored_globals, factored_functions}
use Rattle.c0_parser.specs.Faults.{ReadsAs}

-- so many steps of the reading machine, or as many as there are
abbrev pub walk_on : Option ParserState → ParserState → (ParserState → ParserState) → ParserState
walk_on None s further = s
walk_on (Some t) s further = further t

abbrev pub walk : ℕ → ParserState → ParserState
walk zero s = s
walk (suc n) s = walk_on (parser_step s) s (walk n)

-- where the reading of a source begins
abbrev pub start : List ℕ → ParserState
start source = at (tokens_of source) (want SOURCE ∷ []) []

-- the tree of the items that were read
abbrev pub tree_with : ℕ → SemanticValue → CUnit
tree_with n items = record { length = n; structs = factored_structs items; globals = factored_globals items; functions = factored_functions items }

-- the items and the end of the source, where both were read
abbrev pub items_in : ParserState → SemanticValue
items_in (at ts st (pair items stop ∷ vs)) = items
items_in other = none

abbrev pub stop_in : ParserState → SemanticValue
stop_in (at ts st (pair items stop ∷ vs)) = stop
stop_in other = none

-- whether all was read
abbrev pub is_read : ParserState → Bool
is_read (at [] [] (pair items stop ∷ [])) = true
is_read other = false

-- the tree of a source that so many steps read
abbrev pub tree_of : ℕ → List ℕ → CUnit
tree_of n source = tree_with (length source) (items_in (walk n (start source)))

-- a law: a source that the machine reads in so many steps reads as the tree that it makes
abbrev pub ReadByWalks : Type 0
ReadByWalks = (n : ℕ) (source : List ℕ) → is_read (walk n (start source)) ≡ true → ReadsAs source (tree_of n source)
