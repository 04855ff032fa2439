-- A unit once more, so that one token at a time tells a struct, a global and a function apart: for proofs.
use Rattle.std.specs.Prelude.{List, [], ◌++◌}
use Rattle.c0_tokens.specs.Tokens.{CToken}
use Rattle.c0_tokens.specs.declared.token.Mark.TheVariants.{Struct, Semicolon}
use Rattle.c0_tree.specs.Tree.{CDecl, CStruct, CFunction}
use Rattle.c0_parser.specs.Sorts.{the_end}
use Rattle.c0_parser.specs.Value.{SemanticValue, token, pair, none, snoc, base_value, type_suffixes}
use Rattle.c0_parser.specs.Value.{decl_of, defined_at, struct_of, structs_of_value, globals_of_value, functions_of_value}
use Rattle.c0_parser.specs.Grammar.{Piece, one_of, sign, ◌▸◌, ◌or◌, many, NAME, BASIC, SUFFIXES, FIELDS, FUNCTION}

-- what stands after the declaration of a global or a function
abbrev pub AFTER_DECL : Piece
AFTER_DECL = sign Semicolon or FUNCTION

-- what stands behind the first word or words of a declaration's type
abbrev pub DEFINED : Piece
DEFINED = SUFFIXES ▸ NAME ▸ AFTER_DECL

-- a struct, a global or a function
abbrev pub FACTORED : Piece
FACTORED = sign Struct ▸ NAME ▸ (FIELDS or DEFINED) or BASIC ▸ DEFINED

-- a unit of these, and the end of the source
abbrev pub SOURCE : Piece
SOURCE = many FACTORED ▸ one_of the_end []

-- a global or a function, from the first part of its type on
abbrev pub declared_as : SemanticValue → SemanticValue → SemanticValue
declared_as base (pair l (pair (token x) v)) = defined_at (decl_of (type_suffixes base l) x) v
declared_as base _ = none

-- an item from its first word `struct` and a name on: a struct where `{` stands next, else a global or a function
abbrev pub item_after_name : CToken → CToken → SemanticValue → SemanticValue
item_after_name t x (pair (token opening) v) = struct_of x (pair (token opening) v)
item_after_name t x v = declared_as (base_value (pair (token t) (token x))) v

abbrev pub factored_value : SemanticValue → SemanticValue
factored_value (pair (token t) (pair (token x) v)) = item_after_name t x v
factored_value (pair (token t) v) = declared_as (base_value (token t)) v
factored_value _ = none

abbrev pub factored_structs : SemanticValue → List CStruct
factored_structs (snoc l x) = factored_structs l ++ structs_of_value (factored_value x)
factored_structs _ = []

abbrev pub factored_globals : SemanticValue → List CDecl
factored_globals (snoc l x) = factored_globals l ++ globals_of_value (factored_value x)
factored_globals _ = []

abbrev pub factored_functions : SemanticValue → List CFunction
factored_functions (snoc l x) = factored_functions l ++ functions_of_value (factored_value x)
factored_functions _ = []
