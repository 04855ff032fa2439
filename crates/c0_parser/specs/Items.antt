-- The items of a source, in order, and the unit that is made of them: no item vanishes, and none is added.
use Rattle.std.specs.Prelude.{ℕ, ◌≡◌, List, [], ◌∷◌, ◌++◌}
use Rattle.c0_tokens.specs.declared.token.Mark.TheVariants.{Struct, Semicolon}
use Rattle.c0_tokens.specs.Tokens.{CToken, end}
use Rattle.c0_tokens.specs.Nesting.{tokens_of}
use Rattle.c0_tree.specs.Tree.{CDecl, CStruct, CFunction, CUnit}
use Rattle.c0_parser.specs.Value.{SemanticValue, a_struct, a_global, a_function, item_value}
use Rattle.c0_parser.specs.Grammar.{Piece, sign, ◌▸◌, the, decl, NAME, FIELDS, FUNCTION, Derives}

-- an item: a struct, a global or a function
pub data CItem : Type 0 where
  struct_item : CStruct → CItem
  global_item : CDecl → CItem
  function_item : CFunction → CItem

-- "struct" NAME fields | type NAME ";" | type NAME parameters body
abbrev pub item_piece : CItem → Piece
item_piece (struct_item s) = sign Struct ▸ NAME ▸ FIELDS
item_piece (global_item d) = the decl ▸ sign Semicolon
item_piece (function_item f) = the decl ▸ FUNCTION

-- the meaning of an item
abbrev pub item_meaning : CItem → SemanticValue
item_meaning (struct_item s) = a_struct s
item_meaning (global_item d) = a_global d
item_meaning (function_item f) = a_function f

-- these tokens declare this item
pub record Declares (ts : List CToken) (i : CItem) : Type 0 where
  pub value : SemanticValue
  pub derives : Derives (item_piece i) ts value
  pub means : item_value value ≡ item_meaning i

-- these tokens declare these items, one after another
pub data DeclareAll : List CToken → List CItem → Type 0 where
  no_items : DeclareAll [] []
  one_more_item : {xs ys : List CToken} {is : List CItem} {i : CItem} → DeclareAll xs is → Declares ys i → DeclareAll (xs ++ ys) (is ++ i ∷ [])

-- a source is these items, and then its end
pub record IsMadeOf (source : List ℕ) (items : List CItem) : Type 0 where
  pub tokens : List CToken
  pub last : CToken
  pub stand : tokens_of source ≡ tokens ++ last ∷ []
  pub ends : last.lexeme ≡ end
  pub declared : DeclareAll tokens items

-- the structs among items, in their order
abbrev pub structs_among : List CItem → List CStruct
structs_among [] = []
structs_among (struct_item s ∷ is) = s ∷ structs_among is
structs_among (_ ∷ is) = structs_among is

-- the globals among items, in their order
abbrev pub globals_among : List CItem → List CDecl
globals_among [] = []
globals_among (global_item d ∷ is) = d ∷ globals_among is
globals_among (_ ∷ is) = globals_among is

-- the functions among items, in their order
abbrev pub functions_among : List CItem → List CFunction
functions_among [] = []
functions_among (function_item f ∷ is) = f ∷ functions_among is
functions_among (_ ∷ is) = functions_among is

-- the unit of these items, in a source of so many bytes
abbrev pub unit_with : ℕ → List CItem → CUnit
unit_with bytes items = record { length = bytes; structs = structs_among items; globals = globals_among items; functions = functions_among items }
