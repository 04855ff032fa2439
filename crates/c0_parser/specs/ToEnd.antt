-- What the functions give that read a source to its end.
use Rattle.std.specs.Prelude.{◌≡◌, ◌++◌, List, map, Result, Ok, Err}
use Rattle.c0_tokens.specs.Tokens.{CToken}
use Rattle.c0_tokens.specs.declared.token.Token.{Token}
use Rattle.c0_tree.specs.View.{struct_view, decl_view, function_view}
use Rattle.c0_parser.specs.Value.{SemanticValue, pair, structs_of_value, globals_of_value, functions_of_value}
use Rattle.c0_parser.specs.Factored.{SOURCE, factored_structs, factored_globals, factored_functions}
use Rattle.c0_parser.specs.Contract.{as_seen, PieceReads, PieceFails}
use Rattle.c0_parser.specs.Views.{item_view}
use Rattle.c0_parser.specs.declared.items.Item.{Item}
use Rattle.c0_parser.specs.declared.reader.Halt.{Halt}
use Rattle.c0_parser.specs.declared.source.Items.{Items}

-- the items of a list
pub record AreItems (i : Items) (v : SemanticValue) : Type 0 where
  pub same_structs : factored_structs v ≡ map struct_view i.structs.items
  pub same_globals : factored_globals v ≡ map decl_view i.globals.items
  pub same_functions : factored_functions v ≡ map function_view i.functions.items

-- one more item
pub record IsAdded (before : Items) (item : Item) (i : Items) : Type 0 where
  pub more_structs : map struct_view i.structs.items ≡ map struct_view before.structs.items ++ structs_of_value (item_view item)
  pub more_globals : map decl_view i.globals.items ≡ map decl_view before.globals.items ++ globals_of_value (item_view item)
  pub more_functions : map function_view i.functions.items ≡ map function_view before.functions.items ++ functions_of_value (item_view item)

-- a source is read to its end
pub record ReadsToEnd (ts : List Token) (i : Items) : Type 0 where
  pub items : SemanticValue
  pub stop : SemanticValue
  pub rest : List CToken
  pub goes : PieceReads SOURCE (as_seen ts) (pair items stop) rest
  pub are : AreItems i items

abbrev pub GivesToEnd : List Token → Result Items Halt → Type 0
GivesToEnd ts (Ok i) = ReadsToEnd ts i
GivesToEnd ts (Err h) = PieceFails SOURCE (as_seen ts) h
