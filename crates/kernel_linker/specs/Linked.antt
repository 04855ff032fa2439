-- The words of a whole system: those of the layer that is made for it, and the kernel's code behind them.
use Rattle.std.specs.Prelude.{ℕ, ◌+◌, ◌/◌, List, ◌++◌, length, map}
use Rattle.layer_map.specs.declared.params.Params.{Params}
use Rattle.layer_map.specs.Map.{Map}
use Rattle.c0_tree.specs.Tree.{CUnit}
use Rattle.c0_meaning.specs.Sound.{global_words}
use Rattle.c0_unit.specs.Code.{unit_words}

-- the map of a system of a unit, with these parameters and so many users
abbrev pub map_for : CUnit → Params → ℕ → Map
map_for u params users = record { params = params; users = users; code_words = length (unit_words u); global_words = global_words u }

-- the pages of a user of so many words
abbrev pub pages_for : ℕ → ℕ
pages_for words = (words + 1023) / 1024

-- the sizes of users in pages
abbrev pub sizes_of : List (List ℕ) → List ℕ
sizes_of users = map (λ words. pages_for (length words)) users

-- LINKED: of a unit, parameters and users' sizes, over a layer that has these words for a map and sizes
unfoldable pub linked : (layer : Map → List ℕ → List ℕ) → CUnit → Params → (sizes : List ℕ) → List ℕ
linked layer u params sizes = layer (map_for u params (length sizes)) sizes ++ unit_words u
