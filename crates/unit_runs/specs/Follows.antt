-- That what is booted follows its layer: where the layer is made for it, and its words are the layer's with the code of its unit behind them.
use Rattle.std.specs.Prelude.{◌≡◌, ℕ, ◌+◌, ◌*◌, ◌/◌, ◌≤◌, List, ◌++◌, length, map, All}
use Rattle.mips_table.specs.Fits.{IsWord}
use Rattle.layer_map.specs.Map.{Map, MapInRange, ParamsInRange}
use Rattle.c0_tree.specs.Tree.{CUnit}
use Rattle.c0_tree.specs.View.{unit_view}
use Rattle.c0_meaning.specs.Env.{typed_of}
use Rattle.c0_meaning.specs.Words.{all_words}
use Rattle.c0_meaning.specs.Sound.{shapes}
use Rattle.c0_meaning.specs.Unit.{IsChecked}
use Rattle.c0_unit.specs.Code.{unit_words}
use Rattle.layer_contract.specs.declared.boot.Boot.{Boot as Booted}
use Rattle.layer_contract.specs.Layer.{Linked, Laws, site_with}
use Rattle.layer_contract.specs.Boots.{BootFollows}

-- the words of each user of what is booted
abbrev pub user_words : Booted → List (List ℕ)
user_words b = map (λ u. u.items) b.users.items

-- the map of what is booted: its parameters and the number of its users, and the words of its unit's code and globals
abbrev pub map_of_boot : Booted → Map
map_of_boot b =
    let u : CUnit = unit_view b.unit in
    record { params = b.params; users = length b.users.items; code_words = length (unit_words u); global_words = all_words (shapes u) (map typed_of u.globals) }

-- What is booted is a whole system over a layer of these words, which is made for this map and for users of these sizes: a checked unit, parameters in
-- range, at most 64 users of whole words that have room in their pages, and the layer's words with the unit's code behind them.
pub record IsWhole (image sizes : List ℕ) (m : Map) (b : Booted) : Type 0 where
  pub checked : IsChecked (unit_view b.unit)
  pub params : ParamsInRange b.params
  pub few_users : length b.users.items ≤ 64
  pub map_is : m ≡ map_of_boot b
  pub sizes_are : sizes ≡ map (λ words. (length words + 1023) / 1024) (user_words b)
  pub linked : b.words.items ≡ image ++ unit_words (unit_view b.unit)
  pub short_users : All (λ words. length words ≤ 1024 * b.params.pages) (user_words b)
  pub words : All (All IsWord) (user_words b)

-- A law: over a layer of such words, which keeps its laws where its map is in range, a whole system follows: the map is in range, the layer was made for what
-- is booted, and the unit's code runs as the unit means, call by call.
abbrev pub LinkedBootsFollow : Type 0
LinkedBootsFollow = (image sizes : List ℕ) (m : Map) (b : Booted) → IsWhole image sizes m b → (MapInRange m → Linked m sizes image)
    → ((code : List ℕ) → MapInRange m → length code ≡ m.code_words → Laws (site_with m image code) sizes) → BootFollows image sizes m b
