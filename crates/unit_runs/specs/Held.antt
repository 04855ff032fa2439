-- The data of a kernel as words: values that are held one by one, and the words that stand for them.
use Rattle.std.specs.Prelude.{◌≡◌, ℕ, ◌+◌, ◌<◌, ◌↔◌, List, length, map, slice_index}
use Rattle.c0_tree.specs.Tree.{CUnit}
use Rattle.c0_meaning.specs.Env.{typed_of}
use Rattle.c0_meaning.specs.Words.{all_words}
use Rattle.c0_meaning.specs.RunLaws.{scalars}
use Rattle.c0_meaning.specs.Sound.{shapes}
use Rattle.c0_meaning.specs.State.{C0State}
use Rattle.c0_meaning.specs.TypedState.{types_of, IsTypedWith}
use Rattle.c0_expr_runs.specs.Laws.{IsOpened}
use Rattle.c0_expr_runs.specs.Bases.{Bases, words_of_all, RegionHeld}
use Rattle.c0_runs.specs.Standing.{unit_scope}
use Rattle.layer_map.specs.Map.{Map, globals_at, heap_at}
use Rattle.cvm_model.specs.Kernel.{flat}
use Rattle.cvm_model.specs.Stands.{address_of}

-- these words stand from a word on, where words are a function of their numbers
abbrev pub HoldsAt : (ℕ → ℕ) → ℕ → List ℕ → Type 0
HoldsAt m first words = (i : ℕ) → i < length words → m (first + i) ≡ slice_index words i

-- the regions begin where the map says
pub record AreOnMap (m : Map) (p : Bases) : Type 0 where
  pub globals : p.globals ≡ globals_at m
  pub heap : p.heap ≡ heap_at m

-- A law: in a typed state of a unit, a struct's words being those of its fields, the globals are held one by one exactly where their words stand one
-- after another, and so are the heap's objects. They have as many words as their types.
pub record IsHeldFlat (u : CUnit) (m : Map) (p : Bases) (s : C0State) : Type 0 where
  pub globals : (words : ℕ → ℕ) → HoldsAt words (globals_at m) (flat (address_of m s) s.global_values)
      ↔ RegionHeld (unit_scope u) p words (globals_at m) (types_of (map typed_of u.globals)) s.global_values
  pub heap : (words : ℕ → ℕ) → HoldsAt words (heap_at m) (flat (address_of m s) s.heap_values)
      ↔ RegionHeld (unit_scope u) p words (heap_at m) p.objects s.heap_values
  pub global_words : scalars s.global_values ≡ all_words (shapes u) (map typed_of u.globals)
  pub heap_words : scalars s.heap_values ≡ words_of_all (shapes u) p.objects

abbrev pub HeldIsFlat : Type 0
HeldIsFlat = (u : CUnit) (m : Map) (p : Bases) (s : C0State) → IsOpened (shapes u) → AreOnMap m p → IsTypedWith u p.objects s → IsHeldFlat u m p s
