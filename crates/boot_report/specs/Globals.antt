-- The rows of the globals, by the words that stand for them.
use Rattle.std.specs.Prelude.{◌≡◌, ◌≢◌, ℕ, ◌+◌, ◌<◌, ◌≤◌, ◌==◌, if◌then◌else◌, Option, Some, List, [], ◌∷◌, ◌++◌, codes, slice_index, length}
use Rattle.std.specs.Fmt.{signed_decimal}
use Rattle.mips_table.specs.Arith.{signed}
use Rattle.c0_tree.specs.declared.tree.Decl.{Decl}
use Rattle.c0_meaning.specs.Ty.{Ty, int, bool, pointer}
use Rattle.c0_meaning.specs.Form.{ty_view}
use Rattle.c0_meaning.specs.Env.{Shape}
use Rattle.c0_meaning.specs.Value.{Value, Location}
use Rattle.c0_meaning.specs.TypedState.{StoreTyping, PointsTo, Fits}
use Rattle.layer_map.specs.Map.{Map, globals_at, memory_words}
use Rattle.cvm_model.specs.Kernel.{flat}
use Rattle.cvm_model.specs.Text.{global_row}

-- the end of the row of a value of this type, by its word: a value that isn't scalar has no row
abbrev pub value_end : Option Ty → ℕ → List ℕ
value_end (Some int) word = 32 ∷ signed_decimal (signed word) ++ 10 ∷ []
value_end (Some bool) word = if word == 0 then codes " false\n" else codes " true\n"
value_end (Some (pointer t)) word = if word == 0 then codes " null\n" else codes " set\n"
value_end other word = []

-- the row of this name and end, if it has an end
abbrev pub named_row : List ℕ → List ℕ → List ℕ
named_row name [] = []
named_row name (b ∷ end) = codes "global " ++ name ++ b ∷ end

-- the row of a global, by its declaration and its word
abbrev pub global_word_row : Decl → ℕ → List ℕ
global_word_row d word = named_row d.name.bytes.items (value_end (Some (ty_view d.ty)) word)

-- A global that has the shape of its type has the row of its first word, where no address of a pointer's target is 0.
abbrev pub GlobalsTell : Type 0
GlobalsTell = (structs : List Shape) (layout : StoreTyping) (t : Ty) (v : Value) (name : List ℕ) (address : Location → ℕ) → Fits structs layout t v →
    ((l : Location) (u : Ty) → PointsTo structs layout l.region l.path u → address l ≢ 0) →
    named_row name (value_end (Some t) (slice_index (flat address v) 0)) ≡ global_row name v

-- the globals begin inside the memory, each so many words behind the first
abbrev pub GlobalsAreInside : Map → (places : List ℕ) → Type 0
GlobalsAreInside m places = (i : ℕ) → i < length places → globals_at m + slice_index places i < memory_words m

-- so many of them stand in so many words of memory
pub record GlobalsStand (m : Map) (words : ℕ) (places : List ℕ) (globals : ℕ) : Type 0 where
  pub many : length places ≡ globals
  pub memory : memory_words m ≤ words
  pub small : memory_words m ≤ 30000000
  pub inside : GlobalsAreInside m places

-- the rows of the globals, each of which begins so many words behind the first
abbrev pub globals_rows : List Decl → List ℕ → ℕ → List ℕ → List ℕ
globals_rows (d ∷ decls) memory first (n ∷ offsets) = global_word_row d (slice_index memory (first + n)) ++ globals_rows decls memory first offsets
globals_rows decls memory first offsets = []
