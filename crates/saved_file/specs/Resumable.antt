-- The words of a saved machine that can be taken up under an image, a schedule and a number of turns.
use Rattle.std.specs.Prelude.{◌≡◌, ℕ, ◌+◌, ◌*◌, ◌<◌, ◌≤◌, ◌||◌, ◌&&◌, Bool, false, List, length, slice_index, nat_lt}
use Rattle.layer_map.specs.Map.{block_at}
use Rattle.layer_map.specs.declared.places.TheConstants.{BLOCK_SIZE}
use Rattle.mips_machine.specs.Saved.{AreSaved}
use Rattle.saved_file.specs.declared.reading.Sizes.{Sizes}

-- what a saved machine has to fit: the frames of memory, the users, the most pages of a user and the linked words of the image, the words that the
-- schedule gives in, and the turns that are wanted
pub record Wanted : Type 0 where
  pub frames : ℕ
  pub users : ℕ
  pub pages : ℕ
  pub inputs : List ℕ
  pub linked : List ℕ
  pub turns : ℕ

-- the same of what `read` is told
abbrev pub wanted : Sizes → (inputs linked : List ℕ) → (turns : ℕ) → Wanted
wanted sizes inputs linked turns =
    record { frames = sizes.frames; users = sizes.users; pages = sizes.pages; inputs = inputs; linked = linked; turns = turns }

-- the position of memory in the words of a saved machine: behind the head, of which word 55 is the number of words of the log, the log, and the buffer
abbrev pub memory_position : List ℕ → ℕ
memory_position words = 1080 + slice_index words 55

-- the word of memory with this number
abbrev pub memory_word : List ℕ → ℕ → ℕ
memory_word words position = slice_index words (memory_position words + position)

-- the linked words that a run may change: the layer's variables, and all words from the first control block to the end of the layer's part
abbrev pub is_left_out : ℕ → Bool
is_left_out position = (nat_lt 1023 position && nat_lt position 2048) || (nat_lt 12287 position && nat_lt position 16384)

-- all other linked words are as the image has them
abbrev pub IsUnforged : (linked words : List ℕ) → Type 0
IsUnforged linked words = (position : ℕ) → position < length linked → is_left_out position ≡ false → memory_word words position ≡ slice_index linked position

-- the word of a user's size, in pages
abbrev pub saved_size_at : ℕ → ℕ
saved_size_at user = block_at user + BLOCK_SIZE

-- no control block of a user tells more pages than a user may have
abbrev pub HaveFitSizes : (users pages : ℕ) (words : List ℕ) → Type 0
HaveFitSizes users pages words = (user : ℕ) → 1 ≤ user → user ≤ users → memory_word words (saved_size_at user) ≤ pages

-- THESE WORDS CAN BE TAKEN UP: they are a machine's, with a complete turn and a user of the image, its linked words and sizes, and no turns too many
pub record CanBeResumed (w : Wanted) (words : List ℕ) : Type 0 where
  pub saved : AreSaved (1024 * w.frames) w.inputs words
  pub a_turn : 1 ≤ slice_index words 5
  pub a_user : 1 ≤ slice_index words 6
  pub user : slice_index words 6 ≤ w.users
  pub unforged : IsUnforged w.linked words
  pub sizes : HaveFitSizes w.users w.pages words
  pub turns : slice_index words 5 ≤ w.turns
