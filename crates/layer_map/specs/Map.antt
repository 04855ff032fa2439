-- The map of the physical memory, in words: word k stands at the address 4 * k.
use Rattle.std.specs.Prelude.{◌≡◌, ℕ, ◌+◌, ◌-◌, ◌*◌, ◌/◌, ◌%◌, ◌≤◌}
use Rattle.layer_map.specs.declared.params.Params.{Params}
use Rattle.layer_map.specs.declared.places.TheConstants.{BLOCK_WORDS}

-- what the map is made of: the parameters, the number of users, and the words of the kernel's code and of its globals
pub record Map : Type 0 where
  pub params : Params
  pub users : ℕ
  pub code_words : ℕ
  pub global_words : ℕ

-- the ranges of the parameters
pub record ParamsInRange (p : Params) : Type 0 where
  pub a_page : 1 ≤ p.pages
  pub pages : p.pages ≤ 1024
  pub two_frames : 2 ≤ p.frames
  pub frames : p.frames ≤ 16384
  pub heap : p.heap ≤ 1048576
  pub least_stack : 64 ≤ p.stack
  pub stack : p.stack ≤ 262144

-- the ranges of a whole map
pub record MapInRange (m : Map) : Type 0 where
  pub params : ParamsInRange m.params
  pub users : m.users ≤ 64
  pub code_words : m.code_words ≤ 4177920
  pub global_words : m.global_words ≤ 262144

-- the words of the layer's part, which begins memory
abbrev pub layer_words : ℕ
layer_words = 16384

-- the word of the current user
abbrev pub current_at : ℕ
current_at = 1024

-- the word of the number of the user frame at the hand, from 0
abbrev pub hand_at : ℕ
hand_at = 1025

-- the word of the words used of the heap
abbrev pub heap_used_at : ℕ
heap_used_at = 1026

-- the word of the heap's size, in words
abbrev pub heap_words_at : ℕ
heap_words_at = 1027

-- the word of the heap's first address
abbrev pub heap_first_at : ℕ
heap_first_at = 1028

-- the word of the stack's first address
abbrev pub stack_first_at : ℕ
stack_first_at = 1029

-- the word of the first address behind the stack
abbrev pub stack_limit_at : ℕ
stack_limit_at = 1030

-- the first word of the layer's further variables
abbrev pub variables_at : ℕ
variables_at = 1031

-- the first word behind the layer's variables
abbrev pub variables_end : ℕ
variables_end = 2048

-- the word at which primitive 0 is entered: the others follow by their numbers
abbrev pub primitives_at : ℕ
primitives_at = 2048

-- the word at which a use of null leaves the code of a unit: an index out of bounds, a division by 0 and a want of stack leave at the next ones
abbrev pub exits_at : ℕ
exits_at = 2058

-- the word at which the code of a unit leaves once its first function has returned
abbrev pub leave_at : ℕ
leave_at = 2062

-- the first word of the control blocks
abbrev pub blocks_at : ℕ
blocks_at = 12288

-- the control block of user u, from 1, of BLOCK_WORDS words: the pc, registers 1 to 31, the size in pages, hi and lo
abbrev pub block_at : ℕ → ℕ
block_at u = blocks_at + BLOCK_WORDS * (u - 1)

-- the first multiple of a page's 1,024 words from a word on
abbrev pub next_page : ℕ → ℕ
next_page n = (n + 1023) / 1024 * 1024

-- the first word of the kernel's code
abbrev pub code_at : Map → ℕ
code_at m = layer_words

-- the first word of the globals, in source order
abbrev pub globals_at : Map → ℕ
globals_at m = next_page (code_at m + m.code_words)

-- the first word of the heap
abbrev pub heap_at : Map → ℕ
heap_at m = next_page (globals_at m + m.global_words)

-- the first word of the kernel's stack
abbrev pub stack_at : Map → ℕ
stack_at m = next_page (heap_at m + m.params.heap)

-- the first word of the page tables, user by user, with a word for each page
abbrev pub tables_at : Map → ℕ
tables_at m = next_page (stack_at m + m.params.stack)

-- the first word of the frame table: eight words for each user frame in order, and then for the zero frame
abbrev pub frame_table_at : Map → ℕ
frame_table_at m = next_page (tables_at m + m.users * m.params.pages)

-- the first word of the zero frame
abbrev pub zero_frame_at : Map → ℕ
zero_frame_at m = next_page (frame_table_at m + 8 * (m.params.frames + 1))

-- the first word of the user frames
abbrev pub user_frames_at : Map → ℕ
user_frames_at m = zero_frame_at m + 1024

-- the words of memory, which ends with the last user frame
abbrev pub memory_words : Map → ℕ
memory_words m = user_frames_at m + 1024 * m.params.frames

-- the frames of memory
abbrev pub memory_frames : Map → ℕ
memory_frames m = memory_words m / 1024

-- the page table of user u, from 1
abbrev pub table_of : Map → ℕ → ℕ
table_of m u = tables_at m + (u - 1) * m.params.pages

-- each part ends before the next one begins, so that no two share a word
pub record PartsInOrder (m : Map) : Type 0 where
  pub code : code_at m + m.code_words ≤ globals_at m
  pub globals : globals_at m + m.global_words ≤ heap_at m
  pub heap : heap_at m + m.params.heap ≤ stack_at m
  pub stack : stack_at m + m.params.stack ≤ tables_at m
  pub tables : tables_at m + m.users * m.params.pages ≤ frame_table_at m
  pub frame_table : frame_table_at m + 8 * (m.params.frames + 1) ≤ zero_frame_at m

-- each part begins a page
pub record PartsBeginPages (m : Map) : Type 0 where
  pub code : code_at m % 1024 ≡ 0
  pub globals : globals_at m % 1024 ≡ 0
  pub heap : heap_at m % 1024 ≡ 0
  pub stack : stack_at m % 1024 ≡ 0
  pub tables : tables_at m % 1024 ≡ 0
  pub frame_table : frame_table_at m % 1024 ≡ 0
  pub zero_frame : zero_frame_at m % 1024 ≡ 0
  pub user_frames : user_frames_at m % 1024 ≡ 0

-- memory is whole frames, at most 22,210 (below 100 MiB), and so ends far below the ports
pub record MemoryIsWhole (m : Map) : Type 0 where
  pub frames : memory_frames m * 1024 ≡ memory_words m
  pub most : memory_frames m ≤ 22210

-- the control block of each user lies before that of the next, behind the layer's variables and in the layer's part
pub record BlocksInOrder : Type 0 where
  pub next : (u : ℕ) → 1 ≤ u → block_at u + BLOCK_WORDS ≡ block_at (u + 1)
  pub inside : (u : ℕ) → 1 ≤ u → u ≤ 64 → (variables_end ≤ block_at u) × (block_at u + BLOCK_WORDS ≤ layer_words)

-- the page table of each user lies before that of the next, and in the page tables
pub record TablesInOrder (m : Map) : Type 0 where
  pub next : (u : ℕ) → 1 ≤ u → table_of m u + m.params.pages ≡ table_of m (u + 1)
  pub inside : (u : ℕ) → 1 ≤ u → u ≤ m.users → (tables_at m ≤ table_of m u) × (table_of m u + m.params.pages ≤ tables_at m + m.users * m.params.pages)
