-- "The machine stands for this CVM state", in six parts.
use Rattle.std.specs.Prelude.{◌≡◌, ℕ, ◌+◌, ◌*◌, ◌<◌, ◌≤◌, Bool, true, false, ◌&&◌, ◌||◌, ◌==◌}
use Rattle.std.specs.Prelude.{nat_lt, nat_le, List, [], ◌∷◌, length, take, drop, slice_index, bit_or, All}
use Rattle.mips_table.specs.Device.{Idle, Environment}
use Rattle.mips_table.specs.declared.special.TheConstants.{SR, PTO, PTL}
use Rattle.mips_table.specs.Fits.{IsWord}
use Rattle.mips_table.specs.Processor.{Cpu}
use Rattle.mips_table.specs.Flat.{Flat}
use Rattle.mips_table.specs.Machine.{State, LOG_ROOM}
use Rattle.mips_table.specs.Turns.{is_on, in_user}
use Rattle.mips_table.specs.Fits.{CpuFits, Fits}
use Rattle.layer_map.specs.Map.{Map, current_at, heap_used_at, heap_words_at, stack_limit_at, block_at, globals_at, heap_at, memory_words, table_of}
use Rattle.layer_map.specs.declared.places.TheConstants.{BLOCK_SIZE, BLOCK_HI, BLOCK_LO}
use Rattle.page_model.specs.Paging.{PagingInvariant}
use Rattle.page_model.specs.TableLayout.{page_layout}
use Rattle.c0_meaning.specs.Value as value
use Rattle.c0_meaning.specs.Value.{Region, Location}
use Rattle.c0_meaning.specs.State.{C0State, region_value}
use Rattle.c0_meaning.specs.RunLaws.{scalars}
use Rattle.cvm_model.specs.Kernel.{part_offset, flat, Core}
use Rattle.cvm_model.specs.Primitives.{user_of, pages_of}
use Rattle.cvm_model.specs.Cvm.{Status, Running, Cvm}
use Rattle.cvm_model.specs.Paged.{paged_of, pages_by}

-- what is fixed for a run: the map and the linked words
pub record Site : Type 0 where
  pub map : Map
  pub linked : List ℕ

-- where a region begins: no location is one of a frame's variables
abbrev pub region_at : Map → Region → ℕ
region_at m value.globals = globals_at m
region_at m value.heap = heap_at m
region_at m value.locals = 0

-- the address of a location: its region's first word, and the words before it there
abbrev pub address_of : Map → C0State → Location → ℕ
address_of m c p = 4 * (region_at m p.region + part_offset p.path (region_value p.region c))

-- these words stand in memory from a word on
abbrev pub HoldsWords : List ℕ → ℕ → List ℕ → Type 0
HoldsWords memory first words = (i : ℕ) → i < length words → slice_index memory (first + i) ≡ slice_index words i

-- a linked word that the layer may change: one of its own variables, or of the control blocks of the map's users
abbrev pub is_own : Map → ℕ → Bool
is_own m k = (nat_le 1024 k && nat_lt k 2048) || (nat_le (block_at 1) k && nat_lt k (block_at (m.users + 1)))

-- PART 1: the kernel's data, and the words that stay as they were linked
pub record DataStands (y : Site) (memory : List ℕ) (c : C0State) : Type 0 where
  pub globals : HoldsWords memory (globals_at y.map) (flat (address_of y.map c) c.global_values)
  pub heap : HoldsWords memory (heap_at y.map) (flat (address_of y.map c) c.heap_values)
  pub used : slice_index memory heap_used_at ≡ c.heap_words
  pub places : (k : ℕ) → heap_words_at ≤ k → k ≤ stack_limit_at → slice_index memory k ≡ slice_index y.linked k
  pub linked : (k : ℕ) → k < length y.linked → is_own y.map k ≡ false → slice_index memory k ≡ slice_index y.linked k

-- pc, registers, hi and lo, as user u's control block has them
abbrev pub block_cpu : List ℕ → ℕ → Cpu
block_cpu memory u = record {
  pc = slice_index memory (block_at u);
  regs = 0 ∷ take 31 (drop (block_at u + 1) memory);
  hi = slice_index memory (block_at u + BLOCK_HI);
  lo = slice_index memory (block_at u + BLOCK_LO);
}

abbrev pub IsUser : Core → ℕ → Type 0
IsUser c u = (1 ≤ u) × (u ≤ length c.users)

-- whether the machine runs a user: it is on and in user mode
abbrev pub runs_user : State → Bool
runs_user s = is_on s && in_user s

-- the processor runs the current user
pub record RunsUser (m : Map) (s : State) (c : Core) : Type 0 where
  pub user : IsUser c c.current
  pub cpu : s.cpu ≡ (user_of c.users c.current).cpu
  pub pto : slice_index s.special PTO ≡ 4 * table_of m c.current
  pub ptl : slice_index s.special PTL ≡ pages_of (user_of c.users c.current)
  pub sr : slice_index s.special SR ≡ 1

-- PART 2: sizes, registers, and who is current
pub record UsersStand (m : Map) (s : State) (status : Status) (c : Core) : Type 0 where
  pub sizes : (u : ℕ) → IsUser c u → slice_index s.memory (block_at u + BLOCK_SIZE) ≡ pages_of (user_of c.users u)
  pub blocks : (u : ℕ) → IsUser c u → (runs_user s && u == c.current) ≡ false → block_cpu s.memory u ≡ (user_of c.users u).cpu
  pub runs : runs_user s ≡ true → RunsUser m s c
  pub current : status ≡ Running → slice_index s.memory current_at ≡ c.current

-- a machine of at most so many pages
pub record UserFits (most : ℕ) (f : Flat) : Type 0 where
  pub cpu : CpuFits f.cpu
  pub pages : pages_of f ≤ most
  pub whole : length f.words ≡ 1024 * pages_of f
  pub words : All IsWord f.words

-- the most input words that a schedule has
abbrev pub input_room : ℕ
input_room = 4096

-- a CVM state of this map
pub record CoreFits (m : Map) (c : Core) : Type 0 where
  pub users : length c.users ≡ m.users
  pub each : All (UserFits m.params.pages) c.users
  pub globals : scalars c.c0.global_values ≡ m.global_words
  pub heap : scalars c.c0.heap_values ≤ m.params.heap
  pub used : c.c0.heap_words ≡ scalars c.c0.heap_values
  pub frames : c.c0.frames ≡ []
  pub current : c.current ≤ m.users
  pub log : length c.console.log ≤ LOG_ROOM
  pub input : length c.console.input ≤ input_room

-- THE RELATION, but for lines: parts 3 and 4 and the hand are `pages`, the rest of part 5 `sectors` to `idle`, part 6 `log` and `input`
pub record RunningRelation (x : Environment) (y : Site) (s : State) (status : Status) (c : Core) : Type 0 where
  pub fits : Fits x s
  pub whole : CoreFits y.map c
  pub memory : memory_words y.map ≤ length s.memory
  pub small : length s.memory ≤ 65000 * 1024
  pub kernel : DataStands y s.memory c.c0
  pub users : UsersStand y.map s status c
  pub pages : PagingInvariant (page_layout y.map) (pages_by y.map.params.pages c.users) (paged_of y.map s)
  pub sectors : y.map.users * y.map.params.pages ≤ x.count
  pub no_reset : s.reset ≡ false
  pub idle : s.device.pending ≡ Idle
  pub log : s.log ≡ c.console.log
  pub input : s.input ≡ c.console.input

-- the relation whole: the latched lines are the pending ones with those raised since
pub record SimulationRelation (x : Environment) (y : Site) (since : ℕ) (s : State) (c : Cvm) : Type 0 where
  pub stands : RunningRelation x y s c.status c.core
  pub lines : s.mask ≡ bit_or c.pending since
