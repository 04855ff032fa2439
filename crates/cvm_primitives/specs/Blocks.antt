-- What the users' control blocks hold, and what a call of a primitive that uses no page is entered with and leaves.
use Rattle.std.specs.Prelude.{◌≡◌, ℕ, ◌+◌, ◌%◌, ◌^◌, ◌<◌, ◌≤◌, ◌⊎◌, true, List, [], ◌∷◌, length, slice_index, None}
use Rattle.mips_table.specs.Device.{Idle}
use Rattle.mips_table.specs.Machine.{LOG, Console}
use Rattle.mips_table.specs.Flat.{Flat}
use Rattle.mips_table.specs.Code.{Contents, Behind, World}
use Rattle.layer_map.specs.Map.{block_at, layer_words}
use Rattle.layer_map.specs.declared.entries.TheConstants.{ANSWER}
use Rattle.layer_map.specs.declared.places.TheConstants.{BLOCK_SIZE, BLOCK_HI, BLOCK_LO}
use Rattle.masm.specs.declared.roles.TheConstants.{T3}
use Rattle.cvm_model.specs.Kernel.{flat}
use Rattle.cvm_model.specs.Primitives.{Given, user_of, pages_of, register_of}

-- the word of user u's control block that holds register r, or the pc for 32
abbrev pub block_word : ℕ → ℕ → ℕ
block_word u r = block_at u + r % 32

-- user u is one of them
abbrev pub IsOneOf : List Flat → ℕ → Type 0
IsOneOf users u = (1 ≤ u) × (u ≤ length users)

-- the control blocks hold the pc, registers, hi, lo and size of each user
pub record BlocksHold (users : List Flat) (memory : ℕ → ℕ) : Type 0 where
  pub registers : (u r : ℕ) → IsOneOf users u → 1 ≤ r → r ≤ 32 → memory (block_word u r) ≡ register_of (user_of users u) r
  pub sizes : (u : ℕ) → IsOneOf users u → memory (block_at u + BLOCK_SIZE) ≡ pages_of (user_of users u)
  pub hi : (u : ℕ) → IsOneOf users u → memory (block_at u + BLOCK_HI) ≡ (user_of users u).cpu.hi
  pub lo : (u : ℕ) → IsOneOf users u → memory (block_at u + BLOCK_LO) ≡ (user_of users u).cpu.lo

-- the console behind the ports
abbrev pub console_of : Behind → Console
console_of d = record { log = d.log; input = d.input }

-- What a call is entered with: at most 64 users, whose control blocks may be written and hold them, and ports; words are below 2 ^ 32, and no
-- command is under way.
pub record EnteredOnBlocks (w : World) (users : List Flat) (c : Contents) (d : Behind) : Type 0 where
  pub few : length users ≤ 64
  pub blocks : BlocksHold users c.memory
  pub whole : (u : ℕ) → IsOneOf users u → length (user_of users u).cpu.regs ≡ 32
  pub inside : layer_words ≤ w.words
  pub free : (u i : ℕ) → IsOneOf users u → i < BLOCK_SIZE → w.kept (block_at u + i) ≡ None
  pub system : w.system ≡ true
  pub log : w.kept LOG ≡ None
  pub regs : (r : ℕ) → c.regs r < 2 ^ 32
  pub words : (k : ℕ) → k < layer_words → c.memory k < 2 ^ 32
  pub input : (k : ℕ) → slice_index d.input k < 2 ^ 32
  pub idle : d.pending ≡ Idle

-- What it leaves: its answer, the users, whose memories are as before, and the console after it. All words but those of the control blocks,
-- the registers behind T3, hi and lo, the special registers and the sectors stay, and no command is under way.
pub record LeftByCall (users : List Flat) (g : Given) (c0 : Contents) (d0 : Behind) (c : Contents) (d : Behind) : Type 0 where
  pub answer : flat (λ _. 0) g.answer ≡ c.regs ANSWER ∷ []
  pub blocks : BlocksHold g.users c.memory
  pub count : length g.users ≡ length users
  pub flats : (u : ℕ) → (user_of g.users u).words ≡ (user_of users u).words
  pub log : d.log ≡ g.console.log
  pub input : d.input ≡ g.console.input
  pub words : (k : ℕ) → (k < block_at 1) ⊎ (block_at (length users + 1) ≤ k) → c.memory k ≡ c0.memory k
  pub regs : (r : ℕ) → T3 + 1 ≤ r → c.regs r ≡ c0.regs r
  pub hi : c.hi ≡ c0.hi
  pub lo : c.lo ≡ c0.lo
  pub special : c.special ≡ c0.special
  pub sectors : d.sectors ≡ d0.sectors
  pub commands : d.commands ≡ d0.commands
  pub idle : d.pending ≡ Idle
