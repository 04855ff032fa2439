-- The laws of saving and restoring a user, each of a run of one block from one state, with its steps.
use Rattle.std.specs.Prelude.{◌≡◌, ◌≢◌, ℕ, ◌+◌, ◌<◌, ◌≤◌, ◌⊎◌, true, ◌++◌, None}
use Rattle.mips_table.specs.Device.{Idle}
use Rattle.mips_table.specs.declared.special.TheConstants.{EPC}
use Rattle.mips_table.specs.Code.{Contents, Behind, World}
use Rattle.layer_map.specs.Map.{current_at, block_at}
use Rattle.layer_map.specs.declared.places.TheConstants.{BLOCK_SIZE, BLOCK_HI, BLOCK_LO}
use Rattle.masm.specs.Laws.{From}
use Rattle.masm.specs.declared.registers.TheConstants.{SCRATCH}
use Rattle.masm.specs.declared.roles.TheConstants.{BLOCK}
use Rattle.pcb_layer.specs.Code.{saved_at, save_registers_code, restore_registers_code, save_user_code, restore_user_code}

-- the number of a register other than register 0
abbrev pub IsRegister : ℕ → Type 0
IsRegister r = (1 ≤ r) × (r ≤ 31)

-- the save area lies in memory
abbrev pub HasSaveArea : World → Type 0
HasSaveArea w = saved_at 32 ≤ w.words

-- no word of the save area is kept
abbrev pub MaySave : World → Type 0
MaySave w = (r : ℕ) → IsRegister r → w.kept (saved_at r) ≡ None

-- u is the current user, whose control block lies in memory
pub record IsCurrent (w : World) (u : ℕ) (c : Contents) : Type 0 where
  pub some : 1 ≤ u
  pub most : u ≤ 64
  pub current : c.memory current_at ≡ u
  pub inside : block_at 65 ≤ w.words

-- special registers may be used, and of user u's control block no word is kept that holds pc, registers, hi and lo
pub record MayKeep (w : World) (u : ℕ) : Type 0 where
  pub system : w.system ≡ true
  pub free : (k : ℕ) → k < BLOCK_LO + 1 → w.kept (block_at u + k) ≡ None

-- the save area holds the registers; all else is as before
pub record Saved (c0 : Contents) (d0 : Behind) (c : Contents) (d : Behind) : Type 0 where
  pub words : (r : ℕ) → IsRegister r → c.memory (saved_at r) ≡ c0.regs r
  pub others : (x : ℕ) → (x < saved_at 1) ⊎ (saved_at 31 < x) → c.memory x ≡ c0.memory x
  pub regs : c.regs ≡ c0.regs
  pub special : c.special ≡ c0.special
  pub hi : c.hi ≡ c0.hi
  pub lo : c.lo ≡ c0.lo
  pub behind : d ≡ d0

-- the registers are what the save area holds; all else is as before
pub record Restored (c0 : Contents) (d0 : Behind) (c : Contents) (d : Behind) : Type 0 where
  pub regs : (r : ℕ) → IsRegister r → c.regs r ≡ c0.memory (saved_at r)
  pub memory : c.memory ≡ c0.memory
  pub special : c.special ≡ c0.special
  pub hi : c.hi ≡ c0.hi
  pub lo : c.lo ≡ c0.lo
  pub behind : d ≡ d0

-- a word that no control block's pc, registers, hi or lo is, of user u
abbrev pub IsBeside : ℕ → ℕ → Type 0
IsBeside u x = (x < block_at u) ⊎ (block_at u + BLOCK_LO < x) ⊎ (x ≡ block_at u + BLOCK_SIZE)

-- user u's control block holds epc, hi, lo, and as registers what stands in the save area; all else but SCRATCH and BLOCK is as before
pub record InControlBlock (u : ℕ) (c0 : Contents) (d0 : Behind) (c : Contents) (d : Behind) : Type 0 where
  pub pc : c.memory (block_at u) ≡ c0.special EPC
  pub registers : (r : ℕ) → IsRegister r → c.memory (block_at u + r) ≡ c0.memory (saved_at r)
  pub high : c.memory (block_at u + BLOCK_HI) ≡ c0.hi
  pub low : c.memory (block_at u + BLOCK_LO) ≡ c0.lo
  pub others : (x : ℕ) → IsBeside u x → c.memory x ≡ c0.memory x
  pub regs : (r : ℕ) → r ≢ SCRATCH → r ≢ BLOCK → c.regs r ≡ c0.regs r
  pub special : c.special ≡ c0.special
  pub hi : c.hi ≡ c0.hi
  pub lo : c.lo ≡ c0.lo
  pub behind : d ≡ d0

-- user u's control block holds epc, the registers, hi and lo; all else but SCRATCH, BLOCK and the save area is as before
pub record UserSaved (u : ℕ) (c0 : Contents) (d0 : Behind) (c : Contents) (d : Behind) : Type 0 where
  pub pc : c.memory (block_at u) ≡ c0.special EPC
  pub registers : (r : ℕ) → IsRegister r → c.memory (block_at u + r) ≡ c0.regs r
  pub high : c.memory (block_at u + BLOCK_HI) ≡ c0.hi
  pub low : c.memory (block_at u + BLOCK_LO) ≡ c0.lo
  pub others : (x : ℕ) → IsBeside u x → (x < saved_at 1) ⊎ (saved_at 31 < x) → c.memory x ≡ c0.memory x
  pub regs : (r : ℕ) → r ≢ SCRATCH → r ≢ BLOCK → c.regs r ≡ c0.regs r
  pub special : c.special ≡ c0.special
  pub hi : c.hi ≡ c0.hi
  pub lo : c.lo ≡ c0.lo
  pub behind : d ≡ d0

-- epc, the registers, hi and lo are what user u's control block holds; all else is as before
pub record UserRestored (u : ℕ) (c0 : Contents) (d0 : Behind) (c : Contents) (d : Behind) : Type 0 where
  pub pc : c.special EPC ≡ c0.memory (block_at u)
  pub registers : (r : ℕ) → IsRegister r → c.regs r ≡ c0.memory (block_at u + r)
  pub high : c.hi ≡ c0.memory (block_at u + BLOCK_HI)
  pub low : c.lo ≡ c0.memory (block_at u + BLOCK_LO)
  pub special : (k : ℕ) → k ≢ EPC → c.special k ≡ c0.special k
  pub memory : c.memory ≡ c0.memory
  pub behind : d ≡ d0

-- the registers go to the save area
abbrev pub SavesRegisters : World → Type 0
SavesRegisters w = HasSaveArea w → MaySave w → (c : Contents) (d : Behind) → d.pending ≡ Idle → From w (save_registers_code 31) 31 c d (Saved c d)

-- the registers come from the save area
abbrev pub RestoresRegisters : World → Type 0
RestoresRegisters w = HasSaveArea w → (c : Contents) (d : Behind) → d.pending ≡ Idle → From w (restore_registers_code 31) 31 c d (Restored c d)

-- what is saved goes to the current user's control block
abbrev pub KeepsUser : World → Type 0
KeepsUser w = (u : ℕ) (c : Contents) (d : Behind) → MayKeep w u → IsCurrent w u c → d.pending ≡ Idle → From w save_user_code 73 c d (InControlBlock u c d)

-- both
abbrev pub SavesUser : World → Type 0
SavesUser w = MaySave w → (u : ℕ) (c : Contents) (d : Behind) → MayKeep w u → IsCurrent w u c → d.pending ≡ Idle
    → From w (save_registers_code 31 ++ save_user_code) 104 c d (UserSaved u c d)

-- the current user is restored
abbrev pub RestoresUser : World → Type 0
RestoresUser w = w.system ≡ true → (u : ℕ) (c : Contents) (d : Behind) → IsCurrent w u c → d.pending ≡ Idle
    → From w restore_user_code 42 c d (UserRestored u c d)
