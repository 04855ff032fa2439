-- The laws of the swaps, each of a run of one block from one state, with its steps; b is the disk's longest busy time.
use Rattle.std.specs.Prelude.{◌≡◌, ℕ, ◌+◌, ◌*◌, ◌<◌, ◌≤◌, ◌⊎◌, true, None}
use Rattle.mips_table.specs.Device.{Idle, BUFFER}
use Rattle.mips_table.specs.Code.{Contents, Behind, World}
use Rattle.masm.specs.Laws.{From}
use Rattle.masm.specs.Frames.{HasDisk, Besides, WritesFrames}
use Rattle.swap_layer.specs.Code.{move_words_code, swap_out_code, read_sector_code, copy_to_frame_code, swap_in_code}
use Rattle.masm.specs.declared.roles.TheConstants.{PAGE, SOURCE, TARGET, VICTIM_AT, WORD, WORDS, ORDER}
use Rattle.swap_layer.specs.declared.swap.TheConstants.{TURNS}

-- 1,024 words from this one on lie in memory, or are the disk's buffer
abbrev pub IsFrameOrBuffer : World → ℕ → Type 0
IsFrameOrBuffer w a = (a + 1024 ≤ w.words) ⊎ (a ≡ BUFFER)

-- 1,024 words may be moved from word a on to word b on: the registers say so, the target isn't kept, and no command is under way
pub record MoveAsked (w : World) (a b : ℕ) (c : Contents) (d : Behind) : Type 0 where
  pub from : c.regs SOURCE ≡ 4 * a
  pub to : c.regs TARGET ≡ 4 * b
  pub count : c.regs WORDS ≡ TURNS
  pub system : w.system ≡ true
  pub source : IsFrameOrBuffer w a
  pub target : IsFrameOrBuffer w b
  pub free : (x : ℕ) → b ≤ x → x < b + 1024 → w.kept x ≡ None
  pub apart : (a + 1024 ≤ b) ⊎ (b + 1024 ≤ a)
  pub idle : d.pending ≡ Idle

-- the words were moved, and all else stays but SOURCE, TARGET, WORDS and WORD, which are registers 1 to 4
pub record WordsMoved (a b : ℕ) (c0 : Contents) (d0 : Behind) (c : Contents) (d : Behind) : Type 0 where
  pub words : (k : ℕ) → k < 1024 → c.memory (b + k) ≡ c0.memory (a + k)
  pub others : (x : ℕ) → (x < b) ⊎ (b + 1024 ≤ x) → c.memory x ≡ c0.memory x
  pub regs : (x : ℕ) → WORD < x → c.regs x ≡ c0.regs x
  pub special : c.special ≡ c0.special
  pub hi : c.hi ≡ c0.hi
  pub lo : c.lo ≡ c0.lo
  pub behind : d ≡ d0

-- the buffer is sector s, and SOURCE is its address; memory, sectors and the registers behind ORDER are as before
pub record SectorFetched (s : ℕ) (c0 : Contents) (d0 : Behind) (c : Contents) (d : Behind) : Type 0 where
  pub from : c.regs SOURCE ≡ 4 * BUFFER
  pub words : (i : ℕ) → i < 1024 → c.memory (BUFFER + i) ≡ d0.sectors s i
  pub memory : (x : ℕ) → x < BUFFER → c.memory x ≡ c0.memory x
  pub regs : (x : ℕ) → ORDER < x → c.regs x ≡ c0.regs x
  pub sectors : (x i : ℕ) → d.sectors x i ≡ d0.sectors x i
  pub commands : d.commands ≡ d0.commands + 1
  pub besides : Besides c0 d0 c d

-- frame g is sector s; other memory, the sectors and the registers behind ORDER are as before
pub record SwappedIn (s g : ℕ) (c0 : Contents) (d0 : Behind) (c : Contents) (d : Behind) : Type 0 where
  pub words : (i : ℕ) → i < 1024 → c.memory (1024 * g + i) ≡ d0.sectors s i
  pub memory : (x : ℕ) → x < BUFFER → (x < 1024 * g) ⊎ (1024 * g + 1024 ≤ x) → c.memory x ≡ c0.memory x
  pub regs : (x : ℕ) → ORDER < x → c.regs x ≡ c0.regs x
  pub sectors : (x i : ℕ) → d.sectors x i ≡ d0.sectors x i
  pub commands : d.commands ≡ d0.commands + 1
  pub besides : Besides c0 d0 c d

-- frame g lies in memory, and no word of it is kept
abbrev pub MayFill : World → ℕ → Type 0
MayFill w g = (1024 * g + 1024 ≤ w.words) × ((x : ℕ) → 1024 * g ≤ x → x < 1024 * g + 1024 → w.kept x ≡ None)

-- 1,024 words are moved
abbrev pub MovesRun : World → Type 0
MovesRun w = (a b : ℕ) (c : Contents) (d : Behind) → MoveAsked w a b c d → From w move_words_code 2689 c d (WordsMoved a b c d)

-- a frame goes to a sector
abbrev pub SwapsOut : World → Type 0
SwapsOut w = (b : ℕ) → HasDisk w b → WritesFrames w swap_out_code (b + 2699)

-- a sector comes into the buffer
abbrev pub FetchesSector : World → Type 0
FetchesSector w = (b s : ℕ) (c : Contents) (d : Behind) → HasDisk w b → c.regs PAGE ≡ s → s < w.count → d.pending ≡ Idle
    → From w read_sector_code (b + 8) c d (SectorFetched s c d)

-- words of memory, or of the buffer, come into a frame
abbrev pub FillsFrame : World → Type 0
FillsFrame w = (b a g : ℕ) (c : Contents) (d : Behind) → HasDisk w b → c.regs SOURCE ≡ 4 * a → c.regs VICTIM_AT ≡ 4096 * g → MayFill w g → IsFrameOrBuffer w a
    → (a + 1024 ≤ 1024 * g) ⊎ (1024 * g + 1024 ≤ a) → d.pending ≡ Idle
    → From w copy_to_frame_code 2691 c d (WordsMoved a (1024 * g) c d)

-- a sector comes to a frame
abbrev pub SwapsIn : World → Type 0
SwapsIn w = (b s g : ℕ) (c : Contents) (d : Behind) → HasDisk w b → c.regs PAGE ≡ s → c.regs VICTIM_AT ≡ 4096 * g → MayFill w g → s < w.count → d.pending ≡ Idle
    → From w swap_in_code (b + 2699) c d (SwappedIn s g c d)
