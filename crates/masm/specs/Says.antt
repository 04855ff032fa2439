-- What the instructions of straight code are said to do, one saying an instruction, and the state that they lead to. The
-- sayings name the wanted values, so the state after many instructions is a short term.
use Rattle.std.specs.Prelude.{◌≡◌, ◌≢◌, ℕ, ◌+◌, ◌*◌, ◌<◌, ◌≤◌, Bool, true, false, ◌&&◌, ◌||◌, ◌==◌, List, [], ◌∷◌, drop, slice_index, None}
use Rattle.mips_table.specs.declared.inst.Inst.{Inst}
use Rattle.mips_table.specs.declared.inst.Inst.TheVariants.{Sll, Srl, Sra, Sllv, Srlv, Srav, Addu, Subu, And, Or, Xor, Nor, Slt, Sltu, Addiu, Slti, Sltiu}
use Rattle.mips_table.specs.declared.inst.Inst.TheVariants.{Andi, Ori, Xori, Lui, Mfc0, Mtc0, Lw, Sw, Mult, Multu, Div, Divu, Mfhi, Mthi, Mflo, Mtlo}
use Rattle.mips_table.specs.declared.effect.Effect.{Effect}
use Rattle.mips_table.specs.declared.effect.Effect.TheVariants.{Set, Wide, Load, Store, System}
use Rattle.mips_table.specs.Device.{Idle, SECTOR, is_buffer}
use Rattle.mips_table.specs.Machine.{LOG, INPUT}
use Rattle.mips_table.specs.Code.{put, Contents, with_reg, with_wide, Behind, World, port_loaded, logged, specials_after, PrivilegedMay, effect_at}

-- what an instruction is said to do
pub data Says : Type 0 where
  -- its register becomes v
  Gives : (v : ℕ) → Says
  -- hi and lo become these
  Widens : (hi lo : ℕ) → Says
  -- its register becomes v, which word x of memory holds
  Reads : (x v : ℕ) → Says
  -- word x of memory becomes v
  Writes : (x v : ℕ) → Says
  -- its register becomes v, which word x of the disk's buffer or the sector register holds
  ReadsDisk : (x v : ℕ) → Says
  -- that word becomes v
  WritesDisk : (x v : ℕ) → Says
  -- its register becomes v, which port x tells: the disk's status, the log's length, the number of input words
  Hears : (x v : ℕ) → Says
  -- its register becomes v, the next input word, which is taken
  Takes : (v : ℕ) → Says
  -- v goes to the log
  Logs : (v : ℕ) → Says
  -- a special register is read, or written
  Asks : Says

-- a word of the disk's buffer, or the sector register
abbrev pub is_disk_word : ℕ → Bool
is_disk_word x = is_buffer x || x == SECTOR

-- word x may be used as the disk's: ports may be used, and no command is under way
abbrev pub DiskWord : World → Behind → ℕ → Type 0
DiskWord w d x = (is_disk_word x ≡ true) × (w.system ≡ true) × (d.pending ≡ Idle)

-- it is so
abbrev pub Said : World → Inst → Contents → Behind → Effect → Says → Type 0
Said w i c d (Set r u to) (Gives v) = u ≡ v
Said w i c d (Wide u l to) (Widens hi lo) = (u ≡ hi) × (l ≡ lo)
Said w i c d (Load r a) (Reads x v) = (a ≡ 4 * x) × (x < w.words) × (c.memory x ≡ v)
Said w i c d (Store a u) (Writes x v) = (a ≡ 4 * x) × (x < w.words) × (w.kept x ≡ None) × (u ≡ v)
Said w i c d (Load r a) (ReadsDisk x v) = (a ≡ 4 * x) × DiskWord w d x × (c.memory x ≡ v)
Said w i c d (Store a u) (WritesDisk x v) = (a ≡ 4 * x) × DiskWord w d x × (w.kept x ≡ None) × (u ≡ v)
Said w i c d (Load r a) (Hears x v) = (a ≡ 4 * x) × (w.words ≤ x) × (w.system ≡ true) × (x ≢ INPUT) × (port_loaded c d x ≡ v)
Said w i c d (Load r a) (Takes v) = (a ≡ 4 * INPUT) × (w.system ≡ true) × (slice_index d.input 0 ≡ v)
Said w i c d (Store a u) (Logs v) = (a ≡ 4 * LOG) × (w.system ≡ true) × (w.kept LOG ≡ None) × (u ≡ v)
Said w i c d System Asks = PrivilegedMay w i
Said w i c d e h = ⊥

-- the register that an effect writes
abbrev pub register_written : Effect → ℕ
register_written (Set r u to) = r
register_written (Load r a) = r
register_written other = 0

-- the contents after it
abbrev pub said : Inst → Contents → Effect → Says → Contents
said i c e (Gives v) = with_reg c (register_written e) v
said i c e (Widens hi lo) = with_wide c hi lo
said i c e (Reads x v) = with_reg c (register_written e) v
said i c e (Writes x v) = record c { memory = put c.memory x v }
said i c e (ReadsDisk x v) = with_reg c (register_written e) v
said i c e (WritesDisk x v) = record c { memory = put c.memory x v }
said i c e (Hears x v) = with_reg c (register_written e) v
said i c e (Takes v) = with_reg c (register_written e) v
said i c e (Logs v) = c
said i c e Asks = specials_after i c

-- what is behind the ports after it
abbrev pub ports_after : Behind → Says → Behind
ports_after d (Takes v) = record d { input = drop 1 d.input }
ports_after d (Logs v) = logged d v
ports_after d other = d

-- the instruction goes on to the next, whatever the registers hold, unless its address traps
abbrev pub falls_through : Inst → Bool
falls_through (Sll rd rt sa) = true
falls_through (Srl rd rt sa) = true
falls_through (Sra rd rt sa) = true
falls_through (Sllv rd rt rs) = true
falls_through (Srlv rd rt rs) = true
falls_through (Srav rd rt rs) = true
falls_through (Addu rd rs rt) = true
falls_through (Subu rd rs rt) = true
falls_through (And rd rs rt) = true
falls_through (Or rd rs rt) = true
falls_through (Xor rd rs rt) = true
falls_through (Nor rd rs rt) = true
falls_through (Slt rd rs rt) = true
falls_through (Sltu rd rs rt) = true
falls_through (Addiu rt rs imm) = true
falls_through (Slti rt rs imm) = true
falls_through (Sltiu rt rs imm) = true
falls_through (Andi rt rs imm) = true
falls_through (Ori rt rs imm) = true
falls_through (Xori rt rs imm) = true
falls_through (Lui rt imm) = true
falls_through (Lw rt rs imm) = true
falls_through (Sw rt rs imm) = true
falls_through (Mult rs rt) = true
falls_through (Multu rs rt) = true
falls_through (Div rs rt) = true
falls_through (Divu rs rt) = true
falls_through (Mfhi rd) = true
falls_through (Mthi rs) = true
falls_through (Mflo rd) = true
falls_through (Mtlo rs) = true
falls_through (Mfc0 rt special) = true
falls_through (Mtc0 rt special) = true
falls_through other = false

-- all of them do
abbrev pub straight : List Inst → Bool
straight [] = true
straight (i ∷ is) = falls_through i && straight is

-- each instruction of the list, which stands at n, does what is said of it
abbrev pub AllSaid : World → ℕ → List Inst → List Says → Contents → Behind → Type 0
AllSaid w n [] [] c d = Unit {0}
AllSaid w n (i ∷ is) (h ∷ hs) c d = Said w i c d (effect_at i n c) h × AllSaid w (n + 1) is hs (said i c (effect_at i n c) h) (ports_after d h)
AllSaid w n is hs c d = ⊥

-- the contents after all of them
abbrev pub sayings : ℕ → List Inst → List Says → Contents → Contents
sayings n (i ∷ is) (h ∷ hs) c = sayings (n + 1) is hs (said i c (effect_at i n c) h)
sayings n is hs c = c

-- what is behind the ports after all of them
abbrev pub tellings : List Says → Behind → Behind
tellings [] d = d
tellings (h ∷ hs) d = tellings hs (ports_after d h)
