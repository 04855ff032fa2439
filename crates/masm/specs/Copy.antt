-- A loop that copies words: from the address in SOURCE to the one in TARGET, as many as WORDS says.
use Rattle.std.specs.Prelude.{◌≡◌, ◌≢◌, ℕ, suc, ◌+◌, ◌-◌, ◌*◌, ◌<◌, ◌≤◌, ◌⊎◌, List, [], None}
use Rattle.mips_table.specs.declared.inst.Inst.{Inst}
use Rattle.mips_table.specs.Device.{Idle}
use Rattle.mips_table.specs.Code.{Contents, Behind, World}
use Rattle.masm.specs.Blocks.{loop_code}
use Rattle.masm.specs.Laws.{From}
use Rattle.masm.specs.declared.roles.TheConstants.{SOURCE, TARGET, WORDS, WORD}
use Rattle.masm.specs.declared.copying.TheConstants.{COPY_TURN}

-- one word is copied, and the addresses and the count go on
abbrev pub copy_turn : List Inst
copy_turn = COPY_TURN

-- all of them are
abbrev pub copy_code : List Inst
copy_code = loop_code [] WORDS copy_turn

-- n words may be copied from x to y: the registers say so, both lie in memory and apart, no word of the target is kept, and no command is under way
pub record MayCopy (w : World) (x y n : ℕ) (c : Contents) (d : Behind) : Type 0 where
  pub source : c.regs SOURCE ≡ 4 * x
  pub target : c.regs TARGET ≡ 4 * y
  pub count : c.regs WORDS ≡ n
  pub source_in : x + n ≤ w.words
  pub target_in : y + n ≤ w.words
  pub apart : (x + n ≤ y) ⊎ (y + n ≤ x)
  pub free : (k : ℕ) → k < n → w.kept (y + k) ≡ None
  pub idle : d.pending ≡ Idle

-- n words were: they stand at y, all other words stay, and so do all registers but SOURCE, TARGET, WORDS and WORD
pub record IsCopied (x y n : ℕ) (c c' : Contents) : Type 0 where
  pub words : (k : ℕ) → k < n → c'.memory (y + k) ≡ c.memory (x + k)
  pub others : (k : ℕ) → (k < y) ⊎ (y + n ≤ k) → c'.memory k ≡ c.memory k
  pub regs : (r : ℕ) → r ≢ SOURCE → r ≢ TARGET → r ≢ WORDS → r ≢ WORD → c'.regs r ≡ c.regs r
  pub hi : c'.hi ≡ c.hi
  pub lo : c'.lo ≡ c.lo
  pub special : c'.special ≡ c.special

-- the copy is made in seven steps a word and one more
abbrev pub CopyRuns : World → Type 0
CopyRuns w = (x y n : ℕ) (c : Contents) (d : Behind) → MayCopy w x y n c d → From w copy_code (7 * n + 1) c d (λ c' d'. IsCopied x y n c c' × (d' ≡ d))

-- the loop's own state: what is copied, where it began, and how many words are done
pub record Copying : Type 0 where
  pub x : ℕ
  pub y : ℕ
  pub n : ℕ
  pub from : Contents
  pub behind : Behind
  pub made : ℕ

-- one word more is done
abbrev pub onward : Copying → Copying
onward a = record a { made = suc a.made }

-- while the loop runs, the words that are done are copied, and the registers say what is left
pub record MidCopy (w : World) (a : Copying) (c : Contents) (d : Behind) : Type 0 where
  pub may : MayCopy w a.x a.y a.n a.from a.behind
  pub most : a.made ≤ a.n
  pub source : c.regs SOURCE ≡ 4 * (a.x + a.made)
  pub target : c.regs TARGET ≡ 4 * (a.y + a.made)
  pub count : c.regs WORDS ≡ a.n - a.made
  pub done : IsCopied a.x a.y a.made a.from c
  pub same : d ≡ a.behind

-- and behind it all are
abbrev pub CopyEnds : World → Copying → Contents → Behind → Type 0
CopyEnds w a c d = IsCopied a.x a.y a.n a.from c × (d ≡ a.behind)
