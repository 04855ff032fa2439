-- What the primitives take of the page-fault block, what they are entered with, and what their parts lead to.
use Rattle.std.specs.Prelude.{◌≡◌, ◌≢◌, ℕ, ◌+◌, ◌-◌, ◌*◌, ◌/◌, ◌%◌, ◌^◌, ◌<◌, ◌≤◌, true, nat_eq, nat_lt, if◌then◌else◌, List}
use Rattle.mips_table.specs.Device.{Idle, BUFFER}
use Rattle.mips_table.specs.Code.{Contents, Behind}
use Rattle.layer_map.specs.Map.{block_at, hand_at}
use Rattle.layer_map.specs.declared.places.TheConstants.{BLOCK_SIZE, BLOCK_WORDS, SLOTS}
use Rattle.masm.specs.declared.registers.TheConstants.{GLOBALS, FRAME_END, STACK_END, RETURN}
use Rattle.page_model.specs.Paging.{PageLayout, IsUserFrame, MapsTo, Pages, PagingInvariant, counted_entries}
use Rattle.page_model.specs.TableLayout.{TableLayout, frames_end, paged_view}
use Rattle.cvm_primitives.specs.declared.roles.TheConstants.{SOURCE_WORD, TARGET_WORD, LEFT_WORDS}
use Rattle.cvm_primitives.specs.Copy.{Apart}

-- the steps that one page is worth
abbrev pub steps_of_page : ℕ → ℕ → ℕ
steps_of_page pages b = 200000 + 32 * pages + 6 * b

-- what a primitive is entered with and must leave: registers, special registers, words, the log, the input and the sectors past the pages
pub record EntryState : Type 0 where
  pub regs : ℕ → ℕ
  pub special : ℕ → ℕ
  pub memory : ℕ → ℕ
  pub log : List ℕ
  pub input : List ℕ
  pub sectors : ℕ → ℕ → ℕ

-- this state as the start
abbrev pub entry_state : Contents → Behind → EntryState
entry_state c d = record { regs = c.regs; special = c.special; memory = c.memory; log = d.log; input = d.input; sectors = d.sectors }

-- the log, the input and the sectors past the pages are as at the start
pub record BehindStays (p : TableLayout) (g : EntryState) (d : Behind) : Type 0 where
  pub log : d.log ≡ g.log
  pub input : d.input ≡ g.input
  pub past : (q i : ℕ) → p.layout.pages ≤ q → d.sectors q i ≡ g.sectors q i

-- What a part of a primitive has in hand, and keeps: the machine stands for u; the words below the tables but the hand, those behind the last frame,
-- the special registers, registers 28 to 31 and what is behind the ports are as at the start; and no command is under way.
pub record PagesHeld (p : TableLayout) (u : Pages) (g : EntryState) (c : Contents) (d : Behind) : Type 0 where
  pub stands : PagingInvariant p.layout u (paged_view p c.memory d.sectors)
  pub small : (x : ℕ) → x < p.layout.pages → c.memory (p.tables + x) < 2 ^ 32
  pub low : (x : ℕ) → x < p.tables → x ≢ hand_at → c.memory x ≡ g.memory x
  pub above : (x : ℕ) → frames_end p ≤ x → x < BUFFER → c.memory x ≡ g.memory x
  pub special : c.special ≡ g.special
  pub r28 : c.regs GLOBALS ≡ g.regs GLOBALS
  pub r29 : c.regs FRAME_END ≡ g.regs FRAME_END
  pub r30 : c.regs STACK_END ≡ g.regs STACK_END
  pub r31 : c.regs RETURN ≡ g.regs RETURN
  pub behind : BehindStays p g d
  pub idle : d.pending ≡ Idle

-- the loop's three numbers: word x to word y, n words left
pub record Marks (x y n : ℕ) (c : Contents) : Type 0 where
  pub from : c.regs SOURCE_WORD ≡ x
  pub to : c.regs TARGET_WORD ≡ y
  pub left : c.regs LEFT_WORDS ≡ n

-- what a copy of n words from x to y asks of the flat memories
pub record CopyGood (l : PageLayout) (u : Pages) (x y n : ℕ) : Type 0 where
  pub source : x + n ≤ 1024 * l.pages
  pub target : y + n ≤ 1024 * l.pages
  pub from : (j : ℕ) → j < n → u.live ((x + j) / 1024) ≡ true
  pub to : (j : ℕ) → j < n → u.live ((y + j) / 1024) ≡ true
  pub apart : Apart x y n

-- the word of user u's size
abbrev pub size_at : ℕ → ℕ
size_at u = block_at 1 + BLOCK_SIZE + BLOCK_WORDS * (u - 1)

-- the users' sizes in memory, and which pages are below them
pub record UsersIn (p : TableLayout) (users per : ℕ) (size : ℕ → ℕ) (v : Pages) (c : Contents) : Type 0 where
  pub few : users ≤ 64
  pub most : per ≤ 1024
  pub shape : p.layout.pages ≡ users * per
  pub sizes : (u : ℕ) → 0 < u → u ≤ users → c.memory (size_at u) ≡ size u
  pub fit : (u : ℕ) → 0 < u → u ≤ users → size u ≤ per
  pub live : (u i : ℕ) → 0 < u → u ≤ users → i < per → v.live ((u - 1) * per + i) ≡ nat_lt i (size u)

-- u is a user, and a the address of a word of its memory
abbrev pub WordGood : ℕ → (ℕ → ℕ) → ℕ → ℕ → Type 0
WordGood users size u a = (0 < u) × (u ≤ users) × (a % 4 ≡ 0) × (a < 4096 * size u)

-- the number of that word
abbrev pub number_of_word : ℕ → ℕ → ℕ → ℕ
number_of_word per u a = 1024 * ((u - 1) * per) + a / 4

-- n words from a on are in the memory of user u
abbrev pub RangeGood : ℕ → (ℕ → ℕ) → ℕ → ℕ → ℕ → Type 0
RangeGood users size u a n = (0 < u) × (u ≤ users) × (a % 4 ≡ 0) × (a + 4 * n ≤ 4096 * size u)

-- the arguments of vm_copy are good
pub record CopyArgs (users : ℕ) (size : ℕ → ℕ) (u a v b n : ℕ) : Type 0 where
  pub source : RangeGood users size u a n
  pub target : RangeGood users size v b n
  pub apart : u ≡ v → Apart (a / 4) (b / 4) n

-- the arguments of vm_resize are good
abbrev pub ResizeGood : ℕ → ℕ → ℕ → ℕ → Type 0
ResizeGood users per u new = (0 < u) × (u ≤ users) × (new ≤ per)

-- n pages from page q on name the zero frame
abbrev pub Fresh : TableLayout → ℕ → ℕ → Contents → Type 0
Fresh p q n c = (x : ℕ) → q ≤ x → x < q + n → MapsTo (c.memory (p.tables + x)) p.layout.zeros

-- page y names the frame that page x names, both by valid entries
pub record SharesFrame (p : TableLayout) (x y : ℕ) (m : ℕ → ℕ) : Type 0 where
  pub source : MapsTo (m (p.tables + x)) (m (p.tables + x) / 4096)
  pub target : MapsTo (m (p.tables + y)) (m (p.tables + x) / 4096)

-- page x names a user frame that four pages other than y name
pub record FourOthers (p : TableLayout) (x y : ℕ) (m : ℕ → ℕ) : Type 0 where
  pub names : MapsTo (m (p.tables + x)) (m (p.tables + x) / 4096)
  pub user : IsUserFrame p.layout (m (p.tables + x) / 4096)
  pub four : SLOTS ≤ counted_entries (λ z. if nat_eq z y then 0 else m (p.tables + z)) (m (p.tables + x) / 4096) p.layout.pages
