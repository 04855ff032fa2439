-- What the parts of the block ask and do.
use Rattle.std.proofs.Common.{◌≡◌, ◌≢◌, ℕ, ◌+◌, ◌*◌, ◌/◌, ◌%◌, ◌^◌, ◌<◌, ◌≤◌, ◌⊎◌, true}
use Rattle.mips_table.specs.Device.{Idle, BUFFER}
use Rattle.mips_table.specs.Code.{Contents, Behind, World}
use Rattle.layer_map.specs.Map.{hand_at}
use Rattle.page_model.specs.Paging.{IsUserFrame, IsFrame, MapsTo, shown_word, next_frame, Pages, PagingInvariant}
use Rattle.page_model.specs.Edits.{PagePlaced}
use Rattle.page_model.specs.Faults.{ByFill}
use Rattle.page_model.specs.TableLayout.{TableLayout, count_at, frames_end, paged_view}
use Rattle.masm.specs.Frames.{Besides}
use Rattle.page_model.specs.Rows.{InList}
use Rattle.frame_table.specs.View.{LeftByEviction}

-- the page q is to be placed in the frame at the hand, of index h, which no entry names
pub record PlaceAsked (p : TableLayout) (q h : ℕ) (c : Contents) (d : Behind) : Type 0 where
  pub page : c.regs 16 ≡ q
  pub inside : q < p.layout.pages
  pub index : c.regs 17 ≡ h
  pub frame : c.regs 18 ≡ 4096 * (p.layout.zeros + 1 + h)
  pub in_range : h < p.layout.frames
  pub small : c.memory (p.tables + q) < 2 ^ 32
  pub named : (f : ℕ) → MapsTo (c.memory (p.tables + q)) f → IsFrame p.layout f
  pub away : MapsTo (c.memory (p.tables + q)) (p.layout.zeros + 1 + h) → ⊥
  pub few : (f : ℕ) → IsUserFrame p.layout f → c.memory (count_at p f) ≤ 4
  pub list : (f : ℕ) → IsUserFrame p.layout f → MapsTo (c.memory (p.tables + q)) f → (k : ℕ) × InList p q f k c.memory
  pub idle : d.pending ≡ Idle

-- the page's words stand at the address in register 1, in the buffer or in the frame that it shares
pub record Sourced (p : TableLayout) (q h : ℕ) (w : World) (c1 : Contents) (d1 : Behind) (c : Contents) (d : Behind) : Type 0 where
  pub a : ℕ
  pub from : c.regs 1 ≡ 4 * a
  pub place : (a + 1024 ≤ w.words) ⊎ (a ≡ BUFFER)
  pub apart : (a + 1024 ≤ 1024 * (p.layout.zeros + 1 + h)) ⊎ (1024 * (p.layout.zeros + 1 + h) + 1024 ≤ a)
  pub words : (i : ℕ) → i < 1024 → c.memory (a + i) ≡ shown_word (paged_view p c1.memory d1.sectors) q i
  pub memory : (x : ℕ) → x < BUFFER → c.memory x ≡ c1.memory x
  pub index : c.regs 17 ≡ h
  pub frame : c.regs 18 ≡ 4096 * (p.layout.zeros + 1 + h)
  pub entry : c.regs 20 ≡ 4 * (p.tables + q)
  pub named : c.regs 21 ≡ c1.memory (p.tables + q) / 4096
  pub valid : c.regs 24 ≡ c1.memory (p.tables + q) / 2048 % 2
  pub sectors : (x i : ℕ) → d.sectors x i ≡ d1.sectors x i
  pub regs : (x : ℕ) → LeftByEviction x → c.regs x ≡ c1.regs x
  pub besides : Besides c1 d1 c d

-- they stand in the frame at the hand, and the counts are as said
pub record Loaded (p : TableLayout) (q h : ℕ) (c1 : Contents) (d1 : Behind) (counts : (ℕ → ℕ) → Type 0) (c : Contents) (d : Behind) : Type 0 where
  pub words : (i : ℕ) → i < 1024 → c.memory (1024 * (p.layout.zeros + 1 + h) + i) ≡ shown_word (paged_view p c1.memory d1.sectors) q i
  pub count : counts c.memory
  pub memory : (x : ℕ) → x < BUFFER → (x < 1024 * (p.layout.zeros + 1 + h)) ⊎ (1024 * (p.layout.zeros + 1 + h) + 1024 ≤ x) → (x < p.counts) ⊎ (p.counts + 8 * p.layout.frames ≤ x) → c.memory x ≡ c1.memory x
  pub index : c.regs 17 ≡ h
  pub frame : c.regs 18 ≡ 4096 * (p.layout.zeros + 1 + h)
  pub entry : c.regs 20 ≡ 4 * (p.tables + q)
  pub named : c.regs 21 ≡ c1.memory (p.tables + q) / 4096
  pub valid : c.regs 24 ≡ c1.memory (p.tables + q) / 2048 % 2
  pub sectors : (x i : ℕ) → d.sectors x i ≡ d1.sectors x i
  pub regs : (x : ℕ) → LeftByEviction x → c.regs x ≡ c1.regs x
  pub besides : Besides c1 d1 c d

-- the page is placed, and the hand has moved on
pub record PlaceDone (p : TableLayout) (q h : ℕ) (c1 : Contents) (d1 : Behind) (c : Contents) (d : Behind) : Type 0 where
  pub placed : PagePlaced p.layout q (p.layout.zeros + 1 + h) (shown_word (paged_view p c1.memory d1.sectors) q) (paged_view p c1.memory d1.sectors) (paged_view p c.memory d.sectors)
  pub hand : (paged_view p c.memory d.sectors).hand ≡ next_frame p.layout (p.layout.zeros + 1 + h)
  pub memory : (x : ℕ) → x < BUFFER → (x < 1024 * (p.layout.zeros + 1 + h)) ⊎ (1024 * (p.layout.zeros + 1 + h) + 1024 ≤ x) → (x < p.counts) ⊎ (p.counts + 8 * p.layout.frames ≤ x) → x ≢ p.tables + q → x ≢ hand_at → c.memory x ≡ c1.memory x
  pub sectors : (x i : ℕ) → d.sectors x i ≡ d1.sectors x i
  pub regs : (x : ℕ) → LeftByEviction x → c.regs x ≡ c1.regs x
  pub besides : Besides c1 d1 c d

-- a frame is to be filled with page q, and the machine shows v
pub record FillAsked (p : TableLayout) (v : Pages) (q : ℕ) (c : Contents) (d : Behind) : Type 0 where
  pub page : c.regs 16 ≡ q
  pub inside : q < p.layout.pages
  pub live : v.live q ≡ true
  pub stands : PagingInvariant p.layout v (paged_view p c.memory d.sectors)
  pub small : (x : ℕ) → x < p.layout.pages → c.memory (p.tables + x) < 2 ^ 32
  pub idle : d.pending ≡ Idle

-- it was
pub record FillDone (p : TableLayout) (v : Pages) (q : ℕ) (c0 : Contents) (d0 : Behind) (c : Contents) (d : Behind) : Type 0 where
  pub stands : PagingInvariant p.layout v (paged_view p c.memory d.sectors)
  pub filled : ByFill p.layout q (paged_view p c0.memory d0.sectors) (paged_view p c.memory d.sectors)
  pub low : (x : ℕ) → x < p.tables → x ≢ hand_at → c.memory x ≡ c0.memory x
  pub above : (x : ℕ) → frames_end p ≤ x → x < BUFFER → c.memory x ≡ c0.memory x
  pub small : (x : ℕ) → x < p.layout.pages → c.memory (p.tables + x) < 2 ^ 32
  pub beyond : (x i : ℕ) → p.layout.pages ≤ x → d.sectors x i ≡ d0.sectors x i
  pub regs : (x : ℕ) → LeftByEviction x → c.regs x ≡ c0.regs x
  pub besides : Besides c0 d0 c d
