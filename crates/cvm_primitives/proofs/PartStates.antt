-- What the parts of the primitives are entered with, and what they lead to.
use Rattle.std.specs.Prelude.{◌≡◌, ℕ, ◌+◌, ◌-◌, ◌*◌, ◌/◌, ◌%◌, ◌^◌, ◌<◌, ◌≤◌, ◌⊎◌, Bool, true, false, List, None}
use Rattle.mips_table.specs.declared.inst.Inst.{Inst}
use Rattle.mips_table.specs.Device.{Idle, BUFFER}
use Rattle.mips_table.specs.Code.{Contents, Behind, World, Does}
use Rattle.page_model.specs.Paging.{IsUserFrame, IsFrame, MapsTo, Pages, IsAccessible}
use Rattle.page_model.specs.Edits.{Retargeted}
use Rattle.page_model.specs.Faults.{Brought}
use Rattle.page_model.specs.Rows.{InList}
use Rattle.page_model.specs.TableLayout.{TableLayout, count_at, frames_end, paged_view}
use Rattle.cvm_primitives.specs.Copy.{copied, Apart, piece}
use Rattle.cvm_primitives.specs.View.{steps_of_page, EntryState, PagesHeld, Marks, CopyGood}

-- a turn of vm_copy: one piece
abbrev pub PieceLaw : World → TableLayout → ℕ → List Inst → EntryState → Type 0
PieceLaw w p b code g = (u : Pages) (x y n : ℕ) → 0 < n → CopyGood p.layout u x y n
    → Does w code (3 * steps_of_page p.layout.pages b + 600 * piece x y n - 2) (λ c d. PagesHeld p u g c d × Marks x y n c)
    (λ c d. PagesHeld p (copied u x y (piece x y n)) g c d × Marks (x + piece x y n) (y + piece x y n) (n - piece x y n) c)

-- the registers that hold what a primitive has in hand stay, and the special registers
pub record Keeps (c0 c : Contents) : Type 0 where
  pub r13 : c.regs 13 ≡ c0.regs 13
  pub r14 : c.regs 14 ≡ c0.regs 14
  pub r15 : c.regs 15 ≡ c0.regs 15
  pub r16 : c.regs 16 ≡ c0.regs 16
  pub r26 : c.regs 26 ≡ c0.regs 26
  pub r27 : c.regs 27 ≡ c0.regs 27
  pub r28 : c.regs 28 ≡ c0.regs 28
  pub r29 : c.regs 29 ≡ c0.regs 29
  pub r30 : c.regs 30 ≡ c0.regs 30
  pub r31 : c.regs 31 ≡ c0.regs 31
  pub special : c.special ≡ c0.special

-- FIND: the entry e of page q
pub record Found (p : TableLayout) (q : ℕ) (c0 : Contents) (d0 : Behind) (c : Contents) (d : Behind) : Type 0 where
  pub entry : c.regs 20 ≡ 4 * (p.tables + q)
  pub named : c.regs 21 ≡ c0.memory (p.tables + q) / 4096
  pub valid : c.regs 24 ≡ c0.memory (p.tables + q) / 2048 % 2
  pub keeps : Keeps c0 c
  pub memory : c.memory ≡ c0.memory
  pub disk : d ≡ d0

-- DROP: what is asked, and what is done
pub record DropAsked (p : TableLayout) (q : ℕ) (c : Contents) (d : Behind) : Type 0 where
  pub page : c.regs 16 ≡ q
  pub inside : q < p.layout.pages
  pub small : (x : ℕ) → x < p.layout.pages → c.memory (p.tables + x) < 2 ^ 32
  pub named : (f : ℕ) → MapsTo (c.memory (p.tables + q)) f → IsFrame p.layout f
  pub few : (f : ℕ) → IsUserFrame p.layout f → c.memory (count_at p f) ≤ 4
  pub list : (f : ℕ) → IsUserFrame p.layout f → MapsTo (c.memory (p.tables + q)) f → (k : ℕ) × InList p q f k c.memory
  pub idle : d.pending ≡ Idle

pub record DropDone (p : TableLayout) (q : ℕ) (c0 : Contents) (d0 : Behind) (c : Contents) (d : Behind) : Type 0 where
  pub gone : c.memory (p.tables + q) / 2048 % 2 ≡ 0
  pub edit : Retargeted p.layout q (c.memory (p.tables + q)) (paged_view p c0.memory d0.sectors) (paged_view p c.memory d.sectors)
  pub low : (x : ℕ) → x < p.tables → c.memory x ≡ c0.memory x
  pub above : (x : ℕ) → frames_end p ≤ x → x < BUFFER → c.memory x ≡ c0.memory x
  pub small : (x : ℕ) → x < p.layout.pages → c.memory (p.tables + x) < 2 ^ 32
  pub keeps : Keeps c0 c
  pub disk : d ≡ d0

-- COPY: n words from word a of memory were copied to word b
pub record Moved (a b n : ℕ) (c0 : Contents) (d0 : Behind) (c : Contents) (d : Behind) : Type 0 where
  pub words : (k : ℕ) → k < n → c.memory (b + k) ≡ c0.memory (a + k)
  pub others : (x : ℕ) → (x < b) ⊎ (b + n ≤ x) → c.memory x ≡ c0.memory x
  pub keeps : Keeps c0 c
  pub disk : d ≡ d0

-- LOCATE
pub record Located (p : TableLayout) (z : ℕ) (c0 : Contents) (d0 : Behind) (c : Contents) (d : Behind) : Type 0 where
  pub address : c.regs 8 ≡ 4 * (1024 * (c0.memory (p.tables + z / 1024) / 4096) + z % 1024)
  pub r1 : c.regs 1 ≡ c0.regs 1
  pub memory : c.memory ≡ c0.memory
  pub keeps : Keeps c0 c
  pub disk : d ≡ d0

-- a page was brought in
pub record Came (p : TableLayout) (u : Pages) (g : EntryState) (q : ℕ) (store : Bool) (c0 : Contents) (d0 : Behind) (c : Contents) (d : Behind) : Type 0 where
  pub held : PagesHeld p u g c d
  pub brought : Brought p.layout q store (paged_view p c0.memory d0.sectors) (paged_view p c.memory d.sectors)
  pub stays : IsAccessible (paged_view p c0.memory d0.sectors) q store → c.memory (p.tables + q) ≡ c0.memory (p.tables + q)
  pub keeps : Keeps c0 c

-- the pages of words x and y can be read and stored to
pub record BothIn (p : TableLayout) (u : Pages) (g : EntryState) (x y : ℕ) (c0 : Contents) (c : Contents) (d : Behind) : Type 0 where
  pub held : PagesHeld p u g c d
  pub source : IsAccessible (paged_view p c.memory d.sectors) (x / 1024) false
  pub target : IsAccessible (paged_view p c.memory d.sectors) (y / 1024) true
  pub r13 : c.regs 13 ≡ c0.regs 13
  pub r26 : c.regs 26 ≡ c0.regs 26
  pub r27 : c.regs 27 ≡ c0.regs 27
  pub r14 : c.regs 14 ≡ c0.regs 14

-- nothing changed but registers that aren't in hand
pub record Quiet (c0 : Contents) (d0 : Behind) (c : Contents) (d : Behind) : Type 0 where
  pub memory : c.memory ≡ c0.memory
  pub special : c.special ≡ c0.special
  pub r22 : c.regs 22 ≡ c0.regs 22
  pub r28 : c.regs 28 ≡ c0.regs 28
  pub r29 : c.regs 29 ≡ c0.regs 29
  pub r30 : c.regs 30 ≡ c0.regs 30
  pub r31 : c.regs 31 ≡ c0.regs 31
  pub disk : d ≡ d0

-- what stays while arguments are tested
pub record Tests (c0 : Contents) (d0 : Behind) (c : Contents) (d : Behind) : Type 0 where
  pub memory : c.memory ≡ c0.memory
  pub special : c.special ≡ c0.special
  pub r2 : c.regs 2 ≡ c0.regs 2
  pub r22 : c.regs 22 ≡ c0.regs 22
  pub r23 : c.regs 23 ≡ c0.regs 23
  pub r26 : c.regs 26 ≡ c0.regs 26
  pub r14 : c.regs 14 ≡ c0.regs 14
  pub r28 : c.regs 28 ≡ c0.regs 28
  pub r29 : c.regs 29 ≡ c0.regs 29
  pub r30 : c.regs 30 ≡ c0.regs 30
  pub r31 : c.regs 31 ≡ c0.regs 31
  pub disk : d ≡ d0
