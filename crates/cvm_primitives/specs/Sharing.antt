-- A copy that ends with a whole page: how its run comes to that page, and whose frame the page names in the end.
use Rattle.std.specs.Prelude.{◌≡◌, ℕ, ◌+◌, ◌-◌, ◌/◌, ◌%◌, ◌≤◌, ◌⊎◌, List, length}
use Rattle.mips_table.specs.declared.inst.Inst.{Inst}
use Rattle.mips_table.specs.Code.{Contents, Behind, World, Reaches, at_with, CodeAt}
use Rattle.masm.specs.Laws.{From}
use Rattle.page_model.specs.Paging.{Pages}
use Rattle.page_model.specs.TableLayout.{TableLayout}
use Rattle.page_fault.specs.Code.{handle_page_code}
use Rattle.cvm_primitives.specs.declared.roles.TheConstants.{LENGTH}
use Rattle.cvm_primitives.specs.Copy.{copied}
use Rattle.cvm_primitives.specs.View.{entry_state, PagesHeld, Marks, SharesFrame, FourOthers}
use Rattle.cvm_primitives.specs.Code.{vm_copy_code, pieces_code}
use Rattle.cvm_primitives.specs.Laws.{EnteredOnPages, GoodCopy, PrimitiveAnswered, first_word, second_word, copy_steps}

-- the last of n words end a page on both sides and fill it: the last piece is a whole page
abbrev pub EndsWhole : (x y n : ℕ) → Type 0
EndsWhole x y n = (1024 ≤ n) × ((x + n) % 1024 ≡ 0) × ((y + n) % 1024 ≡ 0)

-- the page of the last 1024 of n words from z on
abbrev pub last_page : ℕ → ℕ → ℕ
last_page z n = (z + (n - 1024)) / 1024

-- The last pages of a copy of n words: the target's page names the source's frame in the end, c, unless that was a user frame that four other
-- pages named when the last piece began, with this memory.
abbrev pub LastShared : TableLayout → (x y n : ℕ) → Contents → (ℕ → ℕ) → Type 0
LastShared p x y n c m = (SharesFrame p (last_page x n) (last_page y n) c.memory) ⊎ (FourOthers p (last_page x n) (last_page y n) m)

-- How a copy of n words from x to y, begun in c and d, comes to its end, c' and d': with the memory and the disk as they were the loop over the pieces,
-- which stands at `place`, is entered; it comes to its head with all words copied but those of the last page; and from there it ends.
pub record LastPieceShares (w : World) (p : TableLayout) (page : List Inst) (v : Pages) (x y n steps : ℕ) (c : Contents) (d : Behind) (c' : Contents)
    (d' : Behind) : Type 0 where
  pub place : ℕ
  pub stands : CodeAt w place (pieces_code p page)
  pub entry : Contents
  pub memory : entry.memory ≡ c.memory
  pub marks : Marks x y n entry
  pub last : Contents
  pub disk : Behind
  pub held : PagesHeld p (copied v x y (n - 1024)) (entry_state c d) last disk
  pub left : Marks (x + (n - 1024)) (y + (n - 1024)) 1024 last
  pub comes : Reaches w steps (at_with place entry d) (at_with place last disk)
  pub ends : Reaches w steps (at_with place last disk) (at_with (place + length (pieces_code p page)) c' d')
  pub shared : LastShared p x y n c' last.memory

-- what such a copy answers, and its last piece
abbrev pub LastAnswered : (w : World) → TableLayout → (b per : ℕ) → Pages → Contents → Behind → Contents → Behind → Type 0
LastAnswered w p b per v c d c' d' = PrimitiveAnswered p (copied v (first_word per c) (second_word per c) (c.regs LENGTH)) (entry_state c d) 1 c' d' ×
    LastPieceShares w p (handle_page_code p) v (first_word per c) (second_word per c) (c.regs LENGTH) (copy_steps p b per c) c d c' d'

-- vm_copy with good arguments, whose last piece is a whole page
abbrev pub CopyShares : World → Type 0
CopyShares w = (p : TableLayout) (b users per : ℕ) (size : ℕ → ℕ) (v : Pages) (c : Contents) (d : Behind) →
    EnteredOnPages w p b users per size v c d → GoodCopy users size c → EndsWhole (first_word per c) (second_word per c) (c.regs LENGTH) →
    From w (vm_copy_code p users per (handle_page_code p)) (copy_steps p b per c) c d (LastAnswered w p b per v c d)
