-- A run of vm_copy by a state on its way: the head of its loop over the pieces, where the last page is left.
use Rattle.std.specs.Prelude.{◌≡◌, ℕ, ◌+◌, ◌-◌, List, length}
use Rattle.mips_table.specs.declared.inst.Inst.{Inst}
use Rattle.mips_table.specs.Device.{Idle}
use Rattle.mips_table.specs.Code.{Contents, Behind, World, CodeState, at_with, Reaches, CodeAt}
use Rattle.page_model.specs.Paging.{Pages}
use Rattle.page_model.specs.TableLayout.{TableLayout}
use Rattle.page_fault.specs.Code.{handle_page_code}
use Rattle.masm.specs.declared.registers.TheConstants.{RETURN}
use Rattle.cvm_primitives.specs.declared.roles.TheConstants.{LENGTH}
use Rattle.cvm_primitives.specs.Copy.{copied}
use Rattle.cvm_primitives.specs.View.{entry_state, PagesHeld}
use Rattle.cvm_primitives.specs.Code.{vm_copy_code}
use Rattle.cvm_primitives.specs.Laws.{EnteredOnPages, GoodCopy, first_word, second_word, copy_steps}
use Rattle.cvm_primitives.specs.Sharing.{EndsWhole, LastShared}

-- from word k, where the block stands, the run comes by a configuration and to the block's end, in so many steps at most, and Q holds of both
abbrev pub Met : World → List Inst → (n k : ℕ) → Contents → Behind → (CodeState → Contents → Behind → Type 0) → Type 0
Met w is n k c d Q = (m : CodeState) × (c' : Contents) × (d' : Behind) × Q m c' d' ×
    Reaches w n (at_with k c d) m × Reaches w n (at_with k c d) (at_with (k + length is) c' d')

-- what a block leads to from one state, and a configuration that it comes by: Q is of that and of the end
pub record Through (w : World) (is : List Inst) (n : ℕ) (c0 : Contents) (d0 : Behind) (Q : CodeState → Contents → Behind → Type 0) : Type 0 where
  pub by : (k : ℕ) (c : Contents) (d : Behind) → CodeAt w k is → (c ≡ c0) × (d ≡ d0) → Met w is n k c d Q

-- how a copy of n words from x to y comes by its last piece, with all words copied but those of the last page, and what its end shows of frames
pub record CopyPassed (p : TableLayout) (v : Pages) (x y n : ℕ) (c : Contents) (d : Behind) (t : CodeState) (c' : Contents) (d' : Behind) : Type 0 where
  pub held : PagesHeld p (copied v x y (n - 1024)) (entry_state c d) t.contents t.behind
  pub first : n ≡ 1024 → t.contents.memory ≡ c.memory
  pub shared : LastShared p x y n c' t.contents.memory
  pub r31 : c'.regs RETURN ≡ c.regs RETURN
  pub idle : d'.pending ≡ Idle

-- vm_copy with good arguments, whose last piece is a whole page, comes by that piece
abbrev pub CopyPasses : World → Type 0
CopyPasses w = (p : TableLayout) (b users per : ℕ) (size : ℕ → ℕ) (v : Pages) (c : Contents) (d : Behind) →
    EnteredOnPages w p b users per size v c d → GoodCopy users size c → EndsWhole (first_word per c) (second_word per c) (c.regs LENGTH) →
    Through w (vm_copy_code p users per (handle_page_code p)) (copy_steps p b per c) c d
    (CopyPassed p v (first_word per c) (second_word per c) (c.regs LENGTH) c d)
