-- Which frames pages name after a copy on the machine, of the memory that a layer's image makes with any kernel's code behind it.
use Rattle.std.specs.Prelude.{◌≡◌, ℕ, ◌-◌, ◌<◌, ◌≤◌, ◌⊎◌, ℤ, nat_abs, true, List, slice_index}
use Rattle.mips_table.specs.Device.{Environment}
use Rattle.mips_table.specs.Machine.{State, run}
use Rattle.layer_map.specs.Map.{Map, memory_words}
use Rattle.page_model.specs.Paging.{PagingInvariant}
use Rattle.page_model.specs.TableLayout.{page_layout, table_layout}
use Rattle.cvm_model.specs.Kernel.{Core}
use Rattle.cvm_model.specs.Primitives.{VmCopy, is_good}
use Rattle.cvm_model.specs.Paged.{paged_of, pages_by}
use Rattle.cvm_model.specs.Stands.{Site}
use Rattle.layer_contract.specs.Layer.{BusyWithin, PrimitiveCalled, ComesBack}
use Rattle.cvm_primitives.specs.Copy.{copied}
use Rattle.cvm_primitives.specs.View.{number_of_word, SharesFrame, FourOthers}
use Rattle.cvm_primitives.specs.Sharing.{EndsWhole, last_page}
use Rattle.real_layer.specs.Image.{image_site, IsMade}

-- the number of the word at address a of user u, among the words of all users
abbrev pub word_number : Map → (u a : ℤ) → ℕ
word_number m u a = number_of_word m.params.pages (nat_abs u) (nat_abs a)

-- after a copy of n words from word p to word q the target's last page names the frame of the source's, both by valid entries
abbrev pub SharedIn : Map → (p q n : ℕ) → State → Type 0
SharedIn m p q n t = SharesFrame (table_layout m) (last_page p n) (last_page q n) (slice_index t.memory)

-- the source's last page names a user frame that four pages other than the target's name
abbrev pub FullIn : Map → (p q n : ℕ) → State → Type 0
FullIn m p q n t = FourOthers (table_layout m) (last_page p n) (last_page q n) (slice_index t.memory)

-- A copy of n words from word p to word q, begun in s, is back after so many steps. At a moment of it the machine stands for the users' memories with all
-- words copied but those of the last page; in a copy of one page the map's words are then what they were in s. In the end that page is shared, unless at
-- that moment four other pages named the frame.
pub record LastPage (x : Environment) (m : Map) (c : Core) (p q n : ℕ) (s : State) (steps : ℕ) : Type 0 where
  pub moment : ℕ
  pub within : moment ≤ steps
  pub stands : PagingInvariant (page_layout m) (copied (pages_by m.params.pages c.users) p q (n - 1024)) (paged_of m (run x s moment))
  pub first : n ≡ 1024 → (k : ℕ) → k < memory_words m → slice_index (run x s moment).memory k ≡ slice_index s.memory k
  pub shared : (SharedIn m p q n (run x s steps)) ⊎ (FullIn m p q n (run x s moment))

-- SHARING: a good vm_copy whose last piece is a whole page comes back with that page shared, but where four other pages name the source's frame
abbrev pub CopiesShare : Site → Type 0
CopiesShare y = (x : Environment) (longest : ℕ) (s : State) (c : Core) (u a v b n : ℤ) → BusyWithin x longest → PrimitiveCalled x y c (VmCopy u a v b n) s →
    is_good y.map.params.pages c.users (VmCopy u a v b n) ≡ true → EndsWhole (word_number y.map u a) (word_number y.map v b) (nat_abs n) →
    (back : ComesBack x y longest c (VmCopy u a v b n) s) × LastPage x y.map c (word_number y.map u a) (word_number y.map v b) (nat_abs n) s back.comes.steps

-- it does in the image of the layer
abbrev pub ImageShares : Type 0
ImageShares = (m : Map) (sizes code : List ℕ) → IsMade m sizes code → CopiesShare (image_site m sizes code)
