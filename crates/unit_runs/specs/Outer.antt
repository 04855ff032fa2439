-- What of a machine isn't the kernel's own data: the users' processors and pages, the console, and the words that stay as they were linked.
use Rattle.std.specs.Prelude.{◌≡◌, ℕ, ◌+◌, ◌<◌, ◌≤◌, false, length, slice_index, All}
use Rattle.mips_table.specs.Code.{Contents, Behind}
use Rattle.mips_table.specs.Machine.{LOG_ROOM}
use Rattle.mips_table.specs.Processor.{Cpu}
use Rattle.layer_map.specs.Map.{current_at, heap_words_at, stack_limit_at, block_at}
use Rattle.layer_map.specs.declared.places.TheConstants.{BLOCK_SIZE, BLOCK_HI, BLOCK_LO}
use Rattle.page_model.specs.Paging.{PagingInvariant}
use Rattle.page_model.specs.TableLayout.{page_layout, table_layout, paged_view}
use Rattle.cvm_model.specs.KernelMeaning.{Machines}
use Rattle.cvm_model.specs.Primitives.{user_of, pages_of}
use Rattle.cvm_model.specs.Paged.{pages_by}
use Rattle.cvm_model.specs.Stands.{Site, UserFits, input_room, is_own}

-- the control block of user u has these registers
pub record BlockIs (m : ℕ → ℕ) (u : ℕ) (cpu : Cpu) : Type 0 where
  pub pc : m (block_at u) ≡ cpu.pc
  pub regs : (r : ℕ) → 1 ≤ r → r < 32 → m (block_at u + r) ≡ slice_index cpu.regs r
  pub hi : m (block_at u + BLOCK_HI) ≡ cpu.hi
  pub lo : m (block_at u + BLOCK_LO) ≡ cpu.lo

-- Users and console stand in the machine, where the kernel runs for user `current`. No word of the kernel's data is looked at.
pub record Outer (y : Site) (current : ℕ) (v : Machines) (c : Contents) (d : Behind) : Type 0 where
  pub most : v.most ≡ y.map.params.pages
  pub count : length v.users ≡ y.map.users
  pub each : All (UserFits y.map.params.pages) v.users
  pub sizes : (u : ℕ) → 1 ≤ u → u ≤ length v.users → c.memory (block_at u + BLOCK_SIZE) ≡ pages_of (user_of v.users u)
  pub blocks : (u : ℕ) → 1 ≤ u → u ≤ length v.users → BlockIs c.memory u (user_of v.users u).cpu
  pub user : c.memory current_at ≡ current
  pub places : (k : ℕ) → heap_words_at ≤ k → k ≤ stack_limit_at → c.memory k ≡ slice_index y.linked k
  pub linked : (k : ℕ) → k < length y.linked → is_own y.map k ≡ false → c.memory k ≡ slice_index y.linked k
  pub pages : PagingInvariant (page_layout y.map) (pages_by y.map.params.pages v.users) (paged_view (table_layout y.map) c.memory d.sectors)
  pub log_room : length v.console.log ≤ LOG_ROOM
  pub input_few : length v.console.input ≤ input_room
  pub log : d.log ≡ v.console.log
  pub input : d.input ≡ v.console.input
