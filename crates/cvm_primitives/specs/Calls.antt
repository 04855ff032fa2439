-- Calls of the primitives on memory, as the abstract machine has them: what they are entered with, and what they leave.
use Rattle.std.specs.Prelude.{◌≡◌, ◌≢◌, ℕ, ◌+◌, ◌-◌, ◌*◌, ◌^◌, ◌<◌, ◌≤◌, List, [], ◌∷◌, length, true, None}
use Rattle.mips_table.specs.Arith.{signed}
use Rattle.mips_table.specs.Device.{Idle, BUFFER}
use Rattle.mips_table.specs.Flat.{Flat}
use Rattle.mips_table.specs.declared.inst.Inst.{Inst}
use Rattle.mips_table.specs.Code.{Contents, Behind, World}
use Rattle.layer_map.specs.Map.{block_at, hand_at}
use Rattle.layer_map.specs.declared.entries.TheConstants.{ANSWER}
use Rattle.layer_map.specs.declared.places.TheConstants.{BLOCK_SIZE}
use Rattle.masm.specs.declared.registers.TheConstants.{GLOBALS, RETURN}
use Rattle.masm.specs.Laws.{From}
use Rattle.page_model.specs.Paging.{PagingInvariant}
use Rattle.page_model.specs.TableLayout.{TableLayout, frames_end, paged_view}
use Rattle.frame_table.specs.View.{Sited, Ported}
use Rattle.page_fault.specs.Code.{handle_page_code}
use Rattle.cvm_model.specs.Kernel.{flat}
use Rattle.cvm_model.specs.Primitives.{KernelCall, VmWord, VmPut, VmCopy, VmResize, Given, user_of, pages_of, is_good, prim}
use Rattle.cvm_model.specs.Paged.{pages_by}
use Rattle.cvm_model.specs.Stands.{UserFits}
use Rattle.cvm_primitives.specs.Blocks.{IsOneOf, BlocksHold, console_of}
use Rattle.cvm_primitives.specs.declared.roles.TheConstants.{USER, ADDRESS, ASKED_SIZE, VALUE, TARGET_USER, TARGET_ADDRESS, LENGTH}
use Rattle.cvm_primitives.specs.View.{steps_of_page, entry_state, PagesHeld, Fresh}
use Rattle.cvm_primitives.specs.Code.{vm_word_code, vm_put_code, vm_copy_code, vm_resize_code}

-- What a call is entered with: at most 64 users of at most so many pages each, whose pages the machine shows and whose control blocks hold
-- them; the disk and all that paging needs; the words of sizes may be written.
pub record CallEntered (w : World) (p : TableLayout) (b most : ℕ) (users : List Flat) (c : Contents) (d : Behind) : Type 0 where
  pub sited : Sited p w
  pub ported : Ported p w b
  pub held : PagesHeld p (pages_by most users) (entry_state c d) c d
  pub few : length users ≤ 64
  pub some : 1 ≤ most
  pub limit : most ≤ 1024
  pub shape : p.layout.pages ≡ length users * most
  pub blocks : BlocksHold users c.memory
  pub each : (u : ℕ) → IsOneOf users u → UserFits most (user_of users u)
  pub free : (u : ℕ) → IsOneOf users u → w.kept (block_at u + BLOCK_SIZE) ≡ None
  pub regs : (r : ℕ) → c.regs r < 2 ^ 32

-- What it leaves: its answer, and the users and the console after it. All words below the page tables but the hand and the users' sizes, those behind
-- the last frame, the special registers, registers 28 to 31 and the sectors past the pages stay; entries are words; and no command is under way.
pub record CallLeft (p : TableLayout) (per : ℕ) (users : List Flat) (g : Given) (c0 : Contents) (d0 : Behind) (c : Contents) (d : Behind) : Type 0 where
  pub answer : flat (λ _. 0) g.answer ≡ c.regs ANSWER ∷ []
  pub stands : PagingInvariant p.layout (pages_by per g.users) (paged_view p c.memory d.sectors)
  pub blocks : BlocksHold g.users c.memory
  pub log : d.log ≡ g.console.log
  pub input : d.input ≡ g.console.input
  pub words : (x : ℕ) → x < p.tables → x ≢ hand_at → ((u : ℕ) → IsOneOf users u → x ≢ block_at u + BLOCK_SIZE) → c.memory x ≡ c0.memory x
  pub above : (x : ℕ) → frames_end p ≤ x → x < BUFFER → c.memory x ≡ c0.memory x
  pub small : (x : ℕ) → x < p.layout.pages → c.memory (p.tables + x) < 2 ^ 32
  pub special : c.special ≡ c0.special
  pub regs : (r : ℕ) → GLOBALS ≤ r → r ≤ RETURN → c.regs r ≡ c0.regs r
  pub past : (q i : ℕ) → p.layout.pages ≤ q → d.sectors q i ≡ d0.sectors q i
  pub idle : d.pending ≡ Idle

-- what a call is worth: 600 steps for each word and page, those of its pages, and 600 for the call itself, less the jump of its entry and its return
abbrev pub call_steps : TableLayout → ℕ → Given → ℕ
call_steps p b g = 598 + 600 * (g.words + g.pages) + steps_of_page p.layout.pages b * g.pages

-- the calls, with their arguments as registers hold them
abbrev pub word_call : Contents → KernelCall
word_call c = VmWord (signed (c.regs USER)) (signed (c.regs ADDRESS))

abbrev pub put_call : Contents → KernelCall
put_call c = VmPut (signed (c.regs USER)) (signed (c.regs ADDRESS)) (signed (c.regs VALUE))

abbrev pub copy_call : Contents → KernelCall
copy_call c = VmCopy (signed (c.regs USER)) (signed (c.regs ADDRESS)) (signed (c.regs TARGET_USER)) (signed (c.regs TARGET_ADDRESS)) (signed (c.regs LENGTH))

abbrev pub resize_call : Contents → KernelCall
resize_call c = VmResize (signed (c.regs USER)) (signed (c.regs ASKED_SIZE))

-- what a call comes to
abbrev pub call_given : ℕ → List Flat → Behind → KernelCall → Given
call_given most users d call = prim most call users (console_of d)

-- by this code the call takes at most what it is worth, and comes to what is said of it, whatever its arguments are
abbrev pub AnswersOnPages : World → List Inst → KernelCall → TableLayout → (b most : ℕ) → List Flat → Contents → Behind → Type 0
AnswersOnPages w code call p b most users c d =
    From w code (call_steps p b (call_given most users d call)) c d (CallLeft p most users (call_given most users d call) c d)

-- the pages by which a good vm_resize makes a memory grow name the zero frame
abbrev pub Grown : TableLayout → ℕ → List Flat → Contents → Contents → Type 0
Grown p most users c c' = is_good most users (resize_call c) ≡ true →
    Fresh p ((c.regs USER - 1) * most + pages_of (user_of users (c.regs USER))) (c.regs ASKED_SIZE - pages_of (user_of users (c.regs USER))) c'

-- vm_word, vm_put, vm_copy and vm_resize, the last with what its new pages name
pub record PageCallsAnswer (w : World) (p : TableLayout) (b most : ℕ) (users : List Flat) (c : Contents) (d : Behind) : Type 0 where
  pub word : AnswersOnPages w (vm_word_code p (length users) most (handle_page_code p)) (word_call c) p b most users c d
  pub put : AnswersOnPages w (vm_put_code p (length users) most (handle_page_code p)) (put_call c) p b most users c d
  pub copy : AnswersOnPages w (vm_copy_code p (length users) most (handle_page_code p)) (copy_call c) p b most users c d
  pub resize : From w (vm_resize_code p (length users) most) (call_steps p b (call_given most users d (resize_call c))) c d
      (λ c' d'. CallLeft p most users (call_given most users d (resize_call c)) c d c' d' × Grown p most users c c')

-- they do from wherever they are entered
abbrev pub MemoryAnswers : World → Type 0
MemoryAnswers w = (p : TableLayout) (b most : ℕ) (users : List Flat) (c : Contents) (d : Behind) →
    CallEntered w p b most users c d → PageCallsAnswer w p b most users c d
