-- The laws of the way into the kernel and out of it, on runs of code, each up to the instruction that leaves the layer's code.
use Rattle.std.specs.Prelude.{◌≡◌, ◌≢◌, ℕ, ◌+◌, ◌-◌, ◌*◌, ◌/◌, ◌^◌, ◌<◌, ◌≤◌, ◌⊎◌, true, List, length, Some, None}
use Rattle.mips_table.specs.declared.inst.Inst.{Inst}
use Rattle.mips_table.specs.declared.inst.Inst.TheVariants.{Sw, Eret}
use Rattle.mips_table.specs.declared.cause.Cause.TheVariants.{Reset, FetchFault, DataFault}
use Rattle.mips_table.specs.Device.{Idle, BUFFER}
use Rattle.mips_table.specs.Machine.{cause_number}
use Rattle.mips_table.specs.declared.special.TheConstants.{ESR, ECA, EPC, EDATA, PTO, PTL, EMODE}
use Rattle.mips_table.specs.Code.{Contents, Behind, World, at_with, CodeAt, Reaches}
use Rattle.layer_map.specs.Map.{current_at, hand_at, block_at, layer_words}
use Rattle.masm.specs.declared.addresses.TheConstants.{POWER}
use Rattle.masm.specs.declared.roles.TheConstants.{ZERO, T0, T1}
use Rattle.masm.specs.declared.registers.TheConstants.{ARGUMENTS}
use Rattle.layer_map.specs.declared.entries.TheConstants.{ANSWER}
use Rattle.layer_map.specs.declared.places.TheConstants.{BLOCK_SIZE, BLOCK_HI, BLOCK_LO}
use Rattle.masm.specs.Frames.{Besides}
use Rattle.page_model.specs.Paging.{Pages, PagingInvariant}
use Rattle.page_model.specs.Faults.{Brought}
use Rattle.page_model.specs.TableLayout.{TableLayout, frames_end, paged_view}
use Rattle.frame_table.specs.View.{Sited, Ported}
use Rattle.page_fault.specs.Asked.{swap_steps, fault_steps, PageBlock}
use Rattle.pcb_layer.specs.Code.{saved_at}
use Rattle.pcb_layer.specs.Laws.{IsRegister, HasSaveArea, MaySave, IsCurrent, MayKeep, IsBeside}
use Rattle.trap_entry.specs.declared.leaving.TheConstants.{BAD_USER}
use Rattle.trap_entry.specs.Code.{save_and_classify_code, handle_page_fault_code, handler_code, return_to_user_code, act_on_answer_code, exit_with_code}

-- a fetch or data fault of a page below the current user's size
abbrev pub IsHandled : (cause edata pages : ℕ) → Type 0
IsHandled cause edata pages = ((cause ≡ cause_number FetchFault) ⊎ (cause ≡ cause_number DataFault)) × (edata / 4096 < pages)

-- a word that isn't one of the save area
abbrev pub IsUnsaved : ℕ → Type 0
IsUnsaved x = (x < saved_at 1) ⊎ (saved_at 31 < x)

-- from word n the run comes, within so many steps, to word m, where this instruction stands, with Q
pub record RunComesTo (w : World) (steps n m : ℕ) (i : Inst) (c : Contents) (d : Behind) (Q : Contents → Behind → Type 0) : Type 0 where
  pub contents : Contents
  pub behind : Behind
  pub done : Q contents behind
  pub reaches : Reaches w steps (at_with n c d) (at_with m contents behind)
  pub stands : w.code m ≡ Some i

-- a fault of the current user at byte address e may be handled: base is the number of its page 0, the page is below its size, and the machine shows v
pub record FaultAsked (p : TableLayout) (v : Pages) (base e : ℕ) (c : Contents) (d : Behind) : Type 0 where
  pub table : c.special PTO ≡ 4 * (p.tables + base)
  pub edata : c.special EDATA ≡ e
  pub word : e < 2 ^ 32
  pub inside : base + e / 4096 < p.layout.pages
  pub live : v.live (base + e / 4096) ≡ true
  pub stands : PagingInvariant p.layout v (paged_view p c.memory d.sectors)
  pub small : (x : ℕ) → x < p.layout.pages → c.memory (p.tables + x) < 2 ^ 32
  pub idle : d.pending ≡ Idle

-- it was: page q passes for a store, the machine shows the same, and registers, memory below the page tables but the hand and the save area, memory
-- behind the last frame, the sectors past the pages, and all else are as before
pub record FaultDone (p : TableLayout) (v : Pages) (q : ℕ) (c0 : Contents) (d0 : Behind) (c : Contents) (d : Behind) : Type 0 where
  pub stands : PagingInvariant p.layout v (paged_view p c.memory d.sectors)
  pub brought : Brought p.layout q true (paged_view p c0.memory d0.sectors) (paged_view p c.memory d.sectors)
  pub low : (x : ℕ) → x < p.tables → x ≢ hand_at → IsUnsaved x → c.memory x ≡ c0.memory x
  pub above : (x : ℕ) → frames_end p ≤ x → x < BUFFER → c.memory x ≡ c0.memory x
  pub small : (x : ℕ) → x < p.layout.pages → c.memory (p.tables + x) < 2 ^ 32
  pub beyond : (x i : ℕ) → p.layout.pages ≤ x → d.sectors x i ≡ d0.sectors x i
  pub regs : (r : ℕ) → IsRegister r → c.regs r ≡ c0.regs r
  pub besides : Besides c0 d0 c d

-- where the eret of a handled fault stands, in a handler at word n
abbrev pub fault_eret_at : ℕ → TableLayout → List Inst → ℕ
fault_eret_at n p page = n + length save_and_classify_code + 1 + length (handle_page_fault_code p page)

-- HANDLED FAULT: from its start the handler comes to the eret, in a swap for each page that names the frame at the hand, one more, and 85 steps
abbrev pub HandlesFaults : World → Type 0
HandlesFaults w = (p : TableLayout) (b : ℕ) (page : PageBlock w p b) (v : Pages) (base e n : ℕ) (c : Contents) (d : Behind) → Sited p w → Ported p w b
    → MaySave w → CodeAt w n (handler_code p page.code) → IsHandled (c.special ECA) e (c.special PTL) → FaultAsked p v base e c d
    → RunComesTo w (swap_steps p b c.memory + 85) n (fault_eret_at n p page.code) Eret c d (FaultDone p v (base + e / 4096) c d)
    × (swap_steps p b c.memory ≤ fault_steps b)

-- `dispatch` is called for the current user, which is saved
pub record UserEntered (u : ℕ) (c0 : Contents) (d0 : Behind) (c : Contents) (d : Behind) : Type 0 where
  pub cause : c.regs ARGUMENTS ≡ c0.special ECA
  pub edata : c.regs (ARGUMENTS + 1) ≡ c0.special EDATA
  pub user : c.regs (ARGUMENTS + 2) ≡ u
  pub pc : c.memory (block_at u) ≡ c0.special EPC
  pub registers : (r : ℕ) → IsRegister r → c.memory (block_at u + r) ≡ c0.regs r
  pub high : c.memory (block_at u + BLOCK_HI) ≡ c0.hi
  pub low : c.memory (block_at u + BLOCK_LO) ≡ c0.lo
  pub others : (x : ℕ) → IsBeside u x → IsUnsaved x → c.memory x ≡ c0.memory x
  pub special : c.special ≡ c0.special
  pub hi : c.hi ≡ c0.hi
  pub lo : c.lo ≡ c0.lo
  pub behind : d ≡ d0

-- `dispatch` is called after the reset
pub record ResetEntered (c0 : Contents) (d0 : Behind) (c : Contents) (d : Behind) : Type 0 where
  pub cause : c.regs ARGUMENTS ≡ cause_number Reset
  pub edata : c.regs (ARGUMENTS + 1) ≡ c0.special EDATA
  pub user : c.regs (ARGUMENTS + 2) ≡ c0.memory current_at
  pub others : (x : ℕ) → IsUnsaved x → c.memory x ≡ c0.memory x
  pub special : c.special ≡ c0.special
  pub hi : c.hi ≡ c0.hi
  pub lo : c.lo ≡ c0.lo
  pub behind : d ≡ d0

-- ENTER, from a user: all interrupts but handled faults lead to the kernel's first word
abbrev pub EntersKernel : World → Type 0
EntersKernel w = (p : TableLayout) (page : List Inst) (u n : ℕ) (c : Contents) (d : Behind) → length page ≤ 1000 → MaySave w → MayKeep w u → IsCurrent w u c
    → CodeAt w n (handler_code p page) → c.special ECA < 2 ^ 32 → c.special ECA ≢ cause_number Reset
    → (IsHandled (c.special ECA) (c.special EDATA) (c.special PTL) → ⊥) → d.pending ≡ Idle → (c' : Contents) × (d' : Behind) × UserEntered u c d c' d'
    × Reaches w 124 (at_with n c d) (at_with layer_words c' d')

-- ENTER, after the reset
abbrev pub ResetEnters : World → Type 0
ResetEnters w = (p : TableLayout) (page : List Inst) (n : ℕ) (c : Contents) (d : Behind) → length page ≤ 1000 → w.system ≡ true → HasSaveArea w → MaySave w
    → CodeAt w n (handler_code p page) → c.special ECA ≡ cause_number Reset → d.pending ≡ Idle
    → (c' : Contents) × (d' : Behind) × ResetEntered c d c' d' × Reaches w 51 (at_with n c d) (at_with layer_words c' d')

-- user u goes on behind the eret: it is the current one, and the processor is as its control block says
pub record UserReady (p : TableLayout) (per u : ℕ) (c0 : Contents) (d0 : Behind) (c : Contents) (d : Behind) : Type 0 where
  pub current : c.memory current_at ≡ u
  pub others : (x : ℕ) → x ≢ current_at → c.memory x ≡ c0.memory x
  pub registers : (r : ℕ) → IsRegister r → c.regs r ≡ c0.memory (block_at u + r)
  pub high : c.hi ≡ c0.memory (block_at u + BLOCK_HI)
  pub low : c.lo ≡ c0.memory (block_at u + BLOCK_LO)
  pub pc : c.special EPC ≡ c0.memory (block_at u)
  pub table : c.special PTO ≡ 4 * (p.tables + (u - 1) * per)
  pub size : c.special PTL ≡ c0.memory (block_at u + BLOCK_SIZE)
  pub interrupts : c.special ESR ≡ 1
  pub mode : c.special EMODE ≡ 1
  pub special : (k : ℕ) → k ≢ ESR → k ≢ EPC → k ≢ PTO → k ≢ PTL → k ≢ EMODE → c.special k ≡ c0.special k
  pub behind : d ≡ d0

-- a user may go on: it is one of so many, with up to so many pages each
pub record MayGo (w : World) (p : TableLayout) (users per u : ℕ) : Type 0 where
  pub system : w.system ≡ true
  pub some : 1 ≤ u
  pub one : u ≤ users
  pub few : users ≤ 64
  pub least : 1 ≤ per
  pub most : per ≤ 1024
  pub pages : (u - 1) * per ≤ 65536
  pub tables : p.tables ≤ w.words
  pub inside : block_at 65 ≤ w.words
  pub free : w.kept current_at ≡ None

-- the state is as before, but for T0 and T1
pub record PassedOver (c0 : Contents) (d0 : Behind) (c : Contents) (d : Behind) : Type 0 where
  pub regs : (r : ℕ) → r ≢ T0 → r ≢ T1 → c.regs r ≡ c0.regs r
  pub memory : c.memory ≡ c0.memory
  pub special : c.special ≡ c0.special
  pub hi : c.hi ≡ c0.hi
  pub lo : c.lo ≡ c0.lo
  pub behind : d ≡ d0

-- LEAVE, to user u: in 67 steps to the eret
abbrev pub LeavesToUser : World → Type 0
LeavesToUser w = (p : TableLayout) (users per u n : ℕ) (c : Contents) (d : Behind) → MayGo w p users per u → CodeAt w n (act_on_answer_code p users per)
    → c.regs ANSWER ≡ u → d.pending ≡ Idle
    → RunComesTo w 67 n (n + 6 + length (return_to_user_code p per)) Eret c d (UserReady p per u c d)

-- LEAVE, with the answer 0: in 2 steps to the store of a 0 to the power port
abbrev pub LeavesForGood : World → Type 0
LeavesForGood w = (p : TableLayout) (users per n : ℕ) (c : Contents) (d : Behind) → CodeAt w n (act_on_answer_code p users per)
    → c.regs ANSWER ≡ 0 → d.pending ≡ Idle
    → RunComesTo w 2 n (n + 2) (Sw ZERO ZERO POWER) c d (PassedOver c d)

-- LEAVE, with no user's number: in 6 steps to the store of BAD_USER
abbrev pub LeavesBadly : World → Type 0
LeavesBadly w = (p : TableLayout) (users per n : ℕ) (c : Contents) (d : Behind) → users ≤ 64 → CodeAt w n (act_on_answer_code p users per)
    → users < c.regs ANSWER → c.regs ANSWER < 2 ^ 32 → d.pending ≡ Idle
    → RunComesTo w 6 n (n + 8 + length (return_to_user_code p per)) (Sw T0 ZERO POWER) c d (λ c' d'. PassedOver c d c' d' × (c'.regs T0 ≡ BAD_USER))

-- FAULT EXIT: in one step to the store of the fault's power word
abbrev pub ExitsWith : World → Type 0
ExitsWith w = (power n : ℕ) (c : Contents) (d : Behind) → power < 32768 → CodeAt w n (exit_with_code power) → d.pending ≡ Idle
    → RunComesTo w 1 n (n + 1) (Sw T0 ZERO POWER) c d (λ c' d'. PassedOver c d c' d' × (c'.regs T0 ≡ power))
