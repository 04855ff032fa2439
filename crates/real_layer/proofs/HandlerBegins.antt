-- The state in which the handler begins after an interrupt of a user, and that in which `dispatch` is called: the user stands in its control block.
use Rattle.std.proofs.Common.{◌≡◌, ◌≢◌, ℕ, ◌+◌, ◌-◌, ◌*◌, ◌/◌, ◌%◌, ◌≤◌, Bool, true, false, None, nat_lt, get_or, List, length, slice_index, slice_set, refl, sym, ap, ◌∙◌, ⊎_elim, arith, eqb-true, get_or-set_same, get_or-set_other}
use Rattle.std.specs.Prelude.{◌==◌}
use Rattle.std.proofs.lemmas.Bool.{cond-true, cond-false, cases_eq, eqb-false}
use Rattle.mips_table.specs.declared.cause.Cause.{Cause}
use Rattle.mips_table.specs.declared.cause.Cause.TheVariants as causes
use Rattle.mips_table.specs.Processor.{Cpu}
use Rattle.mips_table.specs.Flat.{Flat}
use Rattle.mips_table.specs.Device.{Environment, settled, disk_counted}
use Rattle.mips_table.specs.Machine.{cause_number, State, Interrupt, latched, coming, cleared, interrupted, taken, step_ended, step}
use Rattle.mips_table.specs.Simulation.{Quiet}
use Rattle.mips_table.specs.Borders.{Taken, InterruptsAreTaken}
use Rattle.layer_map.specs.Map.{block_at}
use Rattle.page_model.specs.Paging.{PageLayout, Paged, PagingInvariant}
use Rattle.cvm_model.specs.Kernel.{Core}
use Rattle.cvm_model.specs.Primitives.{no_flat, user_of, with_user, pages_of, register_of}
use Rattle.cvm_model.specs.Paged.{pages_by}
use Rattle.cvm_model.specs.Stands.{Site, block_cpu}
use Rattle.layer_contract.specs.Users.{UserStepPremises, IsTakenAt, UsersAreInterrupted}
use Rattle.cvm_primitives.specs.Blocks.{IsOneOf, BlocksHold, block_word}
use Rattle.real_layer.proofs.StandsByFunctions.{block_reg}

-- user u's control block holds this machine's processor, and its size
pub record BlockHolds (u : ℕ) (f : Flat) (words : ℕ → ℕ) : Type 0 where
  pub pc : words (block_at u) ≡ f.cpu.pc
  pub regs : (r : ℕ) → 1 ≤ r → r ≤ 31 → words (block_at u + r) ≡ slice_index f.cpu.regs r
  pub size : words (block_at u + 32) ≡ pages_of f
  pub hi : words (block_at u + 33) ≡ f.cpu.hi
  pub lo : words (block_at u + 34) ≡ f.cpu.lo

-- each user's does
pub blocks_from : (users : List Flat) (words : ℕ → ℕ) → ((u : ℕ) → IsOneOf users u → BlockHolds u (user_of users u) words) → BlocksHold users words
blocks_from users words h = record {
  registers = λ u r is from to. by u r is from to (r == 32) refl;
  sizes = λ u is. (h u is).size;
  hi = λ u is. (h u is).hi;
  lo = λ u is. (h u is).lo;
}
  where
    by : (u r : ℕ) → IsOneOf users u → 1 ≤ r → r ≤ 32 → (t : Bool) → (r == 32) ≡ t → words (block_word u r) ≡ register_of (user_of users u) r
    by u r is from to true e =
        let last : r ≡ 32 = eqb-true r 32 e in
        let there : block_at u + r % 32 ≡ block_at u = omega arith in
        ap words there ∙ (h u is).pc ∙ sym (cond-true (r == 32) (user_of users u).cpu.pc (slice_index (user_of users u).cpu.regs r) e)
    by u r is from to false e =
        let ne : r ≢ 32 = eqb-false r 32 e in
        let there : block_at u + r % 32 ≡ block_at u + r = omega arith in
        ap words there ∙ (h u is).regs r from (omega arith) ∙ sym (cond-false (r == 32) (user_of users u).cpu.pc (slice_index (user_of users u).cpu.regs r) e)

-- a control block in memory
pub block_from : (memory : List ℕ) (u : ℕ) (f : Flat) → slice_index memory (block_at u + 32) ≡ pages_of f → block_cpu memory u ≡ f.cpu → BlockHolds u f (slice_index memory)
block_from memory u f size cpu = record {
  pc = ap (λ (k : Cpu). k.pc) cpu;
  regs = λ r from to. sym (block_reg memory (block_at u) r from to) ∙ ap (λ (k : Cpu). slice_index k.regs r) cpu;
  size = size;
  hi = ap (λ (k : Cpu). k.hi) cpu;
  lo = ap (λ (k : Cpu). k.lo) cpu;
}

-- in words that agree on the block
pub block_agrees : (u : ℕ) (f : Flat) (g h : ℕ → ℕ) → ((k : ℕ) → block_at u ≤ k → k ≤ block_at u + 34 → h k ≡ g k) → BlockHolds u f g → BlockHolds u f h
block_agrees u f g h same b = record {
  pc = same (block_at u) (omega arith) (omega arith) ∙ b.pc;
  regs = λ r from to. same (block_at u + r) (omega arith) (omega arith) ∙ b.regs r from to;
  size = same (block_at u + 32) (omega arith) (omega arith) ∙ b.size;
  hi = same (block_at u + 33) (omega arith) (omega arith) ∙ b.hi;
  lo = same (block_at u + 34) (omega arith) (omega arith) ∙ b.lo;
}

-- a list of users with one replaced
pub this_user : (users : List Flat) (u : ℕ) (f : Flat) → 1 ≤ u → u ≤ length users → user_of (with_user users u f) u ≡ f
this_user users u f from to = get_or-set_same users (u - 1) f no_flat (omega arith)

pub other_user : (users : List Flat) (u v : ℕ) (f : Flat) → 1 ≤ u → 1 ≤ v → u ≢ v → user_of (with_user users v f) u ≡ user_of users u
other_user users u v f from some ne = get_or-set_other users (v - 1) (u - 1) f no_flat (λ e. ne (omega arith))

-- where the words of the one replaced stay, so do those of each
pub same_words : (users : List Flat) (v : ℕ) (f : Flat) → 1 ≤ v → v ≤ length users → f.words ≡ (user_of users v).words → (u : ℕ) → (user_of (with_user users v f) u).words ≡ (user_of users u).words
same_words users v f from to same u = ⊎_elim
    (λ e. ap (λ i. (get_or (slice_set users (v - 1) f) i no_flat).words) e ∙ ap (λ (g : Flat). g.words) (get_or-set_same users (v - 1) f no_flat (omega arith)) ∙ same ∙ ap (λ i. (get_or users i no_flat).words) (sym e))
    (λ ne. ap (λ (g : Flat). g.words) (get_or-set_other users (v - 1) (u - 1) f no_flat ne))
    (cases_eq (u - 1) (v - 1))

-- pages of users with the same words
pub pages_same : (l : PageLayout) (per : ℕ) (a : Paged) (users others : List Flat) → ((u : ℕ) → (user_of others u).words ≡ (user_of users u).words) → PagingInvariant l (pages_by per users) a → PagingInvariant l (pages_by per others) a
pages_same l per a users others same p = record {
  pages = λ q lt live i in_page. p.pages q lt (ap (λ ws. nat_lt (q % per) (length ws / 1024)) (sym (same (q / per + 1))) ∙ live) i in_page ∙ ap (λ ws. slice_index ws (1024 * (q % per) + i)) (sym (same (q / per + 1)));
  dead = λ q lt dead. p.dead q lt (ap (λ ws. nat_lt (q % per) (length ws / 1024)) (sym (same (q / per + 1))) ∙ dead);
  named = p.named;
  counts = p.counts;
  lists = p.lists;
  few = p.few;
  shared = p.shared;
  zero = p.zero;
  hand = p.hand;
}

-- THE BEGINNING: the handler's first state, by the cause, edata and epc
pub record Began (x : Environment) (s t : State) (cause edata epc : ℕ) : Type 0 where
  pub quiet : Quiet x t
  pub special : t.special ≡ taken s.special cause edata epc
  pub cpu : t.cpu ≡ record s.cpu { pc = 0 }
  pub memory : t.memory ≡ s.memory
  pub device : t.device ≡ s.device
  pub log : t.log ≡ s.log
  pub input : t.input ≡ s.input

cleared_device : (cause : Cause) (s : State) → (cleared cause s).device ≡ s.device
cleared_device causes.Reset s = refl
cleared_device causes.External s = refl
cleared_device other s = refl

cleared_log : (cause : Cause) (s : State) → (cleared cause s).log ≡ s.log
cleared_log causes.Reset s = refl
cleared_log causes.External s = refl
cleared_log other s = refl

cleared_input : (cause : Cause) (s : State) → (cleared cause s).input ≡ s.input
cleared_input causes.Reset s = refl
cleared_input causes.External s = refl
cleared_input other s = refl

pub began : InterruptsAreTaken → UsersAreInterrupted → (x : Environment) (y : Site) (s before : State) (c : Core) (cause : Cause) (edata epc : ℕ) → s.off ≡ None → UserStepPremises x y s c → coming x (latched x s) ≡ Interrupt before cause edata epc → Began x s (step x s) (cause_number cause) edata epc
began takes users x y s before c cause edata epc on p e =
    let t : Taken x s before cause edata epc = takes x s before cause edata epc p.back.stands.fits on e in
    let h : IsTakenAt x s before cause = users x y s c before cause edata epc p e in
    let is : step x s ≡ step_ended (interrupted (latched x s) cause edata epc) = t.is ∙ ap (λ (b : State). step_ended (interrupted b cause edata epc)) h.state in
    record {
      quiet = t.quiet;
      special = ap (λ (z : State). z.special) is;
      cpu = t.cpu;
      memory = t.memory;
      device = ap (λ (z : State). z.device) is ∙ ap disk_counted (cleared_device cause (latched x s)) ∙ ap (λ q. settled q s.device) p.back.stands.idle;
      log = ap (λ (z : State). z.log) is ∙ cleared_log cause (latched x s);
      input = ap (λ (z : State). z.input) is ∙ cleared_input cause (latched x s);
    }
