-- Each dispatch of a run for a trap comes of a step of a user's machine, its data tell what went on there, and the machine is left as it was but for its pc.
use Rattle.std.proofs.Common.{◌≡◌, ℕ, zero, suc, ◌≤◌, List, [], ◌++◌, Bool, true, false, Option, Some, None, refl, sym, ap, ◌∙◌, subst, arith}
use Rattle.std.specs.Prelude.{bit_or, not, ◌==◌, if◌then◌else◌, slice_index}
use Rattle.std.proofs.lemmas.List.{append-nil}
use Rattle.mips_table.specs.declared.cause.Cause.{Cause}
use Rattle.mips_table.specs.declared.cause.Cause.TheVariants as causes
use Rattle.mips_table.specs.declared.effect.Effect.{Effect}
use Rattle.mips_table.specs.declared.effect.Effect.TheVariants as effects
use Rattle.mips_table.specs.declared.inst.Inst.{Inst}
use Rattle.mips_table.specs.declared.inst.Inst.TheVariants as insts
use Rattle.mips_table.specs.Arith.{sum_overflows, difference_overflows, extended}
use Rattle.mips_table.specs.Decoding.{decoding}
use Rattle.mips_table.specs.Effect.{effect_of}
use Rattle.mips_table.specs.Processor.{Move, Loaded, Stored, Trapped, is_aligned, accessed, advanced, performed, effect_on, executed}
use Rattle.mips_table.specs.Flat.{Flat, VStep, Goes, Trap, is_inside, flat_access, word_at, after_move, vstep}
use Rattle.cvm_model.specs.Kernel.{Core}
use Rattle.cvm_model.specs.Primitives.{user_of}
use Rattle.cvm_model.specs.Cvm.{System, Cvm, Status, Running, Halted, Faulted, Interrupts, user_step, begin, cvm}
use Rattle.cvm_model.specs.Invariant.{Dispatch, IsTrap, of_begin, of_status, of_turn, dispatches_of}
use Rattle.kernel_theorems.specs.History.{EachHas}
use Rattle.kernel_theorems.specs.Traps.{TrapTells, left_by, IsOfStep, StepsTell, StepsLeave, TrapsComeOfSteps}
use Rattle.kernel_theorems.proofs.ComputedDispatches.{each_more}

-- what a step's data tell and what it leaves, where it traps
record Told (f after : Flat) (cause : Cause) (edata : ℕ) : Type 0 where
  tells : TrapTells f cause edata
  leaves : after ≡ left_by f cause

abbrev ToldOf : Flat → VStep → Type 0
ToldOf f (Goes g) = Unit {0}
ToldOf f (Trap g cause edata) = Told f g cause edata

accessed_told : (f : Flat) (misaligned refused : Cause) (address : ℕ) (m : Move) → (is_aligned address ≡ false → Told f f misaligned address)
    → (is_aligned address ≡ true → is_inside f.words address ≡ false → Told f f refused address) → ToldOf f (after_move f m)
    → ToldOf f (after_move f (accessed (is_inside f.words address) misaligned refused address f.cpu.pc m))
accessed_told f a b address m ha hb h = by (is_aligned address) refl (is_inside f.words address) refl
  where
    by : (aligned : Bool) → is_aligned address ≡ aligned → (may : Bool) → is_inside f.words address ≡ may
        → ToldOf f (after_move f (if not aligned then Trapped a address f.cpu.pc else if not may then Trapped b address f.cpu.pc else m))
    by false e may g = ha e
    by true e false g = hb e g
    by true e true g = h

-- an effect is that of a system call where its instruction is one
abbrev IsCall : Inst → Effect → Type 0
IsCall i effects.Call = (code : ℕ) × (i ≡ insts.Syscall code)
IsCall i other = Unit {0}

either : (i : Inst) (b : Bool) (e g : Effect) → IsCall i e → IsCall i g → IsCall i (if b then e else g)
either i true e g he hg = he
either i false e g he hg = hg

call_of : (i : Inst) (pc : ℕ) (reg : ℕ → ℕ) (hi lo : ℕ) → IsCall i (effect_of i pc reg hi lo)
call_of (insts.Syscall code) pc reg hi lo = (code, refl)
call_of (insts.Add rd rs rt) pc reg hi lo = either _ (sum_overflows (reg rs) (reg rt)) _ _ tt tt
call_of (insts.Sub rd rs rt) pc reg hi lo = either _ (difference_overflows (reg rs) (reg rt)) _ _ tt tt
call_of (insts.Addi rt rs imm) pc reg hi lo = either _ (sum_overflows (reg rs) (extended imm)) _ _ tt tt
call_of (insts.Div rs rt) pc reg hi lo = either _ (reg rt == 0) _ _ tt tt
call_of (insts.Divu rs rt) pc reg hi lo = either _ (reg rt == 0) _ _ tt tt
call_of other pc reg hi lo = tt

-- where the word at the pc is this instruction
performed_told : (f : Flat) (i : Inst) (e : Effect) → decoding (word_at f.words f.cpu.pc) ≡ Some i → IsCall i e
    → ToldOf f (after_move f (performed (flat_access f.words) f.cpu (word_at f.words f.cpu.pc) e))
performed_told f i (effects.Set r v to) is call = tt
performed_told f i (effects.Wide hi lo to) is call = tt
performed_told f i (effects.Load r address) is call =
    accessed_told f causes.DataAlign causes.DataFault address (Loaded (advanced f.cpu) r address) (λ e. record { tells = e; leaves = refl }) (λ e g. record { tells = (e, g); leaves = refl }) tt
performed_told f i (effects.Store address v) is call =
    accessed_told f causes.DataAlign causes.DataFault address (Stored (advanced f.cpu) address v) (λ e. record { tells = e; leaves = refl }) (λ e g. record { tells = (e, g); leaves = refl }) tt
performed_told f i effects.Overflow is call = record { tells = refl; leaves = refl }
performed_told f i effects.Call is call = record { tells = (refl, (call.0, is ∙ ap Some call.1)); leaves = refl }
performed_told f i effects.System is call = record { tells = refl; leaves = refl }

executed_told : (f : Flat) (o : Option Inst) → decoding (word_at f.words f.cpu.pc) ≡ o → ToldOf f (after_move f (executed (flat_access f.words) f.cpu (word_at f.words f.cpu.pc) o))
executed_told f None is = record { tells = refl; leaves = refl }
executed_told f (Some i) is = performed_told f i (effect_on i f.cpu) is (call_of i f.cpu.pc (slice_index f.cpu.regs) f.cpu.hi f.cpu.lo)

step_told : (f : Flat) → ToldOf f (vstep f)
step_told f =
    let w : ℕ = word_at f.words f.cpu.pc in
    accessed_told f causes.FetchAlign causes.FetchFault f.cpu.pc (executed (flat_access f.words) f.cpu w (decoding w))
    (λ e. record { tells = (refl, e); leaves = refl }) (λ e g. record { tells = (refl, e, g); leaves = refl }) (executed_told f (decoding w) refl)

-- the data of a reset or of a line tell nothing, so what tells is a trap
is_trap : (f : Flat) (cause : Cause) (edata : ℕ) → TrapTells f cause edata → IsTrap cause
is_trap f causes.Reset edata h = h
is_trap f causes.External edata h = h
is_trap f other edata h = tt

told : (f after : Flat) (cause : Cause) (edata : ℕ) → vstep f ≡ Trap after cause edata → Told f after cause edata
told f after cause edata e = subst (ToldOf f) e (step_told f)

-- each dispatch of a run
abbrev Traps : List Dispatch → Dispatch → Type 0
Traps past d = 2 ≤ d.cause → IsOfStep d

abbrev Each : List Dispatch → List Dispatch → Type 0
Each past these = EachHas Traps [] past → EachHas Traps [] (past ++ these)

none : (past : List Dispatch) → Each past []
none past h = subst (EachHas Traps []) (sym (append-nil past)) h

of_step : (y : System) (n k : ℕ) (past : List Dispatch) (c : Core) (v : VStep) → vstep (user_of c.users c.current) ≡ v → Each past (of_begin y n k (user_step c v))
of_step y n k past c (Goes f) e = none past
of_step y n k past c (Trap f cause edata) e =
    let tells : TrapTells (user_of c.users c.current) cause edata = (told (user_of c.users c.current) f cause edata e).tells in
    λ h. each_more Traps [] past _ h (λ trap. record {
      core = c;
      cause = cause;
      number = refl;
      came = record { after = f; stepped = e; left = refl; is = is_trap (user_of c.users c.current) cause edata tells };
      tells = tells;
    })

of_begins : (y : System) (n k : ℕ) (past : List Dispatch) (c : Core) (lines : ℕ) → Each past (of_begin y n k (begin k c lines))
of_begins y n zero past c lines = λ h. each_more Traps [] past _ h (λ trap. absurd (omega (arith, trap)))
of_begins y n (suc k) past c lines = by (lines == 0)
  where
    by : (b : Bool) → Each past (of_begin y n (suc k) (if b then user_step c (vstep (user_of c.users c.current)) else Interrupts 1 lines c 0))
    by true = of_step y n (suc k) past c (vstep (user_of c.users c.current)) refl
    by false = λ h. each_more Traps [] past _ h (λ trap. absurd (omega (arith, trap)))

of_statuses : (y : System) (n k lines : ℕ) (past : List Dispatch) (c : Cvm) (s : Status) → Each past (of_status y n k lines c s)
of_statuses y n k lines past c Running = of_begins y n k past c.core (bit_or c.pending lines)
of_statuses y n k lines past c Halted = none past
of_statuses y n k lines past c (Faulted f) = none past

of_turns : (y : System) (n k lines : ℕ) (past : List Dispatch) (o : Option Cvm) → Each past (of_turn y n k lines o)
of_turns y n k lines past None = none past
of_turns y n k lines past (Some c) = of_statuses y n k lines past c c.status

pub steps_tell : StepsTell
steps_tell f after cause edata e = (told f after cause edata e).tells

pub steps_leave : StepsLeave
steps_leave f after cause edata e = (told f after cause edata e).leaves

pub traps_come_of_steps : TrapsComeOfSteps
traps_come_of_steps y lines n zero = tt
traps_come_of_steps y lines n (suc k) = of_turns y n k (lines k) (dispatches_of y lines n k) (cvm y lines n k) (traps_come_of_steps y lines n k)
