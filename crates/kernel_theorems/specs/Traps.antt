-- What is known of a trap in a run, beside what a kernel's own property says: a step of the current user's machine came to it, its data tell this, and the
-- machine is left like this.
use Rattle.std.specs.Prelude.{◌≡◌, ◌≤◌, ℕ, true, false, Some, []}
use Rattle.mips_table.specs.declared.cause.Cause.{Cause}
use Rattle.mips_table.specs.declared.cause.Cause.TheVariants.{Reset, External, FetchAlign, FetchFault, Overflow, Syscall, DataAlign, DataFault}
use Rattle.mips_table.specs.declared.inst.Inst.TheVariants as insts
use Rattle.mips_table.specs.Decoding.{decoding}
use Rattle.mips_table.specs.Machine.{cause_number}
use Rattle.mips_table.specs.Processor.{is_aligned, advanced}
use Rattle.mips_table.specs.Flat.{Flat, Trap, is_inside, word_at, vstep}
use Rattle.cvm_model.specs.Kernel.{Core}
use Rattle.cvm_model.specs.Primitives.{user_of}
use Rattle.cvm_model.specs.Cvm.{System}
use Rattle.cvm_model.specs.Invariant.{Dispatch, IsTrapOf, dispatches_of}
use Rattle.kernel_theorems.specs.History.{EachHas}

-- WHAT THE DATA OF A TRAP ARE, by the machine that made the step: an address of no word, or of a word past its memory; the instruction itself, where it
-- overflows, is a system call or is none
abbrev pub TrapTells : Flat → Cause → ℕ → Type 0
TrapTells f Reset edata = ⊥
TrapTells f External edata = ⊥
TrapTells f FetchAlign edata = (edata ≡ f.cpu.pc) × (is_aligned edata ≡ false)
TrapTells f FetchFault edata = (edata ≡ f.cpu.pc) × (is_aligned edata ≡ true) × (is_inside f.words edata ≡ false)
TrapTells f Syscall edata = (edata ≡ word_at f.words f.cpu.pc) × ((code : ℕ) × (decoding edata ≡ Some (insts.Syscall code)))
TrapTells f DataAlign edata = is_aligned edata ≡ false
TrapTells f DataFault edata = (is_aligned edata ≡ true) × (is_inside f.words edata ≡ false)
TrapTells f other edata = edata ≡ word_at f.words f.cpu.pc

-- WHAT A TRAP LEAVES of the machine that made the step: all as it was, and the pc behind the instruction where it overflows or is a system call
abbrev pub left_by : Flat → Cause → Flat
left_by f Overflow = record f { cpu = advanced f.cpu }
left_by f Syscall = record f { cpu = advanced f.cpu }
left_by f other = f

-- a law, for `IsTrapOf` of the rule for runs: what a step that traps tells
abbrev pub StepsTell : Type 0
StepsTell = (f after : Flat) (cause : Cause) (edata : ℕ) → vstep f ≡ Trap after cause edata → TrapTells f cause edata

-- and what it leaves
abbrev pub StepsLeave : Type 0
StepsLeave = (f after : Flat) (cause : Cause) (edata : ℕ) → vstep f ≡ Trap after cause edata → after ≡ left_by f cause

-- A DISPATCH FOR A TRAP: the state before the user's step, and the cause by its name
pub record IsOfStep (d : Dispatch) : Type 0 where
  pub core : Core
  pub cause : Cause
  pub number : d.cause ≡ cause_number cause
  pub came : IsTrapOf core cause d.edata d.before
  pub tells : TrapTells (user_of core.users core.current) cause d.edata

-- a law, for a property of a run's dispatches that speaks of the data of traps: each dispatch of a run for another cause than the start and lines is one
-- for a trap of a step
abbrev pub TrapsComeOfSteps : Type 0
TrapsComeOfSteps = (y : System) (lines : ℕ → ℕ) (n k : ℕ) → EachHas (λ past d. 2 ≤ d.cause → IsOfStep d) [] (dispatches_of y lines n k)
