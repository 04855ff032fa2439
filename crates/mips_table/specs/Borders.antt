-- The steps that begin and end a run of code: on the physical machine a taken interrupt, eret, and a store to the power port; on the flat
-- machine a system call.
use Rattle.std.specs.Prelude.{◌≡◌, ℕ, ◌*◌, ◌/◌, slice_index, Some, None}
use Rattle.mips_table.specs.declared.inst.Inst.TheVariants.{Eret, Sw, Syscall}
use Rattle.mips_table.specs.declared.cause.Cause.{Cause}
use Rattle.mips_table.specs.declared.cause.Cause.TheVariants as causes
use Rattle.mips_table.specs.Arith.{sum, extended}
use Rattle.mips_table.specs.Encoding.{encoding}
use Rattle.mips_table.specs.Processor.{advanced}
use Rattle.mips_table.specs.Flat.{Flat, Trap, vstep}
use Rattle.mips_table.specs.Device.{Environment, POWER}
use Rattle.mips_table.specs.declared.special.TheConstants.{EPC}
use Rattle.mips_table.specs.Machine.{State, left, Interrupt, coming, latched, interrupted, step_ended, step}
use Rattle.mips_table.specs.Fits.{Fits}
use Rattle.mips_table.specs.Code.{Program, on_machine, on_flat, Sound}
use Rattle.mips_table.specs.Simulation.{Quiet, MemoryHolds, FlatFits}

-- a machine that takes an interrupt goes on at address 0, quietly
pub record Taken (x : Environment) (s before : State) (cause : Cause) (edata epc : ℕ) : Type 0 where
  pub is : step x s ≡ step_ended (interrupted before cause edata epc)
  pub quiet : Quiet x (step x s)
  pub cpu : (step x s).cpu ≡ record s.cpu { pc = 0 }
  pub memory : (step x s).memory ≡ s.memory

-- each interrupt that comes is taken so
abbrev pub InterruptsAreTaken : Type 0
InterruptsAreTaken = (x : Environment) (s before : State) (cause : Cause) (edata epc : ℕ) → Fits x s → s.off ≡ None → coming x (latched x s)
    ≡ Interrupt before cause edata epc → Taken x s before cause edata epc

-- eret goes on at epc, with sr and mode from before the interrupt
abbrev pub EretLeaves : Type 0
EretLeaves = (x : Environment) (p : Program) (s : State) → Sound (on_machine x p) → Quiet x s → MemoryHolds (on_machine x p) s.memory
    → p.code (s.cpu.pc / 4) ≡ Some Eret
    → step x s ≡ step_ended (record (latched x s) { special = left s.special; cpu = record s.cpu { pc = slice_index s.special EPC } })

-- a store to the power port ends the run with its word
abbrev pub PowerEnds : Type 0
PowerEnds = (x : Environment) (p : Program) (s : State) (rt rs imm : ℕ) → Sound (on_machine x p) → Quiet x s → MemoryHolds (on_machine x p) s.memory
    → p.code (s.cpu.pc / 4) ≡ Some (Sw rt rs imm)
    → sum (slice_index s.cpu.regs rs) (extended imm) ≡ 4 * POWER
    → step x s ≡ step_ended (record (latched x s) { off = Some (slice_index s.cpu.regs rt); cpu = advanced s.cpu })

-- a system call of the code is the flat machine's trap with its word
abbrev pub FlatCalls : Type 0
FlatCalls = (p : Program) (f : Flat) (code : ℕ) → Sound (on_flat p) → FlatFits f → MemoryHolds (on_flat p) f.words → p.code (f.cpu.pc / 4) ≡ Some (Syscall code)
    → vstep f ≡ Trap (record f { cpu = advanced f.cpu }) causes.Syscall (encoding (Syscall code))
