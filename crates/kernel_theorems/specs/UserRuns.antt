-- What a user's own program does: its machine after untrapped steps, up to the step that traps. For theorems of whole systems, whose users are known.
use Rattle.std.specs.Prelude.{◌≡◌, ◌<◌, ℕ, zero, suc, pos, slice_index}
use Rattle.std.specs.Int.{w32, cast_unsigned}
use Rattle.mips_table.specs.Arith.{signed}
use Rattle.mips_table.specs.declared.cause.Cause.{Cause}
use Rattle.mips_table.specs.declared.cause.Cause.TheVariants.{Syscall}
use Rattle.mips_table.specs.Flat.{Flat, VStep, Goes, Trap, vstep}
use Rattle.cvm_model.specs.Primitives.{with_register}
use Rattle.cvm_model.specs.Invariant.{machine_after}

-- the machine after n steps, which the last one of them may leave by a trap
abbrev pub after : ℕ → Flat → Flat
after zero f = f
after (suc n) f = machine_after (vstep (after n f))

abbrev pub IsGoes : VStep → Type 0
IsGoes (Goes f) = Unit {0}
IsGoes (Trap f cause edata) = ⊥

-- the machine makes so many untrapped steps, and the one behind them traps by this cause
pub record TrapsAfter (f : Flat) (steps : ℕ) (cause : Cause) : Type 0 where
  pub goes : (t : ℕ) → t < steps → IsGoes (vstep (after t f))
  pub edata : ℕ
  pub traps : vstep (after steps f) ≡ Trap (after (suc steps) f) cause edata

-- a user calls after so many untrapped steps, with this number in register 4
pub record CallsAfter (f : Flat) (steps value : ℕ) : Type 0 where
  pub calls : TrapsAfter f steps Syscall
  pub value_is : signed (slice_index (after (suc steps) f).cpu.regs 4) ≡ pos value

-- a machine that was answered this number, in register 2
abbrev pub told : Flat → ℕ → Flat
told f x = with_register f 2 (cast_unsigned w32 (pos x))

-- a user asks after so many untrapped steps, with this number in register 4; and answered so it ends after so many more
pub record AsksAndEnds (f : Flat) (steps rest value answer : ℕ) : Type 0 where
  pub asks : TrapsAfter f steps Syscall
  pub asks_by : asks.edata ≡ 12
  pub value_is : signed (slice_index (after (suc steps) f).cpu.regs 4) ≡ pos value
  pub ends : TrapsAfter (told (after (suc steps) f) answer) rest Syscall
  pub ends_by : ends.edata ≡ 76
