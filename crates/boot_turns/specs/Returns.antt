-- What is noted of the primitive that is under way, and where it returns.
use Rattle.std.specs.Prelude.{ℕ, zero, suc, ◌+◌, ◌&&◌, ◌==◌, if◌then◌else◌, [], ◌∷◌, slice_index, Option, Some, None}
use Rattle.mips_table.specs.Device.{Environment}
use Rattle.mips_table.specs.Machine.{State, in_system, run}
use Rattle.mips_table.specs.Turns.{is_on}
use Rattle.layer_contract.specs.declared.entry.Entry.TheVariants.{Primitive}
use Rattle.layer_contract.specs.declared.registers.TheConstants.{ARGUMENT, RETURN}
use Rattle.layer_contract.specs.Layer.{layer_entry}
use Rattle.boot_turns.specs.declared.tracer.Entered.{Entered}

-- argument i, from 0
abbrev pub argument : State → ℕ → ℕ
argument s i = slice_index s.cpu.regs (ARGUMENT + i)

-- what is noted at the entry of primitive k
abbrev pub entry_note : ℕ → State → Entered
entry_note k s = record {
  primitive = k;
  back = slice_index s.cpu.regs RETURN;
  arguments = argument s 0 ∷ argument s 1 ∷ argument s 2 ∷ argument s 3 ∷ argument s 4 ∷ [];
}

-- the note where the machine is at the entry of one of the first k primitives
abbrev pub noted_at : ℕ → State → Option Entered
noted_at zero s = None
noted_at (suc k) s = if is_on s && in_system s.special && s.cpu.pc == layer_entry (Primitive k) then Some (entry_note k s) else noted_at k s

-- the note of the primitive that is under way, until it returns
abbrev pub notes_on : State → Option Entered → Option Entered
notes_on s None = noted_at 10 s
notes_on s (Some e) = if s.cpu.pc == e.back then None else Some e

abbrev pub noted_call : Environment → State → ℕ → Option Entered
noted_call x s zero = None
noted_call x s (suc t) = notes_on (run x s (suc t)) (noted_call x s t)

-- the primitive that returns here
abbrev pub returned : State → Option Entered → Option Entered
returned s None = None
returned s (Some e) = if s.cpu.pc == e.back then Some e else None
