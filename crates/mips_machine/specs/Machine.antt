-- What callers see of a machine, and the state that it is with the sectors of a disk.
use Rattle.std.specs.Prelude.{◌≡◌, ℕ, ◌+◌, ◌≤◌, List, length}
use Rattle.mips_table.specs.Machine.{State}
use Rattle.schedule_file.specs.Rows.{Rows, IsNextAt}
use Rattle.mips_machine.specs.Hardware.{Hardware, starting, state_in}

-- the state but for the sectors, with the words of the sector that was viewed; the number of steps done; and the rows of the schedule
pub record Held : Type 0 where
  pub hardware : Hardware
  pub time : ℕ
  pub rows : Rows

-- a machine at its start, with so many frames of memory: the input is the schedule's
abbrev pub started : ℕ → Rows → Held
started frames rows = record { hardware = starting frames rows.inputs; time = 0; rows = rows }

-- the state, with these sectors
abbrev pub state_of : Held → List (List ℕ) → State
state_of held sectors = state_in held.hardware held.time sectors

-- a machine that went on by so many steps in which nothing but the processor and memory changed, to those of another one
abbrev pub gone_on : (old new : Held) → ℕ → Held
gone_on old new steps = record old { hardware = record old.hardware { cpu = new.hardware.cpu; memory = new.hardware.memory }; time = old.time + steps }

-- what stays so of a machine under a schedule: the row of lines that comes next, no more commands than steps, a buffer of a sector's words, and the input
abbrev pub KeepsTo : Rows → (next steps : ℕ) → Hardware → Type 0
KeepsTo rows next steps h = IsNextAt rows next steps × (h.ports.commands ≤ steps) × (length h.buffer ≡ 1024) × (h.console.inputs ≡ rows.inputs)
