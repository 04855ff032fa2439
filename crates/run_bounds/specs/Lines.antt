-- How many turns of a run take lines.
use Rattle.std.specs.Prelude.{◌≡◌, ℕ, zero, suc, ◌+◌, ◌≤◌, ◌==◌, Bool, not, if◌then◌else◌, Some, length}
use Rattle.mips_table.specs.Device.{Environment}
use Rattle.mips_table.specs.Machine.{State}
use Rattle.mips_table.specs.Turns.{lines_of_turn}
use Rattle.schedule_file.specs.Rows.{Rows}
use Rattle.mips_machine.specs.Steps.{outside_of}
use Rattle.cvm_model.specs.Cvm.{System, Cvm, cvm}
use Rattle.cvm_model.specs.Invariant.{dispatches_of}
use Rattle.cvm_model.specs.Systems.{lines_taken}

-- how many numbers below n pass a test
abbrev pub count_below : (ℕ → Bool) → ℕ → ℕ
count_below f zero = 0
count_below f (suc n) = if f n then suc (count_below f n) else count_below f n

-- whether lines are raised
abbrev pub are_some : ℕ → Bool
are_some lines = not (lines == 0)

-- how many of the first so many turns have lines
abbrev pub turns_with_lines : (ℕ → ℕ) → ℕ → ℕ
turns_with_lines lines turns = count_below (λ k. are_some (lines k)) turns

-- how many steps there are, from a moment on, at which lines are raised
abbrev pub steps_with_lines : Environment → (time steps : ℕ) → ℕ
steps_with_lines x time steps = count_below (λ t. are_some (x.lines (time + t))) steps

-- FEW TURNS HAVE LINES: the lines of a step belong to one turn
abbrev pub LinesAreFew : Type 0
LinesAreFew = (x : Environment) (s : State) (turns : ℕ) → turns_with_lines (lines_of_turn x s) turns ≤ steps_with_lines x s.time (suc x.last)

-- and a step at which some are raised has a `line` row of the schedule
abbrev pub RaisedLinesAreFew : Type 0
RaisedLinesAreFew = (rows : Rows) (count : ℕ) (s : State) (turns : ℕ) → turns_with_lines (lines_of_turn (outside_of rows count) s) turns ≤ length rows.lines

-- EACH DISPATCH THAT TAKES LINES has a turn that has some: so many are made in k turns at most
abbrev pub LinesTakenAreFew : Type 0
LinesTakenAreFew = (y : System) (lines : ℕ → ℕ) (n k : ℕ) (c : Cvm) → cvm y lines n k ≡ Some c
    → lines_taken (dispatches_of y lines n k) ≤ turns_with_lines lines k
