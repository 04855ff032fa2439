-- What the rows of a schedule say.
use Rattle.std.specs.Prelude.{ℕ, ◌-◌, ◌==◌, ◌<◌, ◌≤◌, ◌^◌, List, [], ◌∷◌, ◌++◌, length, map, max, fold, slice_index, slice_get, unwrap_or, option_map}
use Rattle.std.specs.Int.RustNames.{bit_or}
use Rattle.std.specs.List.{filter, AllWithin}
use Rattle.schedule_file.specs.declared.row.LineRow.{LineRow}
use Rattle.schedule_file.specs.declared.row.BusyRow.{BusyRow}
use Rattle.schedule_file.specs.declared.row.Row.{Row}
use Rattle.schedule_file.specs.declared.row.Row.TheVariants.{Line, Busy, Input}

-- the rows of the three kinds, each in the order of the text; of an input row there is its word
pub record Rows : Type 0 where
  pub lines : List LineRow
  pub busy : List BusyRow
  pub inputs : List ℕ

-- the bits so far with those of a row
abbrev pub with_lines : ℕ → LineRow → ℕ
with_lines bits row = bit_or bits row.lines.0

-- the lines that are raised at a step, as a number with a bit for each
abbrev pub lines_at : Rows → ℕ → ℕ
lines_at rows step = fold with_lines 0 (filter (λ row. row.step == step) rows.lines)

-- the busy time of a command: that of its row, or 0 where it has none
abbrev pub busy_of : Rows → ℕ → ℕ
busy_of rows command = slice_index (map (λ row. row.steps) (filter (λ row. row.command == command) rows.busy)) 0

-- the longest busy time, or 0 where there is none
abbrev pub longest : Rows → ℕ
longest rows = fold max 0 (map (λ row. row.steps) rows.busy)

-- the step of the last line row, or 0 where there is none
abbrev pub last_step : Rows → ℕ
last_step rows = unwrap_or (option_map (λ row. row.step) (slice_get rows.lines (length rows.lines - 1))) 0

-- a place is that of the first line row that is of no earlier step than this one, or the end
pub record IsNextAt (rows : Rows) (at step : ℕ) : Type 0 where
  pub within : at ≤ length rows.lines
  pub before : AllWithin (λ row. row.step < step) rows.lines 0 at
  pub from : AllWithin (λ row. step ≤ row.step) rows.lines at (length rows.lines)

-- the rows with one more
abbrev pub with_row : Rows → Row → Rows
with_row rows (Line step line) = record rows { lines = rows.lines ++ record { step = step; lines = record { 0 = 2 ^ line } } ∷ [] }
with_row rows (Busy command steps) = record rows { busy = rows.busy ++ record { command = command; steps = steps } ∷ [] }
with_row rows (Input word) = record rows { inputs = rows.inputs ++ word ∷ [] }
