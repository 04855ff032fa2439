-- Which text is a schedule, with which rows, and which fault another one has.
use Rattle.std.specs.Prelude.{ℕ, ◌≡◌, ◌+◌, ◌-◌, ◌≤◌, ◌<◌, ◌^◌, All, Bool, false, nat_lt, nat_le, List, []}
use Rattle.std.specs.Prelude.{◌∷◌, ◌++◌, length, Option, Some, None, fold, unwrap_or, option_map, slice_get, Result, Ok, Err, if◌then◌else◌}
use Rattle.std.specs.Option.{option_or}
use Rattle.std.specs.List.Sorted.{IsNonDecreasingBy}
use Rattle.schedule_file.specs.declared.row.Row.{Row}
use Rattle.schedule_file.specs.declared.row.Row.TheVariants.{Line, Busy, Input}
use Rattle.schedule_file.specs.declared.fault.ScheduleFault.{ScheduleFault}
use Rattle.schedule_file.specs.declared.fault.ScheduleFault.TheVariants.{BadLine, Order, Range, TooManyInputs, Memory}
use Rattle.schedule_file.specs.Rows.{Rows, with_row, longest}
use Rattle.cvm_text.specs.Lines.{lines_of}
use Rattle.schedule_file.specs.Text.{row_of}

-- no row
abbrev pub no_rows : Rows
no_rows = record { lines = []; busy = []; inputs = [] }

-- the last of a list
abbrev pub last_of : {X : Type 0} → List X → Option X
last_of xs = slice_get xs (length xs - 1)

-- whether a row may not follow the last one of its kind
abbrev pub is_late : Rows → Row → Bool
is_late rows (Line step line) = unwrap_or (option_map (λ last. nat_lt step last.step) (last_of rows.lines)) false
is_late rows (Busy command steps) = unwrap_or (option_map (λ last. nat_le command last.command) (last_of rows.busy)) false
is_late rows (Input word) = false

-- whether a row has an input word after as many as there may be
abbrev pub is_too_many : Rows → Row → Bool
is_too_many rows (Input word) = nat_le 4096 (length rows.inputs)
is_too_many rows _ = false

-- the number of a row that has a range, and its greatest value
abbrev pub row_value : Row → ℕ
row_value (Line step line) = line
row_value (Busy command steps) = steps
row_value (Input word) = word

abbrev pub limit_of : Row → ℕ
limit_of (Line step line) = 7
limit_of (Busy command steps) = 65535
limit_of (Input word) = 4294967295

-- the fault of a row in the line with a number, after rows
abbrev pub fault_of_row : Rows → ℕ → Row → Option ScheduleFault
fault_of_row rows number row =
    if nat_lt (limit_of row) (row_value row) then Some (Range number (row_value row)) else
    (if is_late rows row then Some (Order number) else
    (if is_too_many rows row then Some (TooManyInputs number) else None))

-- the fault of the line with a number, after rows
unfoldable pub fault_of_line : Rows → ℕ → List ℕ → Option ScheduleFault
fault_of_line rows number line = unwrap_or (option_map (fault_of_row rows number) (row_of line)) (Some (BadLine number))

-- the rows with that of one more line
unfoldable pub with_line : Rows → List ℕ → Rows
with_line rows line = unwrap_or (option_map (with_row rows) (row_of line)) rows

-- the rows that lines write, in their order
abbrev pub rows_of : List (List ℕ) → Rows
rows_of lines = fold with_line no_rows lines

-- the fault of the first faulty line, after the lines before
abbrev pub first_row_fault : List (List ℕ) → List (List ℕ) → Option ScheduleFault
first_row_fault before [] = None
first_row_fault before (line ∷ lines) = option_or (fault_of_line (rows_of before) (length before + 1) line) (first_row_fault (before ++ line ∷ []) lines)

-- a fault, or else the rows
abbrev pub unless : Option ScheduleFault → Rows → Result Rows ScheduleFault
unless None rows = Ok rows
unless (Some fault) rows = Err fault

-- the schedule that a text is, or the fault of its first faulty line
unfoldable pub schedule_of : List ℕ → Result Rows ScheduleFault
schedule_of text = unless (first_row_fault [] (lines_of text)) (rows_of (lines_of text))

-- an error is want of memory, or this fault
abbrev pub IsFault : ScheduleFault → Option ScheduleFault → Type 0
IsFault Memory fault = Unit {0}
IsFault (BadLine line) fault = fault ≡ Some (BadLine line)
IsFault (Order line) fault = fault ≡ Some (Order line)
IsFault (Range line value) fault = fault ≡ Some (Range line value)
IsFault (TooManyInputs line) fault = fault ≡ Some (TooManyInputs line)

-- what is answered is what reading gives, unless memory ran out
abbrev pub Gives : Result Rows ScheduleFault → Result Rows ScheduleFault → Type 0
Gives (Ok rows) read = read ≡ Ok rows
Gives (Err Memory) read = Unit {0}
Gives (Err (BadLine line)) read = read ≡ Err (BadLine line)
Gives (Err (Order line)) read = read ≡ Err (Order line)
Gives (Err (Range line value)) read = read ≡ Err (Range line value)
Gives (Err (TooManyInputs line)) read = read ≡ Err (TooManyInputs line)

-- rows in order, of eight lines, with not too many input words, and their longest busy time, which is in its range
pub record IsValidSchedule (rows : Rows) (most : ℕ) : Type 0 where
  pub steps : IsNonDecreasingBy (λ row. row.step) rows.lines
  pub bits : All (λ row. row.lines.0 < 2 ^ 8) rows.lines
  pub commands : IsNonDecreasingBy (λ row. row.command) rows.busy
  pub few : length rows.inputs ≤ 4096
  pub longest : most ≡ longest rows
  pub small : most ≤ 65535
