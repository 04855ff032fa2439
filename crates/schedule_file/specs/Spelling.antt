-- How a row is written.
use Rattle.std.specs.Prelude.{◌≡◌, ℕ, ◌<◌, ◌^◌, List, ◌∷◌, ◌++◌, codes, decimal}
use Rattle.schedule_file.specs.declared.row.Row.{Row}
use Rattle.schedule_file.specs.declared.row.Row.TheVariants.{Line, Busy, Input}

-- the text of a row: its words, one space between two
abbrev pub spelling : Row → List ℕ
spelling (Line step line) = codes "line" ++ 32 ∷ (decimal step ++ 32 ∷ decimal line)
spelling (Busy command steps) = codes "busy" ++ 32 ∷ (decimal command ++ 32 ∷ decimal steps)
spelling (Input word) = codes "input" ++ 32 ∷ decimal word

-- its numbers are below 2 ^ 64
abbrev pub RowFits : Row → Type 0
RowFits (Line step line) = (step < 2 ^ 64) × (line < 2 ^ 64)
RowFits (Busy command steps) = (command < 2 ^ 64) × (steps < 2 ^ 64)
RowFits (Input word) = word < 2 ^ 64

-- a line is the spelling of a row, whose numbers are below 2 ^ 64
pub record IsSpelled (line : List ℕ) (row : Row) : Type 0 where
  pub numbers : RowFits row
  pub text : line ≡ spelling row
