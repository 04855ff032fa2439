-- How the rows of a journal grow with it: the one thing to be known is how many of its last steps have no row yet.
use Rattle.std.specs.Prelude.{◌≡◌, ℕ, ◌+◌, false, List, [], ◌∷◌, ◌++◌}
use Rattle.cvm_model.specs.Kernel.{JournalEntry, Stepped}
use Rattle.cvm_model.specs.Text.{steps_row, journal_rows_after, journal_rows, open_journal_rows}

-- the steps with no row after these entries, where there were n before
abbrev pub steps_after : ℕ → List JournalEntry → ℕ
steps_after n [] = n
steps_after n (Stepped ∷ rest) = steps_after (n + 1) rest
steps_after n (e ∷ rest) = steps_after 0 rest

-- the steps at the end of a journal that have no row yet
abbrev pub pending_steps : List JournalEntry → ℕ
pending_steps j = steps_after 0 j

-- the rows of a journal stay, and those of the further entries follow; the last row of steps comes at its end
pub record RowsFollow : Type 0 where
  pub more : (j d : List JournalEntry) → open_journal_rows (j ++ d) ≡ open_journal_rows j ++ journal_rows_after false (pending_steps j) d
  pub count : (j d : List JournalEntry) → pending_steps (j ++ d) ≡ steps_after (pending_steps j) d
  pub end : (j : List JournalEntry) → journal_rows j ≡ open_journal_rows j ++ steps_row (pending_steps j)
