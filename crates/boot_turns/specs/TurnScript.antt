-- The scripts of steps behind steps, and of the steps of a boot's turn.
use Rattle.std.specs.Prelude.{◌≡◌, ℕ, suc, ◌+◌, ◌<◌, ◌++◌}
use Rattle.boot_turns.specs.declared.answers.View.TheVariants.{Boot}
use Rattle.boot_turns.specs.Runs.{Run, Past, cvm_at}
use Rattle.boot_turns.specs.StepScript.{transfers, rows_script, steps_script}

-- steps from a step on, and those behind them
abbrev pub StepsJoin : Type 0
StepsJoin = (r : Run) (p : Past) (t n k : ℕ) → steps_script r p t (n + k) ≡ steps_script r p t n ++ steps_script r p (t + n) k

-- THE ROW OF A BOOT'S TURN COMES LAST: where no step but the last adds a row, all transfers come before its rows
abbrev pub RowsComeLast : Type 0
RowsComeLast = (r : Run) (p : Past) (t n : ℕ) → r.view ≡ Boot → ((j : ℕ) → j < n → (cvm_at r p (suc (t + j))).rows ≡ (cvm_at r p (t + j)).rows) →
    steps_script r p t (suc n) ≡ transfers r.around r.first t (suc n) ++ rows_script Boot r p (t + n)
