-- The scripts of steps behind steps; and of a boot's steps, of which the last alone may add rows.
use Rattle.std.proofs.Common.{◌≡◌, ℕ, suc, ◌+◌, ◌<◌, List, [], ◌++◌, length, drop, sym, ap, ap₂, ◌∙◌, append-nil, append_assoc}
use Rattle.std.proofs.Math.Seq.{drop-length}
use Rattle.cvm_outside.specs.Script.{Call}
use Rattle.cvm_outside.proofs.RowsPut.{scripts-suc}
use Rattle.cvm_model.specs.declared.row.Row.{Row}
use Rattle.cvm_model.specs.Text.{rows_text}
use Rattle.mips_table.specs.Machine.{run}
use Rattle.mips_machine.specs.Steps.{script_of_step}
use Rattle.boot_turns.specs.declared.answers.View.{View}
use Rattle.boot_turns.specs.declared.answers.View.TheVariants.{Boot}
use Rattle.boot_turns.specs.Runs.{Run, Past, state_at, cvm_at}
use Rattle.boot_turns.specs.StepScript.{prints, transfers, rows_script, step_script, steps_script}
use Rattle.boot_turns.specs.TurnScript.{StepsJoin, RowsComeLast}
use Rattle.boot_turns.proofs.ShownRows.{scripts-same}
use Rattle.boot_turns.proofs.StepMakes.{from_add}

pub steps_join : StepsJoin
steps_join r p t n k = from_add (step_script r p) t n k

-- a step that adds no row prints none
no_row : (r : Run) (p : Past) (t : ℕ) → (cvm_at r p (suc t)).rows ≡ (cvm_at r p t).rows → rows_script Boot r p t ≡ []
no_row r p t same = ap (λ (rows : List Row). prints (rows_text (drop (length (cvm_at r p t).rows) rows))) same ∙ ap (λ (rows : List Row). prints (rows_text rows)) (drop-length (cvm_at r p t).rows)

pub rows_last : RowsComeLast
rows_last r p t n boot none =
    let by_view : (t : ℕ) → step_script r p t ≡ script_of_step r.around (state_at r t) ++ rows_script Boot r p t = λ t. ap (λ (v : View). script_of_step r.around (state_at r t) ++ rows_script v r p t) boot in
    let before : steps_script r p t n ≡ transfers r.around r.first t n = scripts-same (λ i. step_script r p (t + i)) (λ i. script_of_step r.around (run r.around r.first (t + i))) n (λ i lt.
    by_view (t + i) ∙ ap (λ (l : List Call). script_of_step r.around (state_at r (t + i)) ++ l) (no_row r p (t + i) (none i lt)) ∙ append-nil (script_of_step r.around (state_at r (t + i)))) in
    scripts-suc (λ i. step_script r p (t + i)) n
    ∙ ap₂ (λ (a b : List Call). a ++ b) before (by_view (t + n))
    ∙ sym (append_assoc (transfers r.around r.first t n) (script_of_step r.around (state_at r (t + n))) (rows_script Boot r p (t + n)))
    ∙ ap (λ (l : List Call). l ++ rows_script Boot r p (t + n)) (sym (scripts-suc (λ i. script_of_step r.around (run r.around r.first (t + i))) n))
