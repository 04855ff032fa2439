-- What the script of a run stores: the sectors of its machine.
use Rattle.std.specs.Prelude.{if◌then◌else◌}
use Rattle.std.proofs.Common.{◌≡◌, ℕ, suc, ◌+◌, ◌-◌, ◌<◌, ◌≤◌, List, [], ◌++◌, ap, ◌∙◌, subst, arith}
use Rattle.mips_table.specs.Turns.{TurnLaws}
use Rattle.cvm_outside.specs.Script.{Call, WritesNoSector, sectors_after}
use Rattle.cvm_outside.proofs.RowsPut.{quiet_both}
use Rattle.boot_turns.specs.Runs.{Run, Past, state_at, steps_made, has_ended}
use Rattle.mips_machine.specs.Steps.{script_of_step}
use Rattle.boot_turns.specs.StepScript.{rows_script, step_script, steps_script}
use Rattle.boot_run.specs.Closing.{opening_script, closing_script}
use Rattle.boot_run.specs.RunScript.{rest_script, run_script}
use Rattle.run_scripts.proofs.ScriptsMadeOf.{Closed, of_if, of_opening, of_report, of_rows}
use Rattle.boot_run.proofs.AbstractRuns.{on_before}
use Rattle.boot_run.proofs.LoadStores.{stored-append}
use Rattle.run_scripts.proofs.ScriptsStore.{quiet_stores, stored_scripts, step_stores}

-- WHAT WRITES no sector
pub quiet : Closed WritesNoSector
quiet = record { none = tt; both = quiet_both; print = λ text. tt; read = λ q. tt }

-- A STEP, steps, and what is left from a step on
pub step_leaves : TurnLaws → (r : Run) (p : Past) (t : ℕ) → t < steps_made r → sectors_after (step_script r p t) (state_at r t).device.sectors ≡ (state_at r (suc t)).device.sectors
step_leaves count r p t lt =
    stored-append (script_of_step r.around (state_at r t)) (rows_script r.view r p t) (state_at r t).device.sectors
    ∙ quiet_stores (rows_script r.view r p t) (of_rows WritesNoSector quiet r.view r p t) (sectors_after (script_of_step r.around (state_at r t)) (state_at r t).device.sectors)
    ∙ step_stores r t (on_before count r t lt)

pub steps_leave : TurnLaws → (r : Run) (p : Past) (t n : ℕ) → t + n ≤ steps_made r → sectors_after (steps_script r p t n) (state_at r t).device.sectors ≡ (state_at r (t + n)).device.sectors
steps_leave count r p t n le =
    let none : t + 0 ≡ t = omega arith in
    subst (λ (i : ℕ). sectors_after (steps_script r p t n) (state_at r i).device.sectors ≡ (state_at r (t + n)).device.sectors) none
    (stored_scripts (λ i. step_script r p (t + i)) (λ i. (state_at r (t + i)).device.sectors) n
    (λ i lt. let next : suc (t + i) ≡ t + suc i = omega arith in
    step_leaves count r p (t + i) (omega (arith, lt, le)) ∙ ap (λ (m : ℕ). (state_at r m).device.sectors) next))

pub rest_leaves : TurnLaws → (r : Run) (p : Past) (t : ℕ) → t ≤ steps_made r → sectors_after (rest_script r p t) (state_at r t).device.sectors ≡ (state_at r (steps_made r)).device.sectors
rest_leaves count r p t le =
    let e : t + (steps_made r - t) ≡ steps_made r = omega (arith, le) in
    stored-append (steps_script r p t (steps_made r - t)) (if has_ended r then closing_script r p else []) (state_at r t).device.sectors
    ∙ quiet_stores (if has_ended r then closing_script r p else []) (of_if WritesNoSector quiet (has_ended r) (closing_script r p) (of_report WritesNoSector quiet r.view r p (steps_made r))) (sectors_after (steps_script r p t (steps_made r - t)) (state_at r t).device.sectors)
    ∙ steps_leave count r p t (steps_made r - t) (omega (arith, le)) ∙ ap (λ (n : ℕ). (state_at r n).device.sectors) e

pub run_leaves : TurnLaws → (r : Run) (load : List Call) (p : Past) (before : List (List ℕ)) → sectors_after load before ≡ r.first.device.sectors →
    sectors_after (run_script r load p) before ≡ (state_at r (steps_made r)).device.sectors
run_leaves count r load p before e =
    stored-append (load ++ opening_script r.view r.system) (rest_script r p 0) before
    ∙ ap (sectors_after (rest_script r p 0)) (stored-append load (opening_script r.view r.system) before
    ∙ quiet_stores (opening_script r.view r.system) (of_opening WritesNoSector quiet r.view r.system) (sectors_after load before) ∙ e)
    ∙ rest_leaves count r p 0 (omega arith)
