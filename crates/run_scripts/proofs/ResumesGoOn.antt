-- A resume of any file: the run is that of the one machine which the file names.
use Rattle.std.specs.Prelude.{Option, Some, None}
use Rattle.std.proofs.Common.{◌≡◌, ◌≢◌, ℕ, ◌+◌, ◌-◌, ◌≤◌, false, List, [], ◌∷◌, ◌++◌, refl, sym, ap, ap₂, ◌∙◌, subst, arith}
use Rattle.mips_table.specs.Machine.{State}
use Rattle.mips_table.specs.Turns.{TurnLaws}
use Rattle.mips_machine.specs.Saved.{SavedOnce}
use Rattle.mips_machine.specs.Steps.{script_of_step}
use Rattle.kernel_linker.specs.Accept.{ImageSystem}
use Rattle.schedule_file.specs.Rows.{Rows}
use Rattle.run_scripts.specs.declared.session.Session.{Session}
use Rattle.run_scripts.specs.Command.{resume, save_session}
use Rattle.run_scripts.specs.Plan.{resumes}
use Rattle.cvm_outside.specs.Script.{Call, Printed, scripts, Who, Performs, sectors_after}
use Rattle.cvm_outside.specs.ScriptLaws.{ScriptsBlame, ScriptsStore}
use Rattle.boot_turns.specs.Runs.{Run, state_at, steps_made, has_ended}
use Rattle.run_scripts.specs.SessionRuns.{run_of}
use Rattle.boot_run.specs.AnyScripts.{untold_rest}
use Rattle.run_scripts.specs.Ends.{GoesOn, ResumeAsks, SomeRunAsks, done, no_file, no_memory}
use Rattle.run_scripts.proofs.PromisesByRuns.{ResumesGoOn}
use Rattle.run_scripts.proofs.ScriptCalls.{report_reads}
use Rattle.run_scripts.proofs.StatusesCaused.{mid_disk}
use Rattle.boot_turns.proofs.ShownRows.{scripts-same}
use Rattle.boot_run.proofs.AbstractRuns.{on_before}
use Rattle.boot_run.proofs.ReadingCalls.{reads_quietly}
use Rattle.run_scripts.proofs.PerformedScripts.{leaves_sectors}
use Rattle.run_scripts.proofs.NothingElseRefused.{none_blamed, status_due, plan_asks, no_file_failed}
use Rattle.run_scripts.proofs.SavesComplete.{told_asks}
use Rattle.run_scripts.proofs.CallsOfCommands.{others_stay}
use Rattle.boot_run.proofs.LoadStores.{stored-append}
use Rattle.run_scripts.proofs.ScriptsStore.{quiet_stores, stored_scripts, step_stores}

-- ONE RUN goes on from the words
one_run : SavedOnce → (session : Session) (s : ImageSystem) (rows : Rows) (words : List ℕ) (size : ℕ) (sectors : List (List ℕ)) (r q : Run) → GoesOn session s rows words size sectors r →
    GoesOn session s rows words size sectors q → q ≡ r
one_run once session s rows words size sectors r q g h =
    let same = once rows.inputs h.machine g.machine h.done h.user g.done g.user h.ready g.ready (h.over ∙ sym g.over) (h.named ∙ sym g.named) in
    let made : State → ℕ → Run = λ z turns. record (run_of session s rows size sectors) { first = z; turns = session.turns - turns; steps = session.steps - z.time } in
    h.is ∙ ap₂ made same.0 same.1 ∙ sym g.is

-- ITS SCRIPT leaves the machine's sectors
all_steps : (r : Run) → untold_rest r 0 ≡ scripts (λ t. script_of_step r.around (state_at r t) ++ Printed None ∷ []) (steps_made r)
all_steps r =
    let none : steps_made r - 0 ≡ steps_made r = omega arith in
    let step : ℕ → List Call = λ t. script_of_step r.around (state_at r t) ++ Printed None ∷ [] in
    ap (scripts (λ i. step (0 + i))) none ∙ scripts-same (λ i. step (0 + i)) step (steps_made r) (λ i below. let from : 0 + i ≡ i = omega arith in ap step from)

untold_leaves : TurnLaws → (r : Run) → sectors_after (untold_rest r 0) r.first.device.sectors ≡ (state_at r (steps_made r)).device.sectors
untold_leaves count r =
    ap (λ (l : List Call). sectors_after l r.first.device.sectors) (all_steps r)
    ∙ stored_scripts (λ t. script_of_step r.around (state_at r t) ++ Printed None ∷ []) (λ t. (state_at r t).device.sectors) (steps_made r)
    (λ t lt. stored-append (script_of_step r.around (state_at r t)) (Printed None ∷ []) (state_at r t).device.sectors ∙ step_stores r t (on_before count r t lt))

-- where it comes to no end its steps are spent
all_spent : (made budget steps now then_ : ℕ) → made ≡ budget → budget ≡ steps - now → then_ ≡ now → steps ≤ then_ + made
all_spent made budget steps now then_ a b c = omega (arith, a, b, c)

steps_spent : TurnLaws → (session : Session) (s : ImageSystem) (rows : Rows) (words : List ℕ) (size : ℕ) (sectors : List (List ℕ)) (r : Run) → GoesOn session s rows words size sectors r → has_ended r ≡ false →
    session.steps ≤ r.first.time + steps_made r
steps_spent count session s rows words size sectors r g e =
    all_spent (steps_made r) r.steps session.steps g.machine.time r.first.time (count.none r.around r.first r.turns r.steps e).0 (ap (λ (q : Run). q.steps) g.is) (ap (λ (q : Run). q.first.time) g.is)

none_named : (n : List ℕ) → None ≢ Some n
none_named n e = cc

pub resumes_go_on : ScriptsBlame → ScriptsStore → TurnLaws → SavedOnce → ResumesGoOn
resumes_go_on blame store count once words d s rows machine left old new status is a f (done _ h) m =
    let asks = plan_asks blame words old new status h (resumes (save_session d) s rows machine) a.files a.is_plan in
    let k = mid_disk blame words old new status h in
    let t = told_asks words _ (save_session d) s rows left old h.mid (λ size ss. ResumeAsks (save_session d) s rows machine size ss) (SomeRunAsks []) h.script h.due a k.0 asks in
    let n = none_blamed blame words old new status h f in
    let p : Performs (untold_rest t.run 0 ++ t.report) h.mid new None =
    subst (λ (x : List Call). Performs x h.mid new None) t.script_is (subst (λ (b : Option Who). Performs h.script h.mid new b) n h.performs) in
    let from : t.run.first.device.sectors ≡ left = ap (λ (q : Run). q.first.device.sectors) t.goes_on.is ∙ t.goes_on.over in
    let leaves : sectors_after (untold_rest t.run 0 ++ t.report) left ≡ (state_at t.run (steps_made t.run)).device.sectors =
    stored-append (untold_rest t.run 0) t.report left ∙ quiet_stores t.report (reads_quietly t.report (report_reads (has_ended t.run) (state_at t.run (steps_made t.run)).off t.report t.is_report)) (sectors_after (untold_rest t.run 0) left)
    ∙ ap (sectors_after (untold_rest t.run 0)) (sym from) ∙ untold_leaves count t.run in
    record {
      run = t.run;
      goes_on = t.goes_on;
      only = λ other g. one_run once (save_session d) s rows machine old.disk.size left t.run other t.goes_on g;
      sectors = leaves_sectors store (untold_rest t.run 0 ++ t.report) old h.mid new left (state_at t.run (steps_made t.run)).device.sectors a.sectors leaves k.0 p;
      status_is = status_due blame words old new status h n ∙ t.status_is;
      spent = steps_spent count (save_session d) s rows machine old.disk.size left t.run t.goes_on;
      files = λ name. others_stay words (resume d) old new status is (done status h) name (none_named name);
    }
resumes_go_on blame store count once words d s rows machine left old new status is a f (no_file c k g) m = absurd (no_file_failed blame words c old new k f.shelf g)
resumes_go_on blame store count once words d s rows machine left old new status is a f (no_memory c k w) m = absurd (m refl)
