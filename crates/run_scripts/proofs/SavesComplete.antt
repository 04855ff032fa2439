-- What a session asks for over sectors that are told, and so that a save with enough steps is done.
use Rattle.std.specs.Prelude.{Some, None}
use Rattle.std.proofs.Common.{◌≡◌, ◌⊎◌, inl, inr, ℕ, ◌<◌, List, refl, sym, ap, ◌∙◌, subst, arith}
use Rattle.kernel_linker.specs.Accept.{ImageSystem}
use Rattle.schedule_file.specs.Rows.{Rows}
use Rattle.run_scripts.specs.declared.exit_status.Status.{Status}
use Rattle.run_scripts.specs.declared.exit_status.Status.TheVariants.{Done, KernelFault}
use Rattle.run_scripts.specs.declared.session.Session.{Session}
use Rattle.run_scripts.specs.Command.{save_session}
use Rattle.run_scripts.specs.Plan.{Plan, saves}
use Rattle.cvm_outside.specs.ScriptLaws.{ScriptsBlame}
use Rattle.cvm_outside.specs.Outside.{Outside, Drive}
use Rattle.cvm_outside.specs.Script.{Call}
use Rattle.boot_turns.specs.Runs.{Run}
use Rattle.run_scripts.specs.Boot.{sectors_needed}
use Rattle.run_scripts.specs.SessionRuns.{run_of}
use Rattle.run_scripts.specs.Ends.{done, no_file, no_memory, SessionAsks, no_user, small, over_told, over_untold, RunAsks, SomeSaveAsks, session_load}
use Rattle.run_scripts.specs.AskedRuns.{Asked}
use Rattle.run_scripts.proofs.PromisesByRuns.{SavesComplete}
use Rattle.run_scripts.proofs.StatusesCaused.{mid_disk}
use Rattle.run_scripts.proofs.RunsComplete.{run_done}
use Rattle.run_scripts.specs.Keys.{LawsOfRuns}
use Rattle.run_scripts.proofs.NothingElseRefused.{none_blamed, status_due, plan_asks, no_file_failed}
use Rattle.boot_run.specs.RunScript.{save_script}

same_some : (a b : List (List ℕ)) → Some a ≡ Some b → a ≡ b
same_some a b e = cc

none_told : (a : List (List ℕ)) → None ≡ Some a → ⊥
none_told a e = cc

-- where words ask for a session its user is there, the disk is large enough, and its sectors are told
pub told_asks : (words : List (List ℕ)) (plan : Plan) (session : Session) (s : ImageSystem) (rows : Rows) (before : List (List ℕ)) (old mid : Outside)
    (Told : ℕ → List (List ℕ) → List Call → Status → Type 0) (Some_ : List Call → Status → Type 0) (script : List Call) (due : Status) →
    Asked words plan session s rows before old → mid.disk ≡ old.disk → SessionAsks session s rows mid (Told mid.disk.size) Some_ script due → Told old.disk.size before script due
told_asks words plan session s rows before old mid T S script due a k (no_user u v n) = absurd (n a.user)
told_asks words plan session s rows before old mid T S script due a k (small v n) =
    let m : old.disk.size < sectors_needed session s rows = subst (λ (d : Drive). d.size < sectors_needed session s rows) k n in
    let l = a.enough in
    absurd (omega (arith, m, l))
told_asks words plan session s rows before old mid T S script due a k (over_told ss _ _ v n q t) =
    let f : ss ≡ before = same_some ss before (sym q ∙ ap (λ (d : Drive). d.sectors) k ∙ a.sectors) in
    subst (λ (d : Drive). T d.size before script due) k (subst (λ (x : List (List ℕ)). T mid.disk.size x script due) f t)
told_asks words plan session s rows before old mid T S script due a k (over_untold _ _ v n q t) = absurd (none_told before (sym q ∙ ap (λ (d : Drive). d.sectors) k ∙ a.sectors))

pub saves_complete : ScriptsBlame → LawsOfRuns → SavesComplete
saves_complete blame law words c s rows before old new status is a f (done _ h) m enough =
    let r : Run = run_of (save_session c) s rows old.disk.size before in
    let w = law.start words _ (save_session c) s rows before old a in
    let runs = law.machines s.unit _ _ _ w.late _ w.starts in
    let asks = plan_asks blame words old new status h (saves (save_session c) s rows c.file) a.files a.is_plan in
    let t = told_asks words _ (save_session c) s rows before old h.mid (λ size ss. RunAsks (run_of (save_session c) s rows size ss) (λ r. save_script c.file r (session_load (save_session c) s rows)))
    (SomeSaveAsks c.file (session_load (save_session c) s rows)) h.script h.due a (mid_disk blame words old new status h).0 asks in
    let g = runs.goes_on r.turns enough.last enough.defined in
    let le = g.2 in
    let late = w.within in
    let less = enough.enough in
    by (run_done law.count r t.past g.0 g.1 (omega (arith, le, late, less))) (status_due blame words old new status h (none_blamed blame words old new status h f) ∙ t.status_is)
  where
    by : {x : Status} → (x ≡ Done) ⊎ (x ≡ KernelFault) → status ≡ x → (status ≡ Done) ⊎ (status ≡ KernelFault)
    by (inl d) e = inl (e ∙ d)
    by (inr d) e = inr (e ∙ d)
saves_complete blame law words c s rows before old new status is a f (no_file d k g) m enough = absurd (no_file_failed blame words d old new k f.shelf g)
saves_complete blame law words c s rows before old new status is a f (no_memory d k w) m enough = absurd (m refl)
