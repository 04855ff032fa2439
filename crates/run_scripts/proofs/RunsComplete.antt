-- That the machine goes on, and with enough steps a run is done.
use Rattle.std.proofs.Common.{◌≡◌, ◌⊎◌, inl, inr, ℕ, ◌≤◌, Bool, true, refl, ap, ◌∙◌, arith}
use Rattle.mips_table.specs.Turns.{TurnLaws, IsTurnEnd, is_end}
use Rattle.cvm_model.specs.Cvm.{Status as CvmStatus, Running, Halted, Faulted}
use Rattle.run_scripts.specs.declared.exit_status.Status.{Status}
use Rattle.run_scripts.specs.declared.exit_status.Status.TheVariants.{Done, KernelFault}
use Rattle.boot_turns.specs.Runs.{Run, Past, has_ended, steps_made, cvm_at}
use Rattle.run_scripts.specs.SessionRuns.{run_of}
use Rattle.boot_run.specs.RunCalls.{end_by}
use Rattle.run_scripts.specs.RunStatus.{run_status, status_of_end}
use Rattle.run_scripts.proofs.PromisesByRuns.{Headlines, ItGoesOn, RunsComplete}
use Rattle.run_scripts.specs.Keys.{LawsOfRuns}

pub it_goes_on : LawsOfRuns → ItGoesOn
it_goes_on law words plan session s rows before old a =
    let w = law.start words plan session s rows before old a in
    let m = law.machines s.unit _ _ _ w.late _ w.starts in
    let less = w.within in
    λ k c is. let h = m.goes_on k c is in let le = h.2 in (h.0, h.1, omega (arith, le, less))

-- a run that came to its end is done, or its kernel faulted
ended_status : (st : CvmStatus) → (status_of_end (end_by true st) ≡ Done) ⊎ (status_of_end (end_by true st) ≡ KernelFault)
ended_status Running = inl refl
ended_status Halted = inl refl
ended_status (Faulted f) = inr refl

-- the first end is found within steps that are enough
ended_within : TurnLaws → (r : Run) (t : ℕ) → IsTurnEnd r.around r.first r.turns t → t ≤ r.steps → has_ended r ≡ true
ended_within count r t e le =
    let at : steps_made r ≡ t = count.ends r.around r.first r.turns r.steps t e le in
    ap (is_end r.around r.first r.turns) at ∙ e.here

pub run_done : TurnLaws → (r : Run) (p : Past) (t : ℕ) → IsTurnEnd r.around r.first r.turns t → t ≤ r.steps → (run_status r p ≡ Done) ⊎ (run_status r p ≡ KernelFault)
run_done count r p t e le =
    let at : run_status r p ≡ status_of_end (end_by true (cvm_at r p (steps_made r)).status) =
    ap (λ (b : Bool). status_of_end (end_by b (cvm_at r p (steps_made r)).status)) (ended_within count r t e le) in
    by (ended_status (cvm_at r p (steps_made r)).status) at
  where
    by : {x : Status} → (x ≡ Done) ⊎ (x ≡ KernelFault) → run_status r p ≡ x → (run_status r p ≡ Done) ⊎ (run_status r p ≡ KernelFault)
    by (inl d) at = inl (at ∙ d)
    by (inr d) at = inr (at ∙ d)

pub runs_complete : Headlines → ItGoesOn → TurnLaws → RunsComplete
runs_complete heads goes count words session s rows before old new status a f ends m enough =
    let r : Run = run_of session s rows old.disk.size before in
    let h = heads words session s rows before old new status a f ends m in
    let t = goes words _ session s rows before old a r.turns enough.last enough.defined in
    let le = t.2 in
    let less = enough.enough in
    by (run_done count r h.past t.0 t.1 (omega (arith, le, less))) h.status_is
  where
    by : {x : Status} → (x ≡ Done) ⊎ (x ≡ KernelFault) → status ≡ x → (status ≡ Done) ⊎ (status ≡ KernelFault)
    by (inl d) e = inl (e ∙ d)
    by (inr d) e = inr (e ∙ d)
