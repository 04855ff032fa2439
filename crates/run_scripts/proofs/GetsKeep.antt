-- What gets keep.
use Rattle.std.proofs.Common.{◌≡◌, ◌⊎◌, inl, inr, ℕ, zero, suc, List, [], ◌∷◌, Option, Some, None, Bool, true, false, refl, ap, ◌∙◌}
use Rattle.run_scripts.specs.declared.exit_status.Status.{Status}
use Rattle.run_scripts.specs.declared.exit_status.Status.TheVariants.{Done, KernelFault, StepLimit, Memory}
use Rattle.cvm_outside.specs.Script.{Call, Who, TheSink, TheDisk, TheShelf, done as all_done, goes_on, Performs}
use Rattle.cvm_outside.specs.Outside.{Outside}
use Rattle.cvm_model.specs.Cvm.{Status as CvmStatus, Running, Halted, Faulted}
use Rattle.run_scripts.specs.Plan.{Plan, bad_words, refuses, puts, boots, saves, resumes, prints as tells}
use Rattle.kernel_linker.specs.Accept.{ImageSystem}
use Rattle.schedule_file.specs.Rows.{Rows}
use Rattle.run_scripts.specs.declared.session.Session.{Session}
use Rattle.run_scripts.specs.Refusal.{Refusal, refusal_status, small_disk, too_long, bad_text, bad_source, bad_program, bad_object, bad_file, unlinked, unaccepted, bad_schedule, bad_save, no_such_user}
use Rattle.boot_turns.specs.Runs.{Run, Past, state_at, has_ended, cvm_at, steps_made}
use Rattle.run_scripts.specs.SessionRuns.{run_of}
use Rattle.boot_run.specs.RunCalls.{end_by}
use Rattle.run_scripts.specs.RunStatus.{run_status, status_of_end, power_status}
use Rattle.run_scripts.specs.Ends.{Wants, PlanAsks, session_load, SessionAsks, SomeRunAsks, SomeSaveAsks, no_user, small, over_told, over_untold, as_boot, is_saved, answered, done, no_memory, behind, within, wants}
use Rattle.run_scripts.specs.Served.{gets}
use Rattle.run_scripts.specs.AskedRuns.{Untouched, MemoryKeeps}

-- gets that were made leave all but the shelf's count of bytes
pub gets_keep : (names : List (List ℕ)) (old new : Outside) → Performs (gets names) old new None → Untouched old new
gets_keep [] old new (all_done _) = record { sink = refl; disk = refl; files = λ n. refl }
gets_keep (name ∷ names) old new (goes_on c rest _ mid _ _ d p) =
    let h = gets_keep names mid new p in
    record { sink = h.sink ∙ ap (λ (o : Outside). o.sink) d.3; disk = h.disk ∙ ap (λ (o : Outside). o.disk) d.3; files = λ n. h.files n ∙ d.0 n }

pub wanted : (names : List (List ℕ)) (old new : Outside) → Wants names old new → Untouched old new
wanted names old new (behind made rest e s p t) = gets_keep made old new p
wanted names old new (within made rest name mid e short p (wants f c t s k)) =
    let h = gets_keep made old mid p in
    record { sink = ap (λ (o : Outside). o.sink) s ∙ h.sink; disk = ap (λ (o : Outside). o.disk) s ∙ h.disk; files = λ n. f n ∙ h.files n }

status_is : (r : Refusal) → Memory ≡ refusal_status r → ⊥
status_is (small_disk need have) e = cc
status_is too_long e = cc
status_is (bad_text f) e = cc
status_is (bad_source f) e = cc
status_is (bad_program f) e = cc
status_is (bad_object f) e = cc
status_is (bad_file f) e = cc
status_is (unlinked f) e = cc
status_is (unaccepted f) e = cc
status_is (bad_schedule f) e = cc
status_is (bad_save f) e = cc
status_is (no_such_user u n) e = cc

run_due : (r : Run) (load : List Call) (p : Past) → Memory ≡ run_status r p → ⊥
run_due r load p e = by (has_ended r) (cvm_at r p (steps_made r)).status e
  where
    by : (b : Bool) (s : CvmStatus) → Memory ≡ status_of_end (end_by b s) → ⊥
    by true Running e = cc
    by true Halted e = cc
    by true (Faulted f) e = cc
    by false s e = cc

never : (due : Status) (blamed : Option Who) → (Memory ≡ due → ⊥) → Memory ≡ answered due blamed → ⊥
never due None n e = n e
never due (Some TheSink) n e = cc
never due (Some TheDisk) n e = cc
never due (Some TheShelf) n e = cc

power_due : (b : Bool) (o : Option ℕ) → Memory ≡ power_status b o → ⊥
power_due true None e = cc
power_due true (Some zero) e = cc
power_due true (Some (suc n)) e = cc
power_due false o e = cc

some_due : (load script : List Call) (due : Status) → SomeRunAsks load script due → Memory ≡ due → ⊥
some_due load script due t e = by t.3
  where
    by : (due ≡ Done) ⊎ ((due ≡ KernelFault) ⊎ (due ≡ StepLimit)) → ⊥
    by (inl f) = cc
    by (inr (inl f)) = cc
    by (inr (inr f)) = cc

save_due : (name : List ℕ) (load script : List Call) (due : Status) → SomeSaveAsks name load script due → Memory ≡ due → ⊥
save_due name load script due (as_boot _ _ t) e = some_due load script due t e
save_due name load script due (is_saved more bytes a) e = cc

session_due : (session : Session) (s : ImageSystem) (rows : Rows) (old : Outside) (Told : List (List ℕ) → List Call → Status → Type 0) (Some_ : List Call → Status → Type 0) →
    ((ss : List (List ℕ)) (sc : List Call) (st : Status) → Told ss sc st → Memory ≡ st → ⊥) → ((sc : List Call) (st : Status) → Some_ sc st → Memory ≡ st → ⊥) →
    (script : List Call) (due : Status) → SessionAsks session s rows old Told Some_ script due → Memory ≡ due → ⊥
session_due session s rows old T S t m script due (no_user u v n) e = cc
session_due session s rows old T S t m script due (small v n) e = cc
session_due session s rows old T S t m script due (over_told ss _ _ v n q a) e = t ss script due a e
session_due session s rows old T S t m script due (over_untold _ _ v n q a) e = m script due a e

due_is : (p : Plan) (old : Outside) (script : List Call) (due : Status) → PlanAsks p old script due → Memory ≡ due → ⊥
due_is bad_words old script due a e = let f = a.1 in cc
due_is (refuses r) old script due a e = status_is r (e ∙ a.1)
due_is (puts name bytes) old script due a e = let f = a.1 in cc
due_is (tells text) old script due a e = let f = a.1 in cc
due_is (boots session s rows) old script due a e =
    session_due session s rows old _ _ (λ ss sc st t e. run_due (run_of session s rows old.disk.size ss) [] t.past (e ∙ t.status_is)) (λ sc st t e. some_due (session_load session s rows) sc st t e) script due a e
due_is (saves session s rows name) old script due a e =
    session_due session s rows old _ _ (λ ss sc st t e. run_due (run_of session s rows old.disk.size ss) [] t.past (e ∙ t.status_is)) (λ sc st t e. save_due name (session_load session s rows) sc st t e) script due a e
due_is (resumes session s rows words) old script due a e =
    session_due session s rows old _ _ (λ ss sc st t e. power_due (has_ended t.run) (state_at t.run (steps_made t.run)).off (e ∙ t.status_is))
    (λ sc st t e. some_due [] sc st t e) script due a e

pub memory_keeps : MemoryKeeps
memory_keeps words old new (done _ d) = absurd (never d.due d.blamed (due_is d.plan d.mid d.script d.due d.asks) d.status_is)
memory_keeps words old new (no_memory c is w) = wanted _ old new w
