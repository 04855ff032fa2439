-- The headline of every command, from the keys and the laws of scripts.
use Rattle.std.specs.Prelude.{Option, None}
use Rattle.std.specs.Io.KnownBytes.{append_known}
use Rattle.std.proofs.Common.{List, [], refl, sym, ap, ◌∙◌, subst, arith}
use Rattle.run_scripts.specs.Plan.{boots}
use Rattle.cvm_outside.specs.Script.{Call, Who, Performs}
use Rattle.boot_turns.specs.Runs.{Run, state_at, steps_made}
use Rattle.boot_run.specs.RunScript.{run_script}
use Rattle.run_scripts.specs.Ends.{done, no_file, no_memory, RunAsks, SomeRunAsks, session_load}
use Rattle.run_scripts.specs.SessionRuns.{run_of}
use Rattle.run_scripts.proofs.PromisesByRuns.{Headlines}
use Rattle.run_scripts.specs.AskedRuns.{whole_text}
use Rattle.run_scripts.proofs.StatusesCaused.{mid_disk}
use Rattle.run_scripts.proofs.PerformedScripts.{says_text, leaves_sectors}
use Rattle.run_scripts.specs.Keys.{ScriptLaws}
use Rattle.run_scripts.proofs.NothingElseRefused.{none_blamed, status_due, plan_asks, no_file_failed}
use Rattle.run_scripts.proofs.SavesComplete.{told_asks}
use Rattle.run_scripts.proofs.ScriptsTell.{Tells}
use Rattle.run_scripts.proofs.KeysOfEachRun.{scripts_tell_the_text, scripts_store_the_sectors, sectors_behind_stay, ends_are_over}

pub headlines : ScriptLaws → Headlines
headlines law words session s rows before old new status a f (done _ h) m =
    let r : Run = run_of session s rows old.disk.size before in
    let load : List Call = session_load session s rows in
    let asks = plan_asks law.blame words old new status h (boots session s rows) a.files a.is_plan in
    let k = mid_disk law.blame words old new status h in
    let t = told_asks words _ session s rows before old h.mid (λ size ss. RunAsks (run_of session s rows size ss) (λ r. run_script r (session_load session s rows))) (SomeRunAsks (session_load session s rows)) h.script h.due a k.0 asks in
    let n = none_blamed law.blame words old new status h f in
    let p : Performs (run_script r load t.past) h.mid new None =
    subst (λ (x : List Call). Performs x h.mid new None) t.script_is (subst (λ (b : Option Who). Performs h.script h.mid new b) n h.performs) in
    let told : Tells (run_script r load t.past) [] (whole_text r t.past) =
    record { text = whole_text r t.past; told = scripts_tell_the_text law.runs words _ session s rows before old a t.past t.is_past; is = refl } in
    let text = says_text law.tell (run_script r load t.past) old h.mid new [] (whole_text r t.past) told k.1 p in
    let made = scripts_store_the_sectors law.runs words _ session s rows before old a t.past t.is_past in
    record {
      past = t.past;
      is_past = t.is_past;
      machine = record {
        are = leaves_sectors law.store (run_script r load t.past) old h.mid new before (state_at r (steps_made r)).device.sectors a.sectors made k.0 p;
        beyond = sectors_behind_stay law.runs words _ session s rows before old a (steps_made r) (omega arith);
      };
      status_is = status_due law.blame words old new status h n ∙ t.status_is;
      text = text.printed ∙ ap (append_known old.sink.text) (sym text.is);
      over = ends_are_over law.runs words _ session s rows before old a;
    }
headlines law words session s rows before old new status a f (no_file c i g) m = absurd (no_file_failed law.blame words c old new i f.shelf g)
headlines law words session s rows before old new status a f (no_memory c i w) m = absurd (m refl)
