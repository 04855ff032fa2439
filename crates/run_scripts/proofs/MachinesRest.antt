-- Where a run with no failed call ended the machine rests: the law of each run that words ask for (`ends_are_over`), by what a call ended with.
use Rattle.run_scripts.specs.Keys.{ScriptLaws}
use Rattle.run_scripts.specs.Command.{save_session}
use Rattle.run_scripts.specs.Promises.{MachinesRest}
use Rattle.run_scripts.proofs.KeysOfEachRun.{ends_are_over}
use Rattle.run_scripts.proofs.DiskDoesntMatter.{with_disk, other_disk}
use Rattle.run_scripts.proofs.RunPromises.{was_done, asked_of, no_call_failed}
use Rattle.run_scripts.proofs.PromisedSaves.{asked_save_of, asked_resume_of, no_save_failed, no_resume_failed}

pub machines_rest : ScriptLaws → MachinesRest
machines_rest law words old new status ends = record {
  of_boots = λ session s rows before honest some.
      let h = was_done law.blame words old new status ends (no_call_failed words session s rows before old new honest) some in
      ends_are_over law.runs words _ session s rows before old (asked_of words session s rows before old new status h honest);
  of_saves = λ c s rows before honest some.
      let h = was_done law.blame words old new status ends (no_save_failed words c s rows before old new honest) some in
      ends_are_over law.runs words _ (save_session c) s rows before old (asked_save_of words c s rows before old new status h honest);
  of_resumes = λ c s rows machine left before shown honest some w.
      let h = was_done law.blame words old new status ends (no_resume_failed words c s rows machine left old new honest) some in
      let a = asked_resume_of words c s rows machine left old new status h honest in
      ends_are_over law.runs words _ (save_session c) s rows before (with_disk old before) (other_disk words _ (save_session c) s rows left before old a w.disk);
}
