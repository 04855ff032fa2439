use Rattle.run_scripts.proofs.PromisedSaves.{resumes_are_held}
use Rattle.run_scripts.proofs.laws.resumes_are_held.Goals as goal

pub returns : goal.returns
returns c = resumes_are_held c.laws_below.ensures c.resumable_words_are_answered.ensures.resumable c.saved_machines_differ.ensures
