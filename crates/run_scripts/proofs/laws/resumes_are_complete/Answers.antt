use Rattle.run_scripts.proofs.PromisedSaves.{resumes_are_complete}
use Rattle.run_scripts.proofs.laws.resumes_are_complete.Goals as goal

pub returns : goal.returns
returns c = resumes_are_complete c.laws_below.ensures c.resumable_words_are_answered.ensures.resumable
