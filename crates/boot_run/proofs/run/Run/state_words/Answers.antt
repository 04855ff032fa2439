use Rattle.std.proofs.Common.{[], length, sym, ap, ◌∙◌, subst, ◌+◌, ◌≤◌}
use Rattle.boot_run.specs.LoadEnds.{Kept}
use Rattle.boot_run.specs.Saving.{saved_run}
use Rattle.boot_run.proofs.run.Run.state_words.Goals as goal

pub returns-clause-words : goal.returns-clause-words
returns-clause-words g c = ap (λ (r : Kept _). length (saved_run r)) (sym c.self.view_is) ∙ c.state_words.ensures.words [] c.self.inside.turns c.self.inside.current

pub returns-clause-most : goal.returns-clause-most
returns-clause-most g c = subst (λ (r : Kept _). c.state_words.result ≤ 5176 + length r.machine.hardware.memory) c.self.view_is c.state_words.ensures.most
