use Rattle.std.proofs.Common.{Err, rules, ◌∙◌, ap, sym}
use Rattle.boot_run.specs.LoadEnds.{Kept}
use Rattle.boot_run.specs.Shown.{has_faulted}
use Rattle.boot_run.proofs.ClosingCalls.{kept_report, faulted_report}
use Rattle.boot_run.proofs.run.Run.report.Goals as goal

pub returns-clause-rest : goal.returns-clause-rest
returns-clause-rest g c =
    record {
      same = search rules;
      again = search rules;
      still = search rules;
      keeps = search rules;
      fine = search rules;
      limit = search rules;
    }

-- the calls
pub returns-in-Some-clause-script : goal.returns-in-Some-clause-script
returns-in-Some-clause-script g c =
    kept_report {T = Unit {0}} g.O.Sink g.D.Sectors c.args.self.now c.args.out.now c.args.disk.now (Err c.in-Some.fault) c.in-Some.fault (ap (λ (q : Kept _). q.fault) (sym c.self.view_is) ∙ c.in-Some.is)

pub returns-then-has_faulted-clause-script : goal.returns-then-has_faulted-clause-script
returns-then-has_faulted-clause-script g c =
    faulted_report {T = Unit {0}} g.O.Sink g.D.Sectors c.args.self.now c.args.out.now c.args.disk.now tt
    (ap (λ (q : Kept _). has_faulted q.ended) (sym c.self.view_is) ∙ sym c.has_faulted.ensures ∙ c.if-has_faulted.true)
