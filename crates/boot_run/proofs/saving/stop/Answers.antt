use Rattle.std.proofs.Common.{◌≡◌, true, false, refl, sym, ap, ◌∙◌, subst}
use Rattle.std.specs.Prelude.{is_some}
use Rattle.boot_run.specs.RunEnds.{EndsUnsaved}
use Rattle.boot_run.proofs.WhereSavesStop.{none_ended}
use Rattle.boot_run.proofs.SaveScripts.{stop_closed, stop_on}
use Rattle.boot_run.proofs.saving.stop.Goals as goal

pub returns-then-over-clause-stays : goal.returns-then-over-clause-stays
returns-then-over-clause-stays g c = λ is. absurd (subst EndsUnsaved is c.close.ensures.ends)

pub returns-then-over-clause-unput : goal.returns-then-over-clause-unput
returns-then-over-clause-unput g c = λ is. subst EndsUnsaved is c.close.ensures.ends

pub returns-clause-stays : goal.returns-clause-stays
returns-clause-stays g c = λ _.
    let over : is_some c.args.run.now.ended ≡ false = ap is_some (sym c.ended.ensures) ∙ sym c.is_some-over.ensures ∙ c.if-over.false in
    (none_ended c.args.run.now.ended over, refl, refl, refl)

-- the calls
pub returns-then-over-clause-script : goal.returns-then-over-clause-script
returns-then-over-clause-script g c =
    let over : is_some c.args.run.now.ended ≡ true = ap is_some (sym c.ended.ensures) ∙ sym c.is_some-over.ensures ∙ c.if-over.true in
    stop_closed g.O.Sink g.D.Sectors c.args.run.now c.args.out.now c.close.new.out c.args.disk.now c.close.new.disk c.close.result over c.close.ensures.script

pub returns-clause-script : goal.returns-clause-script
returns-clause-script g c =
    let over : is_some c.args.run.now.ended ≡ false = ap is_some (sym c.ended.ensures) ∙ sym c.is_some-over.ensures ∙ c.if-over.false in
    stop_on g.O.Sink g.D.Sectors c.args.run.now c.args.out.now c.args.disk.now (none_ended c.args.run.now.ended over)
