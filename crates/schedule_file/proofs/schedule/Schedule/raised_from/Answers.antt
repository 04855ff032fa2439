-- Where the loop stops, the row at the place is of a later step or there is none: so all rows of the step are passed.
use Rattle.std.proofs.Common.{◌≤◌, ◌+◌, length, refl, sym, ap, ◌∙◌, subst, arith}
use Rattle.std.proofs.lemmas.List.{get_or_default}
use Rattle.schedule_file.specs.Rows.{Rows, lines_at, IsNextAt}
use Rattle.schedule_file.proofs.RowsSought.{all_told, next_place}
use Rattle.schedule_file.proofs.schedule.Schedule.raised_from.Goals as goal

pub loop-next-init : goal.loop-next-init
loop-next-init c =
    let start = subst (λ (rows : Rows). IsNextAt rows c.args.at c.args.step) (sym c.self.view_is) c.requires in
    record { told = refl; low = omega arith; high = start.within; passed = λ k d from to. absurd (omega arith) }

pub returns-else-index-step-clause-lines : goal.returns-else-index-step-clause-lines
returns-else-index-step-clause-lines c =
    let start = subst (λ (rows : Rows). IsNextAt rows c.args.at c.args.step) (sym c.self.view_is) c.requires in
    all_told (record { lines = c.self.inside.lines.items; busy = c.self.inside.busy.items; inputs = c.self.inside.inputs.items }) c.self.invariant.steps c.args.at c.args.step c.loop-next.next c.loop-next.lines.0 start c.loop-next.invariant.low c.loop-next.invariant.high c.loop-next.invariant.passed
    (λ d inside same. c.if-index-step.false (ap (λ row. row.step) (c.index.ensures ∙ get_or_default _ _ _ d inside) ∙ same)) c.loop-next.invariant.told
    ∙ ap (λ (rows : Rows). lines_at rows c.args.step) c.self.view_is

pub returns-else-index-step-clause-next : goal.returns-else-index-step-clause-next
returns-else-index-step-clause-next c =
    let start = subst (λ (rows : Rows). IsNextAt rows c.args.at c.args.step) (sym c.self.view_is) c.requires in
    subst (λ (rows : Rows). IsNextAt rows c.loop-next.next (c.args.step + 1)) c.self.view_is
    (next_place (record { lines = c.self.inside.lines.items; busy = c.self.inside.busy.items; inputs = c.self.inside.inputs.items }) c.self.invariant.steps c.args.at c.args.step c.loop-next.next c.loop-next.lines.0 start c.loop-next.invariant.low c.loop-next.invariant.high c.loop-next.invariant.passed
    (λ d inside same. c.if-index-step.false (ap (λ row. row.step) (c.index.ensures ∙ get_or_default _ _ _ d inside) ∙ same)))

pub returns-after-loop-next-clause-lines : goal.returns-after-loop-next-clause-lines
returns-after-loop-next-clause-lines c =
    let start = subst (λ (rows : Rows). IsNextAt rows c.args.at c.args.step) (sym c.self.view_is) c.requires in
    let past : length c.self.inside.lines.items ≤ c.loop-next.next = omega (arith, c.self.inside.lines.ok.0) in
    all_told (record { lines = c.self.inside.lines.items; busy = c.self.inside.busy.items; inputs = c.self.inside.inputs.items }) c.self.invariant.steps c.args.at c.args.step c.loop-next.next c.loop-next.lines.0 start c.loop-next.invariant.low c.loop-next.invariant.high c.loop-next.invariant.passed
    (λ d inside same. absurd (omega arith)) c.loop-next.invariant.told
    ∙ ap (λ (rows : Rows). lines_at rows c.args.step) c.self.view_is
