-- The steps never fall, so the last row has the greatest; and the bits of rows together are eight.
use Rattle.std.proofs.Common.{◌<◌, ◌≤◌, ◌^◌, length, sym, ap, ◌∙◌, subst, arith}
use Rattle.schedule_file.specs.Rows.{Rows, lines_at}
use Rattle.schedule_file.proofs.RowsSought.{quiet_after, last_is_greatest, eight_lines}
use Rattle.schedule_file.proofs.schedule.Schedule.last_step.Goals as goal

pub returns-in-Some-clause-quiet : goal.returns-in-Some-clause-quiet
returns-in-Some-clause-quiet c step past =
    let last = rw c.deref.ensures.value at c.in-Some.ensures.item.1 in
    ap (λ (rows : Rows). lines_at rows step) (sym c.self.view_is)
    ∙ quiet_after (record { lines = c.self.inside.lines.items; busy = c.self.inside.busy.items; inputs = c.self.inside.inputs.items }) c.in-Some.row.now.step step (last_is_greatest c.self.inside.lines.items c.in-Some.row.now c.self.invariant.steps last) past

pub returns-in-Some-clause-eight : goal.returns-in-Some-clause-eight
returns-in-Some-clause-eight c step = subst (λ (rows : Rows). lines_at rows step < 2 ^ 8) c.self.view_is (eight_lines (record { lines = c.self.inside.lines.items; busy = c.self.inside.busy.items; inputs = c.self.inside.inputs.items }) step c.self.invariant.bits)

pub returns-in-None-clause-quiet : goal.returns-in-None-clause-quiet
returns-in-None-clause-quiet c step past =
    let none : length c.self.inside.lines.items ≤ 0 = rw c.deref.ensures.value at c.in-None.ensures.item.3 in
    ap (λ (rows : Rows). lines_at rows step) (sym c.self.view_is)
    ∙ quiet_after (record { lines = c.self.inside.lines.items; busy = c.self.inside.busy.items; inputs = c.self.inside.inputs.items }) 0 step (λ k d from to. absurd (omega arith)) past

pub returns-in-None-clause-eight : goal.returns-in-None-clause-eight
returns-in-None-clause-eight c step = subst (λ (rows : Rows). lines_at rows step < 2 ^ 8) c.self.view_is (eight_lines (record { lines = c.self.inside.lines.items; busy = c.self.inside.busy.items; inputs = c.self.inside.inputs.items }) step c.self.invariant.bits)
