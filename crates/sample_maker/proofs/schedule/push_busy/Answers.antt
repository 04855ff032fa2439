use Rattle.std.proofs.Common.{ℕ, ◌+◌, ◌%◌, ◌++◌, ◌∙◌, ap}
use Rattle.schedule_file.specs.declared.row.Row.TheVariants.{Busy}
use Rattle.sample_maker.specs.Sample.{busy_row, schedule_row_text}
use Rattle.sample_maker.proofs.OnePieceMore.{next_row}
use Rattle.sample_maker.proofs.schedule.push_busy.Goals as goal

pub loop-n-preserved : goal.loop-n-preserved
loop-n-preserved c =
    let put = c.in_ok-push_row.ensures ∙ ap (λ (x : ℕ). c.loop-n.text.items ++ schedule_row_text (Busy c.loop-n.n ((c.loop-n.n + x) % 50))) c.from.ensures in
    next_row (busy_row c.args.number) c.loop-n.text.items c.push_row.new.text.items _ c.loop-n.n 100 c.loop-n-test.true put c.loop-n.invariant
