use Rattle.sample_maker.specs.Sample.{line_row}
use Rattle.sample_maker.proofs.OnePieceMore.{next_row}
use Rattle.sample_maker.proofs.schedule.push_lines.Goals as goal

pub loop-i-preserved : goal.loop-i-preserved
loop-i-preserved c =
    next_row line_row c.loop-i.text.items c.push_row.new.text.items _ c.loop-i.i 41 c.loop-i-test.true c.in_ok-push_row.ensures c.loop-i.invariant
