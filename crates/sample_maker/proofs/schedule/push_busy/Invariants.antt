use Rattle.std.proofs.Common.{◌≡◌, ◌-◌, ◌++◌, map}
use Rattle.std.specs.List.{range_with_len}
use Rattle.sample_maker.specs.Sample.{schedule_rows_text, busy_row}
use Rattle.sample_maker.proofs.schedule.push_busy.Given as goal

abbrev pub invariant-loop-n : goal.invariant-loop-n
invariant-loop-n l =
    l.text.items ++ schedule_rows_text (map (busy_row l.number) (range_with_len l.n (100 - l.n))) ≡ l.initial.text.items ++ schedule_rows_text (map (busy_row l.number) (range_with_len 0 100))
