use Rattle.std.proofs.Common.{◌≡◌, ◌-◌, ◌++◌, map}
use Rattle.std.specs.List.{range_with_len}
use Rattle.sample_maker.specs.Sample.{schedule_rows_text, line_row}
use Rattle.sample_maker.proofs.schedule.push_lines.Given as goal

abbrev pub invariant-loop-i : goal.invariant-loop-i
invariant-loop-i l =
    l.text.items ++ schedule_rows_text (map line_row (range_with_len l.i (41 - l.i))) ≡ l.initial.text.items ++ schedule_rows_text (map line_row (range_with_len 1 40))
