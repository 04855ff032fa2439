-- The lines so far, with those of the rows of the step that are left, are those of the step; the rows passed have its number.
use Rattle.std.proofs.Common.{◌≡◌, ◌≤◌, ◌-◌, ◌==◌, length, drop, fold}
use Rattle.std.specs.List.{filter, AllWithin}
use Rattle.schedule_file.specs.Rows.{with_lines}
use Rattle.schedule_file.proofs.schedule.Schedule.raised_from.Given as goal

abbrev pub invariant-loop-next : goal.invariant-loop-next
invariant-loop-next l =
    let rows = l.self-inside.lines.items in
    record {
      told : fold with_lines l.lines.0 (filter (λ row. row.step == l.step) (drop l.next rows)) ≡ fold with_lines 0 (filter (λ row. row.step == l.step) (drop l.fn.at rows));
      low : l.fn.at ≤ l.next;
      high : l.next ≤ length rows;
      passed : AllWithin (λ row. row.step ≡ l.step) rows l.fn.at l.next;
    }

abbrev pub decreases-loop-next : goal.decreases-loop-next
decreases-loop-next l = length l.self-inside.lines.items - l.next
