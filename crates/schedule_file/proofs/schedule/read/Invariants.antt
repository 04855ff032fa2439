-- So many lines are read: the schedule has their rows, they have no fault, and the rest has the lines after them.
use Rattle.std.proofs.Common.{◌≡◌, ◌≤◌, ◌+◌, [], length, take, drop}
use Rattle.cvm_text.specs.Lines.{lines_of}
use Rattle.schedule_file.specs.Schedule.{rows_of, first_row_fault}
use Rattle.schedule_file.proofs.schedule.read.Given as goal

abbrev pub invariant-loop-rest : goal.invariant-loop-rest
invariant-loop-rest l =
    let lines = lines_of l.fn.bytes in
    record {
      left : lines_of l.rest ≡ drop l.number lines;
      faults : first_row_fault (take l.number lines) (lines_of l.rest) ≡ first_row_fault [] lines;
      rows : l.schedule ≡ rows_of (take l.number lines);
      count : l.number + length l.rest ≤ length l.fn.bytes;
    }

abbrev pub decreases-loop-rest : goal.decreases-loop-rest
decreases-loop-rest l = length l.rest
