use Rattle.std.proofs.Common.{◌≡◌, ◌+◌, ◌++◌, take, drop}
use Rattle.boot_run.proofs.pages.put_words.Given as goal

abbrev pub invariant-loop-i : goal.invariant-loop-i
invariant-loop-i l = l.machine ≡ record l.fn.machine { hardware = record l.fn.machine.hardware { memory = take l.at l.fn.machine.hardware.memory ++ (take l.i l.words ++ drop (l.at + l.i) l.fn.machine.hardware.memory) } }
