-- The exit codes of a command.
use Rattle.std.specs.Prelude.{ℕ}
use Rattle.run_scripts.specs.declared.exit_status.Status.{Status}
use Rattle.run_scripts.specs.declared.exit_status.Status.TheVariants.{Done, Words, Refused, KernelFault, StepLimit, Disk, Shelf, Sink, Memory}

-- the exit code
abbrev pub code_of : Status → ℕ
code_of Done = 0
code_of Words = 1
code_of Refused = 2
code_of KernelFault = 3
code_of StepLimit = 4
code_of Disk = 5
code_of Shelf = 6
code_of Sink = 7
code_of Memory = 8
