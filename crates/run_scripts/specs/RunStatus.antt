-- HOW A RUN'S STATUS is due.
use Rattle.std.specs.Prelude.{◌≡◌, ◌⊎◌, ℕ, Bool, Option}
use Rattle.run_scripts.specs.declared.exit_status.Status.{Status}
use Rattle.run_scripts.specs.declared.exit_status.Status.TheVariants.{Done, KernelFault, StepLimit, Disk, Shelf, Sink}
use Rattle.boot_turns.specs.Runs.{Run, Past}
use Rattle.boot_run.specs.declared.whole.RunEnd.{RunEnd}
use Rattle.boot_run.specs.declared.whole.RunEnd.TheVariants as ends
use Rattle.boot_run.specs.RunCalls.{due_end}
use Rattle.boot_run.specs.AnyScripts.{end_by_power}

-- the status of a run by its end
abbrev pub status_of_end : RunEnd → Status
status_of_end ends.Done = Done
status_of_end ends.Stopped = Done
status_of_end ends.KernelFaulted = KernelFault
status_of_end ends.OutOfSteps = StepLimit
status_of_end ends.DiskFault = Disk
status_of_end ends.SinkFault = Sink
status_of_end ends.ShelfFault = Shelf

-- where no call fails: by what the abstract machine says, or by the power word of the machine
abbrev pub run_status : Run → Past → Status
run_status r p = status_of_end (due_end r p)

abbrev pub power_status : (ended : Bool) → Option ℕ → Status
power_status ended off = status_of_end (end_by_power ended off)

-- one of these it is
abbrev pub IsRunStatus : Status → Type 0
IsRunStatus status = (status ≡ Done) ⊎ ((status ≡ KernelFault) ⊎ (status ≡ StepLimit))
