-- Who is next, as the machine shows it at the end of a turn.
use Rattle.std.specs.Prelude.{ℕ, Bool, true, false, ◌==◌, if◌then◌else◌, Option, Some, None}
use Rattle.cvm_model.specs.Cvm.{Status, Running, Halted, Faulted, status_of}
use Rattle.cvm_model.specs.declared.kernel_fault.KernelFault.{KernelFault}
use Rattle.cvm_model.specs.declared.kernel_fault.KernelFault.TheVariants.{NullUse, Bounds, DivZero, StackOut, BadUser}
use Rattle.cvm_model.specs.declared.row.Next.{Next}
use Rattle.cvm_model.specs.declared.row.Next.TheVariants.{User, Halt, Fault}

-- the fault of a power word: that of 1 to 4, and of any other one that of a bad user
abbrev pub fault_of_power : ℕ → KernelFault
fault_of_power power =
    if power == 1 then NullUse else
    if power == 2 then Bounds else
    if power == 3 then DivZero else
    if power == 4 then StackOut else
    BadUser

-- where the machine is off by its power word, and else the current user
abbrev pub next_shown : Option ℕ → ℕ → Next
next_shown None current = User current
next_shown (Some power) current = if power == 0 then Halt else Fault (fault_of_power power)

-- how a run has ended with this status, if it has
abbrev pub ended_of : Status → Option Next
ended_of Running = None
ended_of Halted = Some Halt
ended_of (Faulted f) = Some (Fault f)

-- and with this next
abbrev pub end_of_next : Next → Option Next
end_of_next next = ended_of (status_of next)

-- whether it has ended by a fault of the kernel
abbrev pub has_faulted : Option Next → Bool
has_faulted (Some (Fault f)) = true
has_faulted other = false
