-- The numbers of faults, as they are printed, and what each names.
use Rattle.std.specs.Prelude.{ℕ, Option, Some, None}
use Rattle.schedule_file.specs.declared.fault.ScheduleFault.{ScheduleFault}
use Rattle.schedule_file.specs.declared.fault.ScheduleFault.TheVariants.{BadLine, Order, Range, TooManyInputs, Memory}

abbrev pub schedule_fault_number : ScheduleFault → ℕ
schedule_fault_number (BadLine line) = 70
schedule_fault_number (Order line) = 71
schedule_fault_number (Range line value) = 72
schedule_fault_number Memory = 73
schedule_fault_number (TooManyInputs line) = 74

-- the line, if it names one
abbrev pub schedule_fault_line : ScheduleFault → Option ℕ
schedule_fault_line (BadLine line) = Some line
schedule_fault_line (Order line) = Some line
schedule_fault_line (Range line value) = Some line
schedule_fault_line (TooManyInputs line) = Some line
schedule_fault_line Memory = None

-- the number that is out of range
abbrev pub schedule_fault_value : ScheduleFault → Option ℕ
schedule_fault_value (Range line value) = Some value
schedule_fault_value other = None
