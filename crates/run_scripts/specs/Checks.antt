-- STACK THAT IS ENOUGH, as a law: no run of such a system meets want of stack. What a `yes` of a check means stands in Suffices.
use Rattle.std.specs.Prelude.{◌≢◌, ℕ, List}
use Rattle.schedule_file.specs.Rows.{Rows}
use Rattle.cvm_model.specs.declared.kernel_fault.KernelFault.TheVariants.{StackOut}
use Rattle.cvm_model.specs.Cvm.{Faulted}
use Rattle.kernel_linker.specs.Accept.{ImageSystem}
use Rattle.run_scripts.specs.declared.session.Session.{Session}
use Rattle.run_scripts.specs.Suffices.{SystemNeverOut}
use Rattle.boot_turns.specs.Runs.{Past, IsPast, steps_made, cvm_at}
use Rattle.run_scripts.specs.SessionRuns.{run_of}

-- where the stack of a system is enough, no run of it by any command meets want of stack
abbrev pub StackOutIsNotMet : Type 0
StackOutIsNotMet = (s : ImageSystem) → SystemNeverOut s → (session : Session) (rows : Rows) (size : ℕ) (before : List (List ℕ)) (p : Past) →
    IsPast (run_of session s rows size before) p →
    (cvm_at (run_of session s rows size before) p (steps_made (run_of session s rows size before))).status ≢ Faulted StackOut
