-- What the ends are that faults of a run make.
use Rattle.std.proofs.Common.{◌≡◌, false, refl, sym, subst}
use Rattle.boot_turns.specs.declared.answers.RunFault.{RunFault}
use Rattle.boot_turns.specs.declared.answers.RunFault.TheVariants.{StepLimit, Disk, Sink}
use Rattle.boot_run.specs.AnyRun.{is_faulted}
use Rattle.boot_run.specs.Pieces.{end_of_fault}
use Rattle.boot_run.specs.RunEnds.{EndsUnsaved}
use Rattle.boot_run.specs.declared.whole.RunEnd.{RunEnd}

-- only a kernel's fault is a fault
pub fault_is : (f : RunFault) → is_faulted (end_of_fault f) ≡ false
fault_is StepLimit = refl
fault_is Disk = refl
fault_is Sink = refl

-- none is of a run that was to be saved
pub fault_unsaved : (f : RunFault) (e : RunEnd) → e ≡ end_of_fault f → EndsUnsaved e
fault_unsaved f e is = subst EndsUnsaved (sym is) (by f)
  where
    by : (f : RunFault) → EndsUnsaved (end_of_fault f)
    by StepLimit = tt
    by Disk = tt
    by Sink = tt
