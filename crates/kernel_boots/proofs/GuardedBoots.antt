-- Each boot of the guarded kernel: no state of its run has a fault.
use Rattle.std.proofs.Common.{◌≡◌, ◌≤◌, ℕ, zero, suc, length, Some, subst, arith}
use Rattle.cvm_model.specs.Cvm.{System, Cvm, IsCvm, first_cvm}
use Rattle.cvm_model.specs.Invariant.{HasEight, IsSafe, RunsAreLawful}
use Rattle.kernel_linker.specs.Sources.{AcceptedAreOfImages}
use Rattle.run_scripts.specs.Boot.{booted}
use Rattle.kernel_theorems.specs.Text.{Means}
use Rattle.kernel_theorems.specs.GuardedTree.{guarded}
use Rattle.kernel_theorems.specs.Guarded.{text, RunsGuarded, GuardedNeverFaults}
use Rattle.kernel_boots.specs.Guardeds.{GuardedKernelsBoot}
use Rattle.kernel_boots.proofs.StatesShown.{boots_of}

at_start : (y : System) (c : Cvm) → Some (first_cvm y) ≡ Some c → IsSafe c.status
at_start y c e = let s : first_cvm y ≡ c = cc in subst (λ (c : Cvm). IsSafe c.status) s tt

safe : GuardedNeverFaults → (y : System) → RunsGuarded y → (lines : ℕ → ℕ) → HasEight lines → (k : ℕ) (c : Cvm) → IsCvm y lines k c → IsSafe c.status
safe law y r lines eight zero c is = at_start y c is.is
safe law y r lines eight (suc k) c is = (law y r lines eight k).1 c is

pub guarded_kernels_boot : AcceptedAreOfImages → RunsAreLawful → GuardedNeverFaults → Means text guarded → GuardedKernelsBoot
guarded_kernels_boot images laws law means = boots_of images laws text (λ s. 1 ≤ length s.users) (λ y lines k c. IsSafe c.status)
    (λ s rows unit roomy is few lines eight k c h. safe law (booted s rows) (record { meaning_is = means s.unit s.params unit; some = is; room = omega (arith, roomy.stack) }) lines eight k c h)
    (λ y lines k c h. h)
