-- Each boot of the round robin: each state of its run is ordered.
use Rattle.std.proofs.Common.{◌≡◌, ℕ, zero, suc, length, Some, subst, arith}
use Rattle.cvm_model.specs.Cvm.{System, Cvm, IsCvm, first_cvm}
use Rattle.cvm_model.specs.Invariant.{HasEight, RunsAreLawful}
use Rattle.kernel_linker.specs.Sources.{AcceptedAreOfImages}
use Rattle.run_scripts.specs.Boot.{booted}
use Rattle.kernel_theorems.specs.Text.{Means}
use Rattle.kernel_theorems.specs.RoundRobin.{round_robin, RunsRoundRobin, RoundRobinIsFair}
use Rattle.kernel_theorems.specs.RoundRobinText.{text}
use Rattle.kernel_boots.specs.RoundRobins.{IsOrdered, RoundRobinsBoot}
use Rattle.kernel_boots.proofs.StatesShown.{boots_of}

at_start : (y : System) (c : Cvm) → Some (first_cvm y) ≡ Some c → IsOrdered c
at_start y c e = let s : first_cvm y ≡ c = cc in subst IsOrdered s (record { safe = tt; order = tt })

ordered : RoundRobinIsFair → (y : System) → RunsRoundRobin y 3 → (lines : ℕ → ℕ) → HasEight lines → (k : ℕ) (c : Cvm) → IsCvm y lines k c → IsOrdered c
ordered law y r lines eight zero c is = at_start y c is.is
ordered law y r lines eight (suc k) c is = let f = (law y 3 r lines eight k).1 c is in record { safe = f.safe; order = f.order }

pub round_robins_boot : AcceptedAreOfImages → RunsAreLawful → RoundRobinIsFair → Means text (round_robin 3) → RoundRobinsBoot
round_robins_boot images laws law means = boots_of images laws text (λ s. length s.users ≡ 3) (λ y lines k c. IsOrdered c)
    (λ s rows unit roomy is few lines eight k c h. ordered law (booted s rows) (record { meaning_is = means s.unit s.params unit; some = omega arith; few = omega arith; users_are = is; room = omega (arith, roomy.stack) }) lines eight k c h)
    (λ y lines k c h. h.safe)
