-- Each boot of the semaphore: in each state of its run at most one user is inside.
use Rattle.std.proofs.Common.{◌≡◌, ℕ, zero, suc, [], length, Some, refl, subst, arith}
use Rattle.cvm_model.specs.Cvm.{System, Cvm, IsCvm, first_cvm}
use Rattle.cvm_model.specs.Invariant.{dispatches_of, HasEight, RunsAreLawful}
use Rattle.kernel_linker.specs.Sources.{AcceptedAreOfImages}
use Rattle.run_scripts.specs.Boot.{booted}
use Rattle.kernel_theorems.specs.Text.{Means}
use Rattle.kernel_boots.proofs.StatesShown.{boots_of}
use Rattle.kernel_theorems.specs.SemaphoreTree.{semaphore}
use Rattle.kernel_theorems.specs.SemaphoreText.{text}
use Rattle.kernel_theorems.specs.Semaphore.{Runs, AtMostOneIsInside}
use Rattle.kernel_boots.specs.Semaphores.{IsExclusive, SemaphoresBoot}

-- before the first turn nobody is inside
at_start : (y : System) (c : Cvm) → Some (first_cvm y) ≡ Some c → IsExclusive [] c
at_start y c e = let s : first_cvm y ≡ c = cc in subst (IsExclusive []) s (record { safe = tt; rows = refl; one = λ u v some other in_u in_v. absurd (cc); answered = tt })

exclusive : AtMostOneIsInside → (y : System) → Runs y → (lines : ℕ → ℕ) → HasEight lines → (k : ℕ) (c : Cvm) → IsCvm y lines k c → IsExclusive (dispatches_of y lines 400 k) c
exclusive law y r lines eight zero c is = at_start y c is.is
exclusive law y r lines eight (suc k) c is = let h = (law y r lines eight k).1 c is in record { safe = h.safe; rows = h.rows; one = h.kept.one; answered = h.kept.answered }

pub semaphores_boot : AcceptedAreOfImages → RunsAreLawful → AtMostOneIsInside → Means text semaphore → SemaphoresBoot
semaphores_boot images laws law means = boots_of images laws text (λ s. length s.users ≡ 3) (λ y lines k c. IsExclusive (dispatches_of y lines 400 k) c)
    (λ s rows unit roomy is few lines eight k c h.
    exclusive law (booted s rows) (record { meaning_is = means s.unit s.params unit; three = is; fit = record { users = roomy.users; input = few }; room = omega (arith, roomy.stack) }) lines eight k c h)
    (λ y lines k c h. h.safe)
