-- What each boot of the semaphore shows.
use Rattle.std.specs.Prelude.{◌≡◌, List, [], length}
use Rattle.cvm_model.specs.Cvm.{Cvm}
use Rattle.cvm_model.specs.Invariant.{Dispatch, dispatch_rows, dispatches_of, IsSafe}
use Rattle.kernel_theorems.specs.History.{EachHas}
use Rattle.kernel_boots.specs.Boots.{BootsOf}
use Rattle.kernel_theorems.specs.Semaphore.{AtMostOne, IsAnswered}
use Rattle.kernel_theorems.specs.SemaphoreText.{text}

-- a state of a run: no dispatch has faulted, its rows are those of these dispatches, at most one user is inside after them, and each call was answered
pub record IsExclusive (past : List Dispatch) (c : Cvm) : Type 0 where
  pub safe : IsSafe c.status
  pub rows : c.rows ≡ dispatch_rows past
  pub one : AtMostOne past
  pub answered : EachHas IsAnswered [] past

-- EACH BOOT of an image with this text, of three users: its status is no kernel's fault, and what it printed is the text of a state whose rows are those of
-- its run's dispatches, after which at most one user is inside
abbrev pub SemaphoresBoot : Type 0
SemaphoresBoot = BootsOf text (λ s. length s.users ≡ 3) (λ y lines k c. IsExclusive (dispatches_of y lines 400 k) c)
