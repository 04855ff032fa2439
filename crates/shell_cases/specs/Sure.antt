-- Why a command has the status of the shelf or of the disk where none of their calls fails.
use Rattle.std.specs.Prelude.{◌≡◌, ℕ, List, None}
use Rattle.cvm_outside.specs.Told.{TOO_LONG}
use Rattle.run_scripts.specs.Refusal.{too_long}
use Rattle.run_scripts.specs.Plan.{Plan, refuses, PlanComesTo}
use Rattle.run_scripts.specs.Causes.{NeedsMore}

-- these words come to the refusal of a file that is too long, of which the last `get` took 67,108,865 bytes
pub record IsTooLong (words : List (List ℕ)) (taken : ℕ) : Type 0 where
  pub comes : PlanComesTo words (λ name. None) (refuses too_long)
  pub taken_is : taken ≡ TOO_LONG

-- these words come to the run of a system that needs more sectors
pub record IsTooSmall (words : List (List ℕ)) (sectors : ℕ) : Type 0 where
  pub plan : Plan
  pub comes : PlanComesTo words (λ name. None) plan
  pub more : NeedsMore plan sectors
