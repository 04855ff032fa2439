-- What each boot of the round robin of three users prints.
use Rattle.std.specs.Prelude.{◌≡◌, length}
use Rattle.cvm_model.specs.Cvm.{Cvm}
use Rattle.cvm_model.specs.Invariant.{IsSafe}
use Rattle.kernel_theorems.specs.RoundRobin.{InOrder}
use Rattle.kernel_theorems.specs.RoundRobinText.{text}
use Rattle.kernel_boots.specs.Boots.{BootsOf}

-- no dispatch has faulted, and the rows are in order
pub record IsOrdered (c : Cvm) : Type 0 where
  pub safe : IsSafe c.status
  pub order : InOrder 3 0 c.rows

-- EACH BOOT of an image with this text, of three users: its status is no kernel's fault, and what it printed is the text of a state whose rows are in order
abbrev pub RoundRobinsBoot : Type 0
RoundRobinsBoot = BootsOf text (λ s. length s.users ≡ 3) (λ y lines k c. IsOrdered c)
