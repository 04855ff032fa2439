-- What no boot of the guarded kernel ends with.
use Rattle.std.specs.Prelude.{◌≤◌, length}
use Rattle.cvm_model.specs.Invariant.{IsSafe}
use Rattle.kernel_theorems.specs.Guarded.{text}
use Rattle.kernel_boots.specs.Boots.{BootsOf}

-- EACH BOOT of an image with this text and a user: its status is no kernel's fault, and what it printed is the text of a state without one
abbrev pub GuardedKernelsBoot : Type 0
GuardedKernelsBoot = BootsOf text (λ s. 1 ≤ length s.users) (λ y lines k c. IsSafe c.status)
