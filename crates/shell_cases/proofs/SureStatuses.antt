-- What statuses a command has where no call of the shelf, the sink and the disk fails.
use Rattle.std.proofs.Common.{◌≡◌, ◌≢◌, inl, inr, List, ℕ, refl, subst, arith}
use Rattle.cvm_outside.specs.Causes.{Rose}
use Rattle.cvm_outside.specs.Outside.{Outside}
use Rattle.cvm_outside.specs.Script.{TheSink, TheDisk, TheShelf}
use Rattle.run_scripts.specs.declared.exit_status.Status.{Status}
use Rattle.run_scripts.specs.declared.exit_status.Status.TheVariants.{Disk, Shelf, Sink}
use Rattle.run_scripts.specs.Causes.{CausedBy, IsTooLong, IsTooSmall}

pub no_rise : Rose 0 0 → ⊥
no_rise h = omega arith

pub no_sink : (words : List (List ℕ)) (status : Status) (old new : Outside) → (Rose old.sink.faults new.sink.faults → ⊥) → CausedBy status words old new → status ≢ Sink
no_sink words status old new none caused e = let k = subst (λ (s : Status). CausedBy s words old new) e caused in none ((k TheSink).rose refl)

-- a file is too long where the status is the shelf's
pub too_long_only : (words : List (List ℕ)) (status : Status) (old new : Outside) → (Rose old.shelf.faults new.shelf.faults → ⊥) → CausedBy status words old new → status ≡ Shelf → IsTooLong words old new
too_long_only words status old new none caused e = by (subst (λ (s : Status). CausedBy s words old new) e caused)
  where
    by : CausedBy Shelf words old new → IsTooLong words old new
    by (inl k) = absurd (none ((k TheShelf).rose refl))
    by (inr (k, long)) = long

-- and the disk is too small where it is the disk's
pub too_small_only : (words : List (List ℕ)) (status : Status) (old new : Outside) → (Rose old.disk.faults new.disk.faults → ⊥) → CausedBy status words old new → status ≡ Disk → IsTooSmall words old
too_small_only words status old new none caused e = by (subst (λ (s : Status). CausedBy s words old new) e caused)
  where
    by : CausedBy Disk words old new → IsTooSmall words old
    by (inl k) = absurd (none ((k TheDisk).rose refl))
    by (inr (k, small)) = small
