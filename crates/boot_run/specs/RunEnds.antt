-- What of a run can be viewed, and how one ends that isn't saved.
use Rattle.std.specs.Prelude.{ℕ, ◌≤◌, ⊤}
use Rattle.boot_turns.specs.declared.answers.View.{View}
use Rattle.boot_turns.specs.declared.answers.View.TheVariants.{Boot, Trace}
use Rattle.boot_run.specs.declared.whole.RunEnd.{RunEnd}
use Rattle.boot_run.specs.declared.whole.RunEnd.TheVariants.{Stopped, ShelfFault}

-- what is viewed is a boot, or a user that there is
abbrev pub SeesUser : View → ℕ → Type 0
SeesUser Boot users = ⊤
SeesUser (Trace u) users = (1 ≤ u) × (u ≤ users)

-- an end of a run that isn't to be saved: it is not left to go on, and no file is put
abbrev pub EndsUnsaved : RunEnd → Type 0
EndsUnsaved Stopped = ⊥
EndsUnsaved ShelfFault = ⊥
EndsUnsaved other = ⊤
