-- What the calls of a loaded run come to, by the run, the disk and the budget before, and then by those after. The first two words of each tell the
-- disk's size and its sectors.
use Rattle.std.specs.Prelude.{◌≡◌, ℕ, Option, None, List, Result}
use Rattle.boot_turns.specs.declared.answers.Turn.{Turn}
use Rattle.boot_turns.specs.declared.answers.RunFault.{RunFault}
use Rattle.boot_run.specs.AnyRun.{AnyTurnsRun, AnyGoRuns}
use Rattle.boot_run.specs.LoadEnds.{Kept}
use Rattle.boot_run.specs.TurnCalls.{run_around, TurnsRun}
use Rattle.boot_run.specs.TurnParts.{MakesTurn}
use Rattle.boot_run.specs.Pieces.{GoRuns}

module _ {D : Type 0} (size : D → ℕ) (sectors : D → Option (List (List ℕ))) where
  -- the machine makes turns, so many at most
  abbrev pub MakesTurns : {L : Type 0} → (most : ℕ) → Kept L → D → ℕ → Kept L → D → ℕ → Result (ℕ × Turn) RunFault → Type 0
  MakesTurns most run disk budget new retold left result =
      MakesTurn (size disk) run new most (sectors disk) (sectors retold) budget left result

  -- turns are made, so many at most, of a run that kept no fault
  abbrev pub Proceeds : {L : Type 0} → (most : ℕ) → Kept L → D → ℕ → Kept L → D → ℕ → Result (ℕ × Turn) RunFault → Type 0
  Proceeds most run disk budget new retold left result = run.fault ≡ None →
      TurnsRun (size disk) run most (run_around run (sectors disk) budget) (run_around new (sectors retold) left) result

  -- and turns of any run of the machine, where it hasn't ended
  abbrev pub ProceedsAnyhow : {L : Type 0} → (most : ℕ) → Kept L → D → ℕ → Kept L → D → ℕ → Result (ℕ × Turn) RunFault → Type 0
  ProceedsAnyhow most run disk budget new retold left result = run.fault ≡ None → run.ended ≡ None →
      AnyTurnsRun (size disk) run most (run_around run (sectors disk) budget) (run_around new (sectors retold) left) result

  -- as `Proceeds`, of a run that hasn't ended either
  abbrev pub TakesTurns : {L : Type 0} → (most : ℕ) → Kept L → D → ℕ → Kept L → D → ℕ → Result (ℕ × Turn) RunFault → Type 0
  TakesTurns most run disk budget new retold left result = run.fault ≡ None → run.ended ≡ None →
      TurnsRun (size disk) run most (run_around run (sectors disk) budget) (run_around new (sectors retold) left) result

  -- turns are made until so many are complete or the run has ended
  abbrev pub GoesTurns : {L : Type 0} → (turns : ℕ) → Kept L → D → ℕ → Kept L → D → ℕ → Result (Unit {0}) RunFault → Type 0
  GoesTurns turns run disk budget new retold left result =
      GoRuns (size disk) run turns (run_around run (sectors disk) budget) (run_around new (sectors retold) left) result

  -- and so of any run of the machine
  abbrev pub GoesAnyhow : {L : Type 0} → (turns : ℕ) → Kept L → D → ℕ → Kept L → D → ℕ → Result (Unit {0}) RunFault → Type 0
  GoesAnyhow turns run disk budget new retold left result =
      AnyGoRuns (size disk) run turns (run_around run (sectors disk) budget) (run_around new (sectors retold) left) result
