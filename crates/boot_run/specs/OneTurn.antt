-- What the calls of a loaded run leave, in one record each; and what a call of `turn` says, which is one of `turns` that makes one turn at most.
use Rattle.std.specs.Prelude.{◌≡◌, ◌≢◌, ℕ, ◌+◌, ◌<◌, ◌≤◌, ◌^◌, IfOk, IfErr, IfSome, IsSome, OnOk, Option, Some, None, List, Result, Ok, Err}
use Rattle.boot_turns.specs.declared.answers.Turn.{Turn}
use Rattle.boot_turns.specs.declared.answers.Turn.TheVariants.{Over}
use Rattle.boot_turns.specs.declared.answers.RunFault.{RunFault}
use Rattle.boot_turns.specs.declared.answers.RunFault.TheVariants.{StepLimit}
use Rattle.boot_run.specs.Calls.{TakesTurns, ProceedsAnyhow}
use Rattle.boot_run.specs.LoadEnds.{Kept}
use Rattle.boot_run.specs.TurnCalls.{RunIsOver, KeepsLoad}

-- turns can be made, so many at most and one at least, over a disk of so many sectors and from such a budget
pub record CanMake {L : Type 0} (most : ℕ) (run : Kept L) (count budget : ℕ) : Type 0 where
  pub some : 1 ≤ most
  pub disk : count ≡ run.count
  pub steps : run.machine.time + budget < 2 ^ 64

-- a run that kept no fault, over a disk of so many sectors, which are as many as it was loaded with
pub record CanClose {L : Type 0} (run : Kept L) (count : ℕ) : Type 0 where
  pub disk : count ≡ run.count
  pub fine : run.fault ≡ None

-- and from which so many steps stay countable in 64 bits
pub record CanRun {L : Type 0} (steps : ℕ) (run : Kept L) (count : ℕ) : Type 0 where
  pub disk : count ≡ run.count
  pub fine : run.fault ≡ None
  pub time : run.machine.time + steps < 2 ^ 64

-- what a report leaves: nothing of the run changes but its fault; a fault that it kept is answered again and nothing is touched; a new one is kept, and is
-- no spent budget; by the objects before and after
pub record ReportLeaves {L D O : Type 0} (run : Kept L) (disk : D) (out : O) (new : Kept L) (retold : D) (printed : O)
    (result : Result (Unit {0}) RunFault) : Type 0 where
  pub same : new ≡ record run { fault = new.fault }
  pub again : IfSome run.fault (λ f. result ≡ Err f)
  pub still : IsSome run.fault → (new ≡ run) × (retold ≡ disk) × (printed ≡ out)
  pub keeps : IfErr result (λ f. new.fault ≡ Some f)
  pub fine : OnOk result (new.fault ≡ None)
  pub limit : result ≡ Err StepLimit → run.fault ≡ Some StepLimit

-- by the disk's size
module _ {D : Type 0} (size : D → ℕ) where
  -- beside what the turns come to, where a run that kept no fault and hasn't ended makes turns, so many at most, with a disk and a budget, before and
  -- after: what was loaded is kept, the steps are taken from the budget, and one turn at least is made unless there is a fault
  pub record TurnsMake {L : Type 0} (most : ℕ) (run : Kept L) (disk : D) (budget : ℕ) (new : Kept L) (retold : D) (left : ℕ)
      (result : Result (ℕ × Turn) RunFault) : Type 0 where
    pub kept : KeepsLoad run new
    pub fault : new.fault ≡ run.fault
    pub same_size : size retold ≡ size disk
    pub spent : new.machine.time + left ≡ run.machine.time + budget
    pub limit : result ≡ Err StepLimit → (left ≡ 0) × (new.machine.hardware.off ≡ None)
    pub made : IfOk result (λ r. (1 ≤ r.0) × (r.0 ≤ most) × (r.1 ≢ Over))

  -- and whatever the run is: a fault that it kept is answered again, one that has ended answers that it has, and both touch nothing, the sink neither; a new
  -- fault is kept
  pub record TurnsLeave {L O : Type 0} (most : ℕ) (run : Kept L) (disk : D) (budget : ℕ) (out : O) (new : Kept L) (retold : D) (left : ℕ) (printed : O)
      (result : Result (ℕ × Turn) RunFault) : Type 0 where
    pub kept : KeepsLoad run new
    pub same_size : size retold ≡ size disk
    pub again : IfSome run.fault (λ f. result ≡ Err f)
    pub over : run.fault ≡ None → IsSome run.ended → result ≡ Ok (0, Over)
    pub only : IfOk result (λ r. r.1 ≡ Over → IsSome run.ended)
    pub made : IfOk result (λ r. (r.0 ≤ most) × (run.ended ≡ None → 1 ≤ r.0))
    pub still : RunIsOver run → (new ≡ run) × (left ≡ budget) × (retold ≡ disk) × (printed ≡ out)
    pub keeps : IfErr result (λ f. new.fault ≡ Some f)
    pub fine : OnOk result (new.fault ≡ None)
    pub spent : new.machine.time + left ≡ run.machine.time + budget
    pub limit : result ≡ Err StepLimit → run.fault ≡ None → (left ≡ 0) × (new.machine.hardware.off ≡ None)

-- TURNS, so many at most: what they leave, and what they come to
module _ {D : Type 0} (size : D → ℕ) (sectors : D → Option (List (List ℕ))) where
  pub record TurnsSay {L O : Type 0} (most : ℕ) (run : Kept L) (disk : D) (budget : ℕ) (out : O) (new : Kept L) (retold : D) (left : ℕ) (printed : O)
      (result : Result (ℕ × Turn) RunFault) : Type 0 where
    pub leaves : TurnsLeave size most run disk budget out new retold left printed result
    pub ends : TakesTurns size sectors most run disk budget new retold left result
    pub any : ProceedsAnyhow size sectors most run disk budget new retold left result

-- one turn at most, as a call of `turns` answers it
abbrev pub as_turns : Result Turn RunFault → Result (ℕ × Turn) RunFault
as_turns (Ok Over) = Ok (0, Over)
as_turns (Ok turn) = Ok (1, turn)
as_turns (Err fault) = Err fault
