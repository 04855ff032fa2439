-- What turns do to the machine of any run, whatever state it begins from: no start, no layer and no abstract run is asked for.
use Rattle.std.specs.Prelude.{◌≡◌, ℕ, suc, ◌+◌, ◌≤◌, Option, Some, None, List, Result, MatchResult}
use Rattle.mips_table.specs.Device.{Environment}
use Rattle.mips_table.specs.Machine.{State, run}
use Rattle.mips_machine.specs.Machine.{Held}
use Rattle.mips_machine.specs.Steps.{outside_of}
use Rattle.boot_turns.specs.Completes.{state_seen, LeftBy, Completes}
use Rattle.boot_turns.specs.declared.completion.Begun.{Begun}
use Rattle.boot_turns.specs.declared.answers.RunFault.{RunFault}
use Rattle.boot_turns.specs.declared.answers.RunFault.TheVariants.{StepLimit}
use Rattle.boot_turns.specs.Sooner.{NoSooner, ComesTo}

-- from step t on the machine came to the end of turns, k in all, each step taken from the budget
abbrev pub Came : Environment → State → (k t : ℕ) → Option State → (budget left : ℕ) → Type 0
Came x s k t now budget left = (at : ℕ) × ComesTo x s k at × (now ≡ Some (run x s at)) × (left + at ≡ budget + t)

-- or it was broken off before k turns were complete: the budget was spent; or the disk or the sink failed after `at` steps, t at least
abbrev pub BrokeOff : Environment → State → (k t : ℕ) → Option State → (budget left : ℕ) → RunFault → Type 0
BrokeOff x s k t now budget left StepLimit = (left ≡ 0) × NoSooner x s k (suc (t + budget)) × (now ≡ Some (run x s (t + budget)))
BrokeOff x s k t now budget left other = (at : ℕ) × (t ≤ at) × NoSooner x s k at × (left + at ≡ budget + t) × LeftBy other now (run x s at)

-- TURNS OF ANY RUN, over a disk of so many sectors: so many at most, from any step of it in which the machine stands, is on, and k turns are complete
abbrev pub AnyTurns : (count : ℕ) → (old new : Held) → (told retold : Option (List (List ℕ))) → (budget left most : ℕ) →
    Result (ℕ × Begun) RunFault → Type 0
AnyTurns count old new told retold budget left most result =
    (s : State) (k t : ℕ) → ComesTo (outside_of old.rows count) s k t → (run (outside_of old.rows count) s t).off ≡ None →
    state_seen told old ≡ Some (run (outside_of old.rows count) s t) →
    MatchResult result (λ r. Came (outside_of old.rows count) s (k + suc r.0) t (state_seen retold new) budget left)
    (BrokeOff (outside_of old.rows count) s (k + most) t (state_seen retold new) budget left)

-- so it is of every loop that steps a machine to the end of turns
abbrev pub LoopsMakeTurns : Type 0
LoopsMakeTurns = (count : ℕ) (old new : Held) (told retold : Option (List (List ℕ))) (budget left most : ℕ) (result : Result (ℕ × Begun) RunFault) →
    Completes count old new told retold budget left most result → AnyTurns count old new told retold budget left most result
