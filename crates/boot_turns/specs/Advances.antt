-- What the run of one turn does to the machine of a run from a start.
use Rattle.std.specs.Prelude.{◌≡◌, ℕ, suc, ◌+◌, ◌-◌, ◌<◌, ◌≤◌, Option, Some, None, List, Result, MatchResult}
use Rattle.mips_table.specs.Device.{Environment}
use Rattle.mips_table.specs.Machine.{State, run}
use Rattle.mips_table.specs.Turns.{complete}
use Rattle.mips_machine.specs.Machine.{Held}
use Rattle.mips_machine.specs.Steps.{outside_of}
use Rattle.c0_tree.specs.Tree.{CUnit}
use Rattle.c0_meaning.specs.TypedState.{IsTypedState}
use Rattle.c0_meaning.specs.State.{C0State}
use Rattle.cvm_model.specs.Cvm.{System, Running, Cvm}
use Rattle.boot_turns.specs.TurnEnds.{Stood}
use Rattle.boot_turns.specs.Ahead.{TurnAhead}
use Rattle.boot_turns.specs.Completes.{state_seen, note, LeftBy, SkipsTurns, Completes}
use Rattle.boot_turns.specs.Premises.{StartsFrom}
use Rattle.boot_turns.specs.declared.completion.Begun.{Begun}
use Rattle.boot_turns.specs.declared.answers.RunFault.{RunFault}
use Rattle.boot_turns.specs.declared.answers.RunFault.TheVariants.{StepLimit}

-- turn k is complete: the machine stands at its end, its steps are taken from the budget, and what is noted is shown after its first step
pub record Advanced (x : Environment) (y : System) (s : State) (k t : ℕ) (c : Cvm) (now : Option State) (budget left : ℕ) (b : Begun) : Type 0 where
  pub ahead : TurnAhead x y s k t c
  pub state : now ≡ Some (run x s ahead.end)
  pub spent : left + ahead.end ≡ budget + t
  pub shows : b ≡ note (run x s (suc ahead.start))

-- turn k isn't complete by step u, and the machine is on
pub record StillGoes (x : Environment) (y : System) (s : State) (k t u : ℕ) : Type 0 where
  pub between : (j : ℕ) → t ≤ j → j ≤ u → complete x s j ≡ k
  pub on : (j : ℕ) → j ≤ u → (run x s j).off ≡ None

-- the budget was spent
pub record BudgetStops (x : Environment) (y : System) (s : State) (k t : ℕ) (now : Option State) (budget left : ℕ) : Type 0 where
  pub spent : left ≡ 0
  pub state : now ≡ Some (run x s (t + budget))
  pub goes : StillGoes x y s k t (t + budget)

-- the disk or the sink failed in step number `at`, or in its rows
pub record FaultStops (x : Environment) (y : System) (s : State) (k t : ℕ) (now : Option State) (budget left : ℕ) (fault : RunFault) : Type 0 where
  pub at : ℕ
  pub from : t ≤ at
  pub spent : left + (at + 1) ≡ budget + t
  pub goes : StillGoes x y s k t at
  pub state : LeftBy fault now (run x s (suc at))

-- by the fault
abbrev pub Stops : Environment → System → State → (k t : ℕ) → Option State → (budget left : ℕ) → RunFault → Type 0
Stops x y s k t now budget left StepLimit = BudgetStops x y s k t now budget left
Stops x y s k t now budget left other = FaultStops x y s k t now budget left other

-- turns k to k + n - 1, from step t on, were untrapped steps of the current user, one step each
pub record Skipped (x : Environment) (y : System) (s : State) (k t : ℕ) (c : Cvm) (n : ℕ) : Type 0 where
  pub after : Cvm
  pub stood : Stood x y s (k + n) (t + n) after
  pub running : after.status ≡ Running
  pub rows : after.rows ≡ c.rows
  pub current : after.core.current ≡ c.core.current
  pub done : (j : ℕ) → j ≤ n → complete x s (t + j) ≡ k + j
  pub on : (j : ℕ) → j ≤ t + n → (run x s j).off ≡ None
  pub steps : SkipsTurns x s t n

-- how the run of turns ends, so many at most: after n of them, with a turn as `Advanced` says or before its end
abbrev pub AdvanceEnds : Environment → System → State → (k t : ℕ) → Cvm → Option State → (budget left most : ℕ) → Result (ℕ × Begun) RunFault → Type 0
AdvanceEnds x y s k t c now budget left most result = (n : ℕ) × (n < most) × (n ≤ budget) × (w : Skipped x y s k t c n) ×
    MatchResult result (λ r. (r.0 ≡ n) × Advanced x y s (k + n) (t + n) w.after now (budget - n) left r.1)
    (Stops x y s (k + n) (t + n) now (budget - n) left)

-- turns of the machine, for every run from a start that stands there and goes on
abbrev pub AdvancesTyped : (C0State → Type 0) → Environment → (before now : Option State) → (budget left most : ℕ) → Result (ℕ × Begun) RunFault → Type 0
AdvancesTyped Typed x before now budget left most result = (y : System) (s : State) (late held : ℕ) → StartsFrom Typed x y s late held →
    (k t : ℕ) (c : Cvm) → Stood x y s k t c → c.status ≡ Running → before ≡ Some (run x s t) → AdvanceEnds x y s k t c now budget left most result

-- TURNS, over a disk of so many sectors, whatever unit the kernel is
abbrev pub Advances : (count : ℕ) → (old new : Held) → (told retold : Option (List (List ℕ))) → (budget left most : ℕ) →
    Result (ℕ × Begun) RunFault → Type 0
Advances count old new told retold budget left most result =
    (u : CUnit) → AdvancesTyped (IsTypedState u) (outside_of old.rows count) (state_seen told old) (state_seen retold new) budget left most result

-- so it is of every loop that steps a machine to the end of turns
abbrev pub LoopsAdvance : Type 0
LoopsAdvance = (count : ℕ) (old new : Held) (told retold : Option (List (List ℕ))) (budget left most : ℕ) (result : Result (ℕ × Begun) RunFault) →
    Completes count old new told retold budget left most result → Advances count old new told retold budget left most result
