-- Runs: what is done within a number of units.
use Rattle.std.specs.Prelude.{ℕ, ℤ, zero, suc, nat_lt, if◌then◌else◌, List, [], ◌∷◌}
use Rattle.c0_tree.specs.declared.primitive.Program.TheVariants.{Kernel}
use Rattle.c0_tree.specs.Tree.{CStmts}
use Rattle.c0_meaning.specs.Limits.{first_number}
use Rattle.c0_meaning.specs.Value.{int, Values, empty, part}
use Rattle.c0_meaning.specs.State.{C0State}
use Rattle.c0_meaning.specs.Operators.{Failure}
use Rattle.c0_meaning.specs.World.{Setting, Cost, units, total, plus, Configuration, beginning}
use Rattle.c0_meaning.specs.Running.{Work, begin, Step, Go, Stop, push, work_step}

-- how a run stands: it is done, it failed, or its next step would pass the limit; with what it cost so far and its configuration
pub data Outcome (W E : Type 0) : Type 0 where
  Done : Cost → Configuration W E → Outcome W E
  Failed : Cost → Failure → Configuration W E → Outcome W E
  NotYet : Cost → Configuration W E → Outcome W E

-- a run that has cost so much goes on with a step, if that is within the limit
abbrev pub then_run : {W E : Type 0} → Step W E → (limit : ℕ) → Cost → Configuration W E → (Cost → List Work → Configuration W E → Outcome W E) → Outcome W E
then_run (Go cost work d) limit used c run = if nat_lt limit (total (plus used cost)) then NotYet used c else run (plus used cost) work d
then_run (Stop cost f d) limit used c run = if nat_lt limit (total (plus used cost)) then NotYet used c else Failed (plus used cost) f d

-- at most so many steps, within so many units, of work that is left to do
abbrev pub execute : {W E : Type 0} → Setting W E → (steps limit : ℕ) → Cost → List Work → Configuration W E → Outcome W E
execute p zero limit used work c = NotYet used c
execute p (suc steps) limit used [] c = Done used c
execute p (suc steps) limit used (item ∷ work) c = then_run (work_step p item work c) limit used c (execute p steps limit)

-- work that is done within n units: each step takes one at least, so n + 1 steps are enough
abbrev pub run_within : {W E : Type 0} → Setting W E → (n : ℕ) → List Work → Configuration W E → Outcome W E
run_within p n work c = execute p (suc n) n (units 0) work c

-- statements, from a state and a world's value, within n units
abbrev pub exec : {W E : Type 0} → Setting W E → (n : ℕ) → CStmts → C0State → W → Outcome W E
exec p n statements s world = run_within p n (push statements []) (beginning s world)

-- a call of the function of a number, with an empty stack, within n units
abbrev pub call_first : {W E : Type 0} → Setting W E → (n function : ℕ) → Values → C0State → W → Outcome W E
call_first p n function args s world = run_within p n (begin function args ∷ []) (beginning (record s { frames = [] }) world)

-- a call of a kernel's `dispatch` with a cause, its data and a user, within n units
abbrev pub dispatch : {W E : Type 0} → Setting W E → (n : ℕ) → (cause edata user : ℤ) → C0State → W → Outcome W E
dispatch p n cause edata user s world =
    call_first p n (first_number Kernel p.unit) (part (int cause) (part (int edata) (part (int user) empty))) s world
