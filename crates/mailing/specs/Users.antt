-- Users that make known calls, one after another: each call goes on from what it is answered, and behind the last one the user ends.
use Rattle.std.specs.Prelude.{◌≡◌, ℕ, suc, ◌+◌, ◌≤◌, pos, List, [], ◌∷◌, length, slice_index}
use Rattle.mips_table.specs.Arith.{signed}
use Rattle.mips_table.specs.declared.cause.Cause.TheVariants.{Syscall}
use Rattle.mips_table.specs.Flat.{Flat}
use Rattle.kernel_theorems.specs.UserRuns.{after, TrapsAfter, told}

-- a machine asks by `trap` after so many untrapped steps, with this number in register 4
pub record AsksAfter (f : Flat) (steps argument : ℕ) : Type 0 where
  pub traps : TrapsAfter f steps Syscall
  pub word_is : traps.edata ≡ 12
  pub argument_is : signed (slice_index (after (suc steps) f).cpu.regs 4) ≡ pos argument

-- it ends after so many
pub record EndsAfter (f : Flat) (steps : ℕ) : Type 0 where
  pub traps : TrapsAfter f steps Syscall
  pub word_is : traps.edata ≡ 76

-- a call: the untrapped steps before it, its argument, and what it is answered
pub record Leg : Type 0 where
  pub steps : ℕ
  pub argument : ℕ
  pub answer : ℕ

-- the machine behind it
abbrev pub behind_leg : Flat → Leg → Flat
behind_leg f leg = told (after (suc leg.steps) f) leg.answer

-- A USER makes these calls in this order, where it is answered so, and ends after so many steps behind the last one
abbrev pub CallsInTurn : Flat → List Leg → (last : ℕ) → Type 0
CallsInTurn f [] last = EndsAfter f last
CallsInTurn f (leg ∷ legs) last = AsksAfter f leg.steps leg.argument × CallsInTurn (behind_leg f leg) legs last

-- its machine behind its end
abbrev pub ended : Flat → List Leg → (last : ℕ) → Flat
ended f [] last = after (suc last) f
ended f (leg ∷ legs) last = ended (behind_leg f leg) legs last

-- its steps, those that trap counted
abbrev pub leg_steps : List Leg → (last : ℕ) → ℕ
leg_steps [] last = suc last
leg_steps (leg ∷ legs) last = suc leg.steps + leg_steps legs last

-- the untrapped steps before its next trap
abbrev pub before_trap : List Leg → (last : ℕ) → ℕ
before_trap [] last = last
before_trap (leg ∷ legs) last = leg.steps

-- where a user is in what it has still to do: so many untrapped steps behind its last answer; or its next call is made, and isn't answered yet; or it has ended
pub data UserProgress : Type 0 where
  Runs : ℕ → UserProgress
  Waits : UserProgress
  Ended : UserProgress

abbrev pub IsProgressOf : List Leg → (last : ℕ) → UserProgress → Type 0
IsProgressOf legs last (Runs t) = t ≤ before_trap legs last
IsProgressOf [] last Waits = ⊥
IsProgressOf (leg ∷ legs) last Waits = Unit {0}
IsProgressOf [] last Ended = Unit {0}
IsProgressOf (leg ∷ legs) last Ended = ⊥

-- its steps behind its last answer, and how many of them trapped
abbrev pub steps_at : List Leg → (last : ℕ) → UserProgress → ℕ
steps_at legs last (Runs t) = t
steps_at legs last Waits = suc (before_trap legs last)
steps_at legs last Ended = suc (before_trap legs last)

abbrev pub traps_at : UserProgress → ℕ
traps_at (Runs t) = 0
traps_at Waits = 1
traps_at Ended = 1

-- its machine, from that behind its last answer
abbrev pub machine_at : Flat → List Leg → (last : ℕ) → UserProgress → Flat
machine_at f legs last p = after (steps_at legs last p) f

abbrev pub IsStillStepping : UserProgress → Type 0
IsStillStepping (Runs t) = Unit {0}
IsStillStepping Waits = ⊥
IsStillStepping Ended = ⊥

-- A USER FOLLOWS its calls: from a first machine and all of its calls it has come to where these are left, and to a point in the first of them. It has made so
-- many steps, of which so many trapped.
pub record FollowsLegs (first : Flat) (all : List Leg) (last : ℕ) (f : Flat) (left : List Leg) (p : UserProgress) : Type 0 where
  pub calls : CallsInTurn f left last
  pub ends : ended f left last ≡ ended first all last
  pub is_at : IsProgressOf left last p
  pub steps : ℕ
  pub steps_are : steps + leg_steps left last ≡ leg_steps all last + steps_at left last p
  pub traps : ℕ
  pub traps_are : traps + length left ≡ length all + traps_at p
