-- A whole system in which users are answered: a kernel that lets user 1 and then user 2 run to its end. Each asks it once, with a number in register 4; the
-- kernel adds it to the total, and answers with the total in register 2. When both have ended, the system halts.
use Rattle.std.specs.Prelude.{◌≡◌, ◌≤◌, ◌<◌, ◌^◌, ℕ, suc, ◌+◌, ℤ, pos, List, [], ◌∷◌, length, Some}
use Rattle.mips_table.specs.Flat.{Flat}
use Rattle.c0_meaning.specs.Value.{int, group, empty, part}
use Rattle.c0_meaning.specs.State.{C0State}
use Rattle.cvm_model.specs.Kernel.{Core}
use Rattle.cvm_model.specs.KernelMeaning.{kernel_meaning}
use Rattle.cvm_model.specs.Cvm.{System, Cvm, Status, Running, Halted, first_flat, first_core, cvm, IsCvm}
use Rattle.cvm_model.specs.Invariant.{Dispatch, dispatches_of, HasEight, HasUsers}
use Rattle.cvm_model.specs.Systems.{SystemProperty, status_after, lines_taken, UsePages, SystemHolds}
use Rattle.kernel_theorems.specs.UserRuns.{after, AsksAndEnds, told}
use Rattle.answering.specs.Tree.{kernel_tree}

-- a system of this kernel: two users, which ask with v and w, whose sum is an int, and end; and its stack has room for a frame
pub record RunsAnswering (y : System) (a b c d v w : ℕ) : Type 0 where
  pub meaning_is : y.boot.meaning ≡ kernel_meaning kernel_tree y.boot.params
  pub one : List ℕ
  pub two : List ℕ
  pub users_are : y.boot.users ≡ one ∷ two ∷ []
  pub first : AsksAndEnds (first_flat one) a b v v
  pub second : AsksAndEnds (first_flat two) c d w (v + w)
  pub small : v + w < 2 ^ 31
  pub room : 9 ≤ y.boot.params.stack

-- the kernel's data
abbrev pub data_of : ℤ → C0State
data_of total = record { global_values = group (part (int total) empty); heap_values = group empty; heap_words = 0; frames = [] }

-- how far the users are
pub data Phase : Type 0 where
  FirstAsks : Phase
  FirstEnds : Phase
  SecondAsks : Phase
  SecondEnds : Phase
  Over : Phase

-- how many of the four traps came
abbrev pub traps_of : Phase → ℕ
traps_of FirstAsks = 0
traps_of FirstEnds = 1
traps_of SecondAsks = 2
traps_of SecondEnds = 3
traps_of Over = 4

abbrev pub total_of : ℕ → ℕ → Phase → ℕ
total_of v w FirstAsks = 0
total_of v w FirstEnds = v
total_of v w SecondAsks = v
total_of v w SecondEnds = v + w
total_of v w Over = v + w

abbrev pub status_of_phase : Phase → Status
status_of_phase Over = Halted
status_of_phase other = Running

abbrev pub IsTurn : Phase → ℕ → Type 0
IsTurn FirstAsks u = u ≡ 1
IsTurn FirstEnds u = u ≡ 1
IsTurn SecondAsks u = u ≡ 2
IsTurn SecondEnds u = u ≡ 2
IsTurn Over u = Unit {0}

-- the most untrapped steps in a phase, and the turns that those before it took, the traps counted
abbrev pub most_of : (a b c d : ℕ) → Phase → ℕ
most_of a b c d FirstAsks = a
most_of a b c d FirstEnds = b
most_of a b c d SecondAsks = c
most_of a b c d SecondEnds = d
most_of a b c d Over = 0

abbrev pub gone_by : (a b c d : ℕ) → Phase → ℕ
gone_by a b c d FirstAsks = 0
gone_by a b c d FirstEnds = 1 + a
gone_by a b c d SecondAsks = 2 + a + b
gone_by a b c d SecondEnds = 3 + a + b + c
gone_by a b c d Over = 4 + a + b + c + d

-- the users' machines after t steps in a phase
abbrev pub first_at : (a b v : ℕ) → Flat → Phase → ℕ → Flat
first_at a b v f FirstAsks t = after t f
first_at a b v f FirstEnds t = after t (told (after (suc a) f) v)
first_at a b v f other t = after (suc b) (told (after (suc a) f) v)

abbrev pub second_at : (c d x : ℕ) → Flat → Phase → ℕ → Flat
second_at c d x g SecondAsks t = after t g
second_at c d x g SecondEnds t = after t (told (after (suc c) g) x)
second_at c d x g Over t = after (suc d) (told (after (suc c) g) x)
second_at c d x g other t = g

-- WHAT IS SO after k turns: the total is the sum of what those brought who have asked; each machine is after its own steps, with the answer that it was given,
-- whatever lines came; and each turn was the first, a step, one of the four traps, or lines that were taken
pub record IsAnswering (y : System) (a b c d v w : ℕ) (f g : Flat) (k : ℕ) (past : List Dispatch) (at : Core) : Type 0 where
  pub phase : Phase
  pub steps : ℕ
  pub few : steps ≤ most_of a b c d phase
  pub turns_are : k ≡ 1 + gone_by a b c d phase + steps + lines_taken past
  pub length_is : length past ≡ 1 + traps_of phase + lines_taken past
  pub users_are : at.users ≡ first_at a b v f phase steps ∷ second_at c d (v + w) g phase steps ∷ []
  pub data_is : at.c0 ≡ data_of (pos (total_of v w phase))
  pub turn_is : IsTurn phase at.current
  pub status_is : status_after past ≡ status_of_phase phase
  pub console_is : at.console ≡ (first_core y).console

-- and no dispatch touches a page of a user
abbrev pub Answering : System → (a b c d v w : ℕ) → (f g : Flat) → SystemProperty
Answering y a b c d v w f g k past at = IsAnswering y a b c d v w f g k past at × UsePages y 100 0 past

-- THE THEOREM: whatever lines are raised, each turn ends within 100 units of its dispatch, and each state from the first turn on is such
abbrev pub AnswersAreRight : Type 0
AnswersAreRight = (y : System) (a b c d v w : ℕ) (r : RunsAnswering y a b c d v w) (lines : ℕ → ℕ) → HasEight lines → (k : ℕ)
    → ((m : Cvm) × (cvm y lines 100 k ≡ Some m))
    × ((m : Cvm) → IsCvm y lines (suc k) m
    → SystemHolds (HasUsers y) (Answering y a b c d v w (first_flat r.one) (first_flat r.two)) (suc k) (dispatches_of y lines 100 (suc k)) m)
