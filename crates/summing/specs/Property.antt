-- A whole system: a kernel that adds up what its two users bring it by a system call, in register 4, and halts when both have called. Whatever lines are
-- raised, each user is heard once, the total is the sum, and the system halts.
use Rattle.std.specs.Prelude.{◌≡◌, ◌⊎◌, ◌≤◌, ◌<◌, ◌^◌, ℕ, suc, ◌+◌, ℤ, pos, Bool, true, false, List, [], ◌∷◌, length, Some}
use Rattle.mips_table.specs.Flat.{Flat}
use Rattle.c0_meaning.specs.Value.{int, bool, group, empty, part}
use Rattle.c0_meaning.specs.State.{C0State}
use Rattle.cvm_model.specs.Kernel.{Core}
use Rattle.cvm_model.specs.KernelMeaning.{kernel_meaning}
use Rattle.cvm_model.specs.Cvm.{System, Cvm, Status, Running, Halted, first_flat, first_core, cvm, IsCvm}
use Rattle.cvm_model.specs.Invariant.{Dispatch, dispatches_of, HasEight, HasUsers}
use Rattle.cvm_model.specs.Systems.{SystemProperty, status_after, lines_taken, UsePages, SystemHolds}
use Rattle.kernel_theorems.specs.UserRuns.{after, CallsAfter}
use Rattle.summing.specs.Tree.{kernel_tree}

-- a system of this kernel: two users, which call after m and n steps with v and w, whose sum is an int; and its stack has room for a frame
pub record RunsSumming (y : System) (m n v w : ℕ) : Type 0 where
  pub meaning_is : y.boot.meaning ≡ kernel_meaning kernel_tree y.boot.params
  pub one : List ℕ
  pub two : List ℕ
  pub users_are : y.boot.users ≡ one ∷ two ∷ []
  pub first_calls : CallsAfter (first_flat one) m v
  pub second_calls : CallsAfter (first_flat two) n w
  pub small : v + w < 2 ^ 31
  pub room : 8 ≤ y.boot.params.stack

-- the kernel's data
abbrev pub data_of : ℤ → Bool → C0State
data_of total done = record { global_values = group (part (int total) (part (bool done) empty)); heap_values = group empty; heap_words = 0; frames = [] }

-- who has called: nobody, user 1, user 2, or both
pub data Phase : Type 0 where
  Nobody : Phase
  FirstOnly : Phase
  SecondOnly : Phase
  Everybody : Phase

abbrev pub first_called : Phase → Bool
first_called Nobody = false
first_called FirstOnly = true
first_called SecondOnly = false
first_called Everybody = true

abbrev pub second_called : Phase → Bool
second_called Nobody = false
second_called FirstOnly = false
second_called SecondOnly = true
second_called Everybody = true

abbrev pub phase_calls : Phase → ℕ
phase_calls Nobody = 0
phase_calls FirstOnly = 1
phase_calls SecondOnly = 1
phase_calls Everybody = 2

abbrev pub total_of : ℕ → ℕ → Phase → ℕ
total_of v w Nobody = 0
total_of v w FirstOnly = v
total_of v w SecondOnly = w
total_of v w Everybody = v + w

abbrev pub done_of : Phase → Bool
done_of Nobody = false
done_of other = true

abbrev pub status_of_phase : Phase → Status
status_of_phase Everybody = Halted
status_of_phase other = Running

-- the current user hasn't called
abbrev pub IsTurn : Phase → ℕ → Type 0
IsTurn Nobody u = (u ≡ 1) ⊎ (u ≡ 2)
IsTurn FirstOnly u = u ≡ 2
IsTurn SecondOnly u = u ≡ 1
IsTurn Everybody u = Unit {0}

-- a user's machine, which calls after `most` steps: after its steps so far, or once it has called as its call left it
abbrev pub machine_of : Bool → (most steps : ℕ) → Flat → Flat
machine_of true most t f = after (suc most) f
machine_of false most t f = after t f

-- WHAT IS SO after k turns: the total is the sum of what those who have called brought; each machine is after its own steps, whatever the other did and
-- whatever lines came (f and g are their machines at the start); each turn was the first, a step, a call or lines that were taken; and the system has halted
-- exactly where both have called
pub record IsSum (y : System) (m n v w : ℕ) (f g : Flat) (k : ℕ) (past : List Dispatch) (c : Core) : Type 0 where
  pub phase : Phase
  pub one : ℕ
  pub two : ℕ
  pub few_one : one ≤ m
  pub few_two : two ≤ n
  pub turns_are : k ≡ 1 + one + two + phase_calls phase + lines_taken past
  pub length_is : length past ≡ 1 + phase_calls phase + lines_taken past
  pub users_are : c.users ≡ machine_of (first_called phase) m one f ∷ machine_of (second_called phase) n two g ∷ []
  pub data_is : c.c0 ≡ data_of (pos (total_of v w phase)) (done_of phase)
  pub turn_is : IsTurn phase c.current
  pub status_is : status_after past ≡ status_of_phase phase
  pub console_is : c.console ≡ (first_core y).console

-- and no dispatch touches a page of a user
abbrev pub Sums : System → (m n v w : ℕ) → (f g : Flat) → SystemProperty
Sums y m n v w f g k past c = IsSum y m n v w f g k past c × UsePages y 100 0 past

-- THE THEOREM: whatever lines are raised, each turn ends within 100 units of its dispatch, and each state from the first turn on is such
abbrev pub SumsAreRight : Type 0
SumsAreRight = (y : System) (m n v w : ℕ) (r : RunsSumming y m n v w) (lines : ℕ → ℕ) → HasEight lines → (k : ℕ)
    → ((c : Cvm) × (cvm y lines 100 k ≡ Some c))
    × ((c : Cvm) → IsCvm y lines (suc k) c
    → SystemHolds (HasUsers y) (Sums y m n v w (first_flat r.one) (first_flat r.two)) (suc k) (dispatches_of y lines 100 (suc k)) c)
