-- What is proved of the system alternating: two users bring numbers by system calls, user 1 the odd ones and user 2 the even ones, and the kernel lets them
-- call in turn and logs what they bring. Whatever lines are raised, the log has the numbers from 1 on, in order, and the system halts behind the sixth.
use Rattle.std.specs.Prelude.{◌≡◌, ◌≤◌, ℕ, zero, suc, ◌+◌, ◌==◌, if◌then◌else◌, pos, List, [], ◌∷◌, ◌++◌, length, Some}
use Rattle.mips_table.specs.Flat.{Flat}
use Rattle.mips_table.specs.Machine.{Console}
use Rattle.c0_meaning.specs.Value.{int, group, empty, part}
use Rattle.c0_meaning.specs.State.{C0State}
use Rattle.cvm_model.specs.Kernel.{Core}
use Rattle.cvm_model.specs.KernelMeaning.{kernel_meaning}
use Rattle.cvm_model.specs.Cvm.{System, Cvm, Status, Running, Halted, first_flat, cvm, IsCvm}
use Rattle.cvm_model.specs.Invariant.{Dispatch, dispatches_of, HasEight, HasUsers}
use Rattle.cvm_model.specs.Systems.{SystemProperty, status_after, lines_taken, UsePages, SystemHolds}
use Rattle.kernel_theorems.specs.UserRuns.{after}
use Rattle.alternating.specs.Tree.{kernel_tree}
use Rattle.alternating.specs.Users.{user_1, user_2}

-- the kernel's data behind so many calls
abbrev pub data_of : ℕ → C0State
data_of calls = record { global_values = group (part (int (pos calls)) empty); heap_values = group empty; heap_words = 0; frames = [] }

-- the numbers that were logged by so many calls: from 1 on
abbrev pub logged_numbers : ℕ → List ℕ
logged_numbers zero = []
logged_numbers (suc calls) = logged_numbers calls ++ suc calls ∷ []

-- half of a number: of so many calls user 2 has made half, and user 1 half of one more
abbrev pub half : ℕ → ℕ
half zero = 0
half (suc zero) = 0
half (suc (suc calls)) = suc (half calls)

-- whose turn it is behind so many calls
abbrev pub whose_turn : ℕ → ℕ
whose_turn zero = 1
whose_turn (suc zero) = 2
whose_turn (suc (suc calls)) = whose_turn calls

-- of these steps of the user whose turn it is, those of user 1, and of user 2
abbrev pub steps_of_1 : (calls steps : ℕ) → ℕ
steps_of_1 zero t = t
steps_of_1 (suc zero) t = 0
steps_of_1 (suc (suc calls)) t = steps_of_1 calls t

abbrev pub steps_of_2 : (calls steps : ℕ) → ℕ
steps_of_2 zero t = 0
steps_of_2 (suc zero) t = t
steps_of_2 (suc (suc calls)) t = steps_of_2 calls t

-- the untrapped steps of a user up to its next call, where it has made so many
abbrev pub leg : ℕ → ℕ
leg zero = 1
leg (suc calls) = 2

-- those of both up to so many calls
abbrev pub steps_up_to : ℕ → ℕ
steps_up_to zero = 0
steps_up_to (suc calls) = steps_up_to calls + leg (half calls)

-- a user's machine behind so many of its calls
abbrev pub behind_calls : Flat → ℕ → Flat
behind_calls f zero = f
behind_calls f (suc calls) = after (suc (leg calls)) (behind_calls f calls)

-- both machines behind so many calls, and so many untrapped steps of the user whose turn it is
abbrev pub machines : Flat → Flat → (calls steps : ℕ) → List Flat
machines f g calls t = after (steps_of_1 calls t) (behind_calls f (half (suc calls))) ∷ after (steps_of_2 calls t) (behind_calls g (half calls)) ∷ []

-- the sixth call ends the run
abbrev pub status_behind : ℕ → Status
status_behind calls = if calls == 6 then Halted else Running

-- the console behind so many calls
abbrev pub console_behind : (input : List ℕ) → (calls : ℕ) → Console
console_behind input calls = record { log = logged_numbers calls; input = input }

-- WHAT IS SO after k turns, of users with these machines at the start: the log has the numbers from 1 on, one for each call; each machine is after its own
-- steps, whatever lines came; each turn was the first, a step, a call or lines that were taken; and the system has halted exactly behind the sixth call
pub record Alternates (input : List ℕ) (f g : Flat) (k : ℕ) (past : List Dispatch) (c : Core) : Type 0 where
  pub calls : ℕ
  pub few : calls ≤ 6
  pub steps : ℕ  -- of the user whose turn it is, since its last call
  pub before_call : steps ≤ leg (half calls)
  pub at_end : calls ≡ 6 → steps ≡ 0
  pub turns_are : k ≡ 1 + steps_up_to calls + steps + calls + lines_taken past
  pub length_is : length past ≡ 1 + calls + lines_taken past
  pub data_is : c.c0 ≡ data_of calls
  pub users_are : c.users ≡ machines f g calls steps
  pub console_is : c.console ≡ console_behind input calls
  pub turn_is : calls ≤ 5 → c.current ≡ whose_turn calls
  pub status_is : status_after past ≡ status_behind calls

-- and no dispatch touches a page of a user
abbrev pub Alternating : System → SystemProperty
Alternating y k past c = Alternates y.input (first_flat user_1) (first_flat user_2) k past c × UsePages y 300 0 past

-- a system of this kernel and these users: its stack has room for the frame of `dispatch`
pub record RunsAlternating (y : System) : Type 0 where
  pub meaning_is : y.boot.meaning ≡ kernel_meaning kernel_tree y.boot.params
  pub users_are : y.boot.users ≡ user_1 ∷ user_2 ∷ []
  pub room : 9 ≤ y.boot.params.stack

-- THE THEOREM: whatever lines are raised, each turn ends within 300 units of its dispatch, and each state from the first turn on is such
abbrev pub UsersAlternate : Type 0
UsersAlternate = (y : System) → RunsAlternating y → (lines : ℕ → ℕ) → HasEight lines → (k : ℕ)
    → ((c : Cvm) × (cvm y lines 300 k ≡ Some c))
    × ((c : Cvm) → IsCvm y lines (suc k) c → SystemHolds (HasUsers y) (Alternating y) (suc k) (dispatches_of y lines 300 (suc k)) c)
