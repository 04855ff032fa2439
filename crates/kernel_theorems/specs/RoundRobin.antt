-- A kernel that gives the processor to one user after another, and what is proved of it. With this kernel, of three users, as its text:
-- specs/RoundRobinText; kernels/round_robin.c0 is the same text as a file.
use Rattle.std.specs.Prelude.{◌≡◌, ℕ, suc, ◌+◌, ◌%◌, ◌==◌, ◌≤◌, ◌<◌, ℤ, pos, if◌then◌else◌, List, [], ◌∷◌, ◌++◌, codes, length}
use Rattle.c0_tree.specs.declared.tree.Kind.TheVariants.{Global}
use Rattle.c0_tree.specs.declared.tree.BinaryOp.TheVariants.{Add, Rem, Gt}
use Rattle.c0_tree.specs.Tree.{CUnit, CExpr, assign, binary, choice, done}
use Rattle.c0_tree.specs.Tree as tree
use Rattle.worked_rows.specs.Kernels.{z, decl, global, local, number, block}
use Rattle.worked_rows.specs.SystemKernels.{kernel, next_local, cause_is}
use Rattle.c0_meaning.specs.Value.{int, group, empty, part}
use Rattle.c0_meaning.specs.State.{C0State}
use Rattle.cvm_model.specs.KernelMeaning.{kernel_meaning}
use Rattle.cvm_model.specs.Cvm.{System, Cvm, IsCvm}
use Rattle.cvm_model.specs.declared.row.Next.TheVariants.{User}
use Rattle.cvm_model.specs.declared.row.Row.{Row}
use Rattle.cvm_model.specs.Invariant.{Dispatch, dispatch_rows, HasEight, IsSafe}

-- the globals
abbrev pub turn_variable : CExpr
turn_variable = global (codes "turn") 0

abbrev pub served_variable : CExpr
served_variable = global (codes "served") 1

-- int turn; int served;
-- int dispatch(int cause, int data, int user) {
--   int next;
--   next = user;
--   if (cause == 0) { turn = 1; next = turn; }
--   if (cause == 1) { turn = turn % U + 1; next = turn; }
--   if (cause > 1) { served = served + 1; }
--   return next;
-- }
abbrev pub round_robin : ℕ → CUnit
round_robin users = kernel (decl tree.int (codes "turn") Global 0 ∷ decl tree.int (codes "served") Global 1 ∷ []) (next_local ∷ [])
    (assign z (local (codes "next") 3) (local (codes "user") 2)
    ∷ choice z (cause_is 0) (block (assign z turn_variable (number 1) ∷ assign z (local (codes "next") 3) turn_variable ∷ [])) done
    ∷ choice z (cause_is 1) (block (
    assign z turn_variable (binary z Add (binary z Rem turn_variable (number users)) (number 1))
    ∷ assign z (local (codes "next") 3) turn_variable ∷ [])) done
    ∷ choice z (binary z Gt (local (codes "cause") 0) (number 1)) (block (assign z served_variable (binary z Add served_variable (number 1)) ∷ [])) done
    ∷ []) (local (codes "next") 3)

-- its data between dispatches
abbrev pub data_of : ℤ → ℤ → C0State
data_of t s = record { global_values = group (part (int t) (part (int s) empty)); heap_values = group empty; heap_words = 0; frames = [] }

-- how many of these rows are of lines that were taken
abbrev pub taken_lines : Row → ℕ
taken_lines r = if r.cause == 1 then 1 else 0

abbrev pub lines_in : List Row → ℕ
lines_in [] = 0
lines_in (r ∷ rest) = taken_lines r + lines_in rest

-- the user whose turn it is after so many lines
abbrev pub turn_after : ℕ → ℕ → ℕ
turn_after users lines = suc (lines % users)

-- in each row the next user is the one whose turn it is, where so many lines were taken before
abbrev pub InOrder : ℕ → ℕ → List Row → Type 0
InOrder users lines [] = Unit {0}
InOrder users lines (r ∷ rest) =
    (r.next ≡ User (turn_after users (taken_lines r + lines))) × InOrder users (taken_lines r + lines) rest

-- what is so between dispatches: the kernel's own count of turns is the current user
pub record Turns (users : ℕ) (past : List Dispatch) (s : C0State) (current : ℕ) : Type 0 where
  pub services : ℤ
  pub data_is : s ≡ data_of (pos current) services
  pub current_is : current ≡ turn_after users (lines_in (dispatch_rows past))
  pub order : InOrder users 0 (dispatch_rows past)

-- a system of this kernel: its users are as many as its source says, at most 64, and its stack has room for a frame
pub record RunsRoundRobin (y : System) (users : ℕ) : Type 0 where
  pub meaning_is : y.boot.meaning ≡ kernel_meaning (round_robin users) y.boot.params
  pub some : 1 ≤ users
  pub few : users ≤ 64
  pub users_are : length y.boot.users ≡ users
  pub room : 7 ≤ y.boot.params.stack

-- after the first turn: no dispatch has faulted; the global `turn` is the current user's number; this is the number of lines taken so far, modulo the
-- number of users, plus 1; and so is each row's next user
pub record IsFair (users : ℕ) (c : Cvm) : Type 0 where
  pub safe : IsSafe c.status
  pub services : ℤ
  pub turn_is : c.core.c0 ≡ data_of (pos c.core.current) services
  pub current_is : c.core.current ≡ turn_after users (lines_in c.rows)
  pub order : InOrder users 0 c.rows

-- THE THEOREM: whatever the users do, whatever lines are raised, each turn ends, and the run is fair from the first turn on
abbrev pub RoundRobinIsFair : Type 0
RoundRobinIsFair = (y : System) (users : ℕ) → RunsRoundRobin y users → (lines : ℕ → ℕ) → HasEight lines → (k : ℕ) →
    ((c : Cvm) × IsCvm y lines k c) × ((c : Cvm) → IsCvm y lines (suc k) c → IsFair users c)

-- FAIRNESS: in each stretch of rows in which so many lines were taken as there are users, each user was next
abbrev pub EachGetsATurn : Type 0
EachGetsATurn = (users : ℕ) (past stretch : List Row) → 1 ≤ users → InOrder users 0 (past ++ stretch) → users ≤ lines_in stretch → (u : ℕ) → u < users
    → (a : List Row) × (r : Row) × (b : List Row) × (stretch ≡ a ++ r ∷ b) × (r.next ≡ User (suc u))
