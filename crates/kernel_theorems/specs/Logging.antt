-- A kernel with a loop, a primitive and `new`: at each dispatch it logs the numbers below the current user's, and at each trap it makes an object, as long
-- as its heap has room. How such code is proved by the rules, and carried to runs.
use Rattle.std.specs.Prelude.{◌≡◌, ◌≤◌, ℕ, zero, suc, pos, List, [], ◌∷◌, ◌++◌, length, take, codes}
use Rattle.std.specs.Int.{cast_unsigned, w32}
use Rattle.mips_table.specs.Machine.{LOG_ROOM}
use Rattle.c0_meaning.specs.Value.{Value, Values, null, group, empty, part}
use Rattle.c0_meaning.specs.State.{C0State}
use Rattle.cvm_model.specs.KernelMeaning.{kernel_meaning}
use Rattle.cvm_model.specs.Cvm.{System, Cvm, IsCvm}
use Rattle.cvm_model.specs.Invariant.{Dispatch, dispatches_of, HasEight, HasRoom, Holds}
use Rattle.kernel_theorems.specs.Lines.{by_lines}
use Rattle.kernel_theorems.specs.History.{EachHas}
use Rattle.kernel_theorems.specs.LoggingTree.{logging}

-- the words of the numbers below one
abbrev pub words_below : ℕ → List ℕ
words_below zero = []
words_below (suc n) = words_below n ++ cast_unsigned w32 (pos n) ∷ []

-- a dispatch logs the numbers below the current user's, as many as the log has room for
abbrev pub Logs : List Dispatch → Dispatch → Type 0
Logs past d = d.after.console.log ≡ take LOG_ROOM (d.before.console.log ++ words_below d.before.current)

-- the values in its data: its global, and its heap with the words used of it
pub record Data : Type 0 where
  pub mark : Value
  pub heap : Values
  pub used : ℕ

-- its data between dispatches, and at the start
abbrev pub data_of : Data → C0State
data_of x = record { global_values = group (part x.mark empty); heap_values = group x.heap; heap_words = x.used; frames = [] }

abbrev pub first : Data
first = record { mark = null; heap = empty; used = 0 }

-- what is so between dispatches: each of them logged what it has to
pub record IsLogging (past : List Dispatch) (s : C0State) (current : ℕ) : Type 0 where
  pub values : Data
  pub data_is : s ≡ data_of values
  pub logs : EachHas Logs [] past

-- a system of this kernel: three users, no larger than they may be, and a stack with room for a frame; its heap may have any size
pub record RunsLogging (y : System) : Type 0 where
  pub meaning_is : y.boot.meaning ≡ kernel_meaning logging y.boot.params
  pub three : length y.boot.users ≡ 3
  pub fit : HasRoom y
  pub room : 9 ≤ y.boot.params.stack

-- THE THEOREM: whatever the users do, whatever lines are raised, each turn ends, no dispatch faults, and each of them logs what it has to
abbrev pub LoggingIsKept : Type 0
LoggingIsKept = (y : System) → RunsLogging y → (lines : ℕ → ℕ) → HasEight lines → (k : ℕ)
    → ((c : Cvm) × IsCvm y lines k c) × ((c : Cvm) → IsCvm y lines (suc k) c → Holds IsLogging (dispatches_of y lines 400 (suc k)) c)

-- its text: that of kernels/logging.c0
abbrev pub text : List ℕ
text = by_lines (
    codes "int* mark;"
    ∷ codes ""
    ∷ codes "int dispatch(int cause, int data, int user) {"
    ∷ codes "  int next; int i; bool ok;"
    ∷ codes "  next = user;"
    ∷ codes "  if (cause == 0) { next = 1; }"
    ∷ codes "  if (cause == 1) { next = user % 3 + 1; }"
    ∷ codes "  if (cause > 1) { mark = new int; }"
    ∷ codes "  while (i < user) { ok = con_put(i); i = i + 1; }"
    ∷ codes "  return next;"
    ∷ codes "}" ∷ [])
