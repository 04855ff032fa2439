-- A kernel whose faults are guarded by tests: an index that a user's trap gives, a pointer that may be null, and a division; and a division that needs no
-- test, since an address that is no multiple of 4 leaves more than 0. It never faults, whatever its users do.
use Rattle.std.specs.Prelude.{◌≡◌, ◌≤◌, ℕ, suc, ℤ, Option, Some, None, List, [], ◌∷◌, length, codes}
use Rattle.c0_meaning.specs.Value.{heap, Value, Values, int, null, at, group, empty, part}
use Rattle.c0_meaning.specs.State.{C0State}
use Rattle.kernel_theorems.specs.Lines.{by_lines}
use Rattle.cvm_model.specs.KernelMeaning.{kernel_meaning}
use Rattle.cvm_model.specs.Cvm.{System, Cvm, IsCvm}
use Rattle.cvm_model.specs.Invariant.{Dispatch, HasEight, IsSafe}
use Rattle.kernel_theorems.specs.GuardedTree.{guarded}

-- the ints of its data: four counts and a rate, and what `last` points to, if it points to something
pub record Data : Type 0 where
  pub a : ℤ
  pub b : ℤ
  pub c : ℤ
  pub d : ℤ
  pub rate : ℤ
  pub cell : Option ℤ

-- its globals, and its heap with the words used of it
abbrev pub pointer_to : Option ℤ → Value
pointer_to None = null
pointer_to (Some v) = at (record { region = heap; path = 0 ∷ [] })

abbrev pub counts_of : Data → Value
counts_of x = group (part (int x.a) (part (int x.b) (part (int x.c) (part (int x.d) empty))))

abbrev pub globals_of : Data → Value
globals_of x = group (part (counts_of x) (part (pointer_to x.cell) (part (int x.rate) empty)))

abbrev pub heap_of : Option ℤ → Values
heap_of None = empty
heap_of (Some v) = part (int v) empty

abbrev pub used_of : Option ℤ → ℕ
used_of None = 0
used_of (Some v) = 1

-- its data between dispatches
abbrev pub data_of : Data → C0State
data_of x = record { global_values = globals_of x; heap_values = group (heap_of x.cell); heap_words = used_of x.cell; frames = [] }

-- what is so between dispatches: its data are ints, and `last` is null or points to one
pub record IsData (past : List Dispatch) (s : C0State) (current : ℕ) : Type 0 where
  pub values : Data
  pub data_is : s ≡ data_of values

-- a system of this kernel: it has a user, and its stack has the words that the longest chain of calls needs
pub record RunsGuarded (y : System) : Type 0 where
  pub meaning_is : y.boot.meaning ≡ kernel_meaning guarded y.boot.params
  pub some : 1 ≤ length y.boot.users
  pub room : 13 ≤ y.boot.params.stack

-- THE THEOREM: whatever the users do, whatever lines are raised, each turn ends, and no dispatch ever faults
abbrev pub GuardedNeverFaults : Type 0
GuardedNeverFaults = (y : System) → RunsGuarded y → (lines : ℕ → ℕ) → HasEight lines → (k : ℕ)
    → ((c : Cvm) × IsCvm y lines k c) × ((c : Cvm) → IsCvm y lines (suc k) c → IsSafe c.status)

-- its text: that of kernels/guarded.c0
abbrev pub text : List ℕ
text = by_lines (
    codes "int[4] counts;"
    ∷ codes "int* last;"
    ∷ codes "int rate;"
    ∷ codes ""
    ∷ codes "int bump(int at) {"
    ∷ codes "  int seen;"
    ∷ codes "  if (at >= 0 && at < 4) { counts[at] = counts[at] + 1; seen = counts[at]; }"
    ∷ codes "  return seen;"
    ∷ codes "}"
    ∷ codes ""
    ∷ codes "int dispatch(int cause, int data, int user) {"
    ∷ codes "  int next; int seen;"
    ∷ codes "  next = user;"
    ∷ codes "  if (cause == 0) { last = new int; next = 1; }"
    ∷ codes "  if (cause == 7) { rate = 12 / (data % 4); }"
    ∷ codes "  if (cause > 1) { seen = bump(data); if (last != null) { *last = seen; } }"
    ∷ codes "  if (counts[0] != 0) { rate = counts[1] / counts[0]; }"
    ∷ codes "  return next;"
    ∷ codes "}" ∷ [])
