-- The kernel's side of the CVM state, as words and as it stands between dispatches, and what its `dispatch` means. The meaning is a
-- parameter here, which C0's meaning fills.
use Rattle.std.specs.Prelude.{◌≡◌, ◌≢◌, ℕ, zero, suc, ◌+◌, ℤ, if◌then◌else◌, List, [], ◌∷◌, ◌++◌, length, take}
use Rattle.std.specs.Int.{cast_unsigned, w32}
use Rattle.mips_table.specs.Machine.{Console}
use Rattle.c0_meaning.specs.Value.{Location, Value, int, bool, null, at, group, Values, empty, part}
use Rattle.c0_meaning.specs.State.{C0State}
use Rattle.c0_meaning.specs.RunLaws.{scalars}
use Rattle.mips_table.specs.Flat.{Flat}
use Rattle.cvm_model.specs.declared.kernel_fault.KernelFault.{KernelFault}
use Rattle.cvm_model.specs.declared.kernel_fault.KernelFault.TheVariants.{NullUse, Bounds, DivZero, StackOut, BadUser}

-- the fields or elements of a value
abbrev pub parts_of_value : Value → Values
parts_of_value (group vs) = vs
parts_of_value other = empty

-- one of them
abbrev pub part_of_value : Values → ℕ → Value
part_of_value empty i = null
part_of_value (part v vs) zero = v
part_of_value (part v vs) (suc i) = part_of_value vs i

-- the words of those before it
abbrev pub value_words_before : Values → ℕ → ℕ
value_words_before empty i = 0
value_words_before (part v vs) zero = 0
value_words_before (part v vs) (suc i) = scalars v + value_words_before vs i

-- how many words after a value's first word the part at a path begins
abbrev pub part_offset : List ℕ → Value → ℕ
part_offset [] v = 0
part_offset (i ∷ path) v = value_words_before (parts_of_value v) i + part_offset path (part_of_value (parts_of_value v) i)

-- the words that stand for a value, where each location has its address; null is 0 and true is 1
abbrev mutual
  pub flat : (Location → ℕ) → Value → List ℕ
  flat address (int n) = cast_unsigned w32 n ∷ []
  flat address (bool b) = (if b then 1 else 0) ∷ []
  flat address null = 0 ∷ []
  flat address (at p) = address p ∷ []
  flat address (group vs) = flats address vs

  pub flats : (Location → ℕ) → Values → List ℕ
  flats address empty = []
  flats address (part v vs) = flat address v ++ flats address vs

-- the CVM state but for the pending lines and the status: the kernel's data, with no frames; user u is number u - 1 of the list
pub record Core : Type 0 where
  pub c0 : C0State
  pub users : List Flat
  pub console : Console
  pub current : ℕ

-- the power word of each fault
abbrev pub power_of : KernelFault → ℕ
power_of NullUse = 1
power_of Bounds = 2
power_of DivZero = 3
power_of StackOut = 4
power_of BadUser = 5

-- an entry of a journal: one untrapped step, one trap, or what a primitive changed
pub data JournalEntry : Type 0 where
  Stepped : JournalEntry
  Trapped : (cause edata : ℕ) → JournalEntry
  Set : (register value : ℕ) → JournalEntry
  Size : (pages : ℕ) → JournalEntry
  Put : (address value : ℕ) → JournalEntry

-- the user that a primitive changed, and the entries that it made
pub record UserChange : Type 0 where
  pub user : ℕ
  pub entries : List JournalEntry

-- a call of a primitive that has ended: its number in the table of primitives, its arguments, and what it changed
pub record Changes : Type 0 where
  pub number : ℕ
  pub arguments : List ℤ
  pub user : ℕ
  pub entries : List JournalEntry

-- how a dispatch ended, within so many units
pub data DispatchEnd : Type 0 where
  Answers : (answer : ℤ) → DispatchEnd
  Faults : (fault : KernelFault) → DispatchEnd
  NotYet : DispatchEnd

-- the end; the state then; the calls of primitives that ended, in order; the units that it used, and the pages
pub record DispatchOutcome : Type 0 where
  pub end : DispatchEnd
  pub after : Core
  pub calls : List Changes
  pub units : ℕ
  pub pages : ℕ

-- What a kernel means: how many words its globals have, with their names in source order, its data at the start, and what `dispatch`
-- comes to within a number of units.
pub record KernelMeaning : Type 0 where
  pub global_words : ℕ
  pub names : List (List ℕ)
  pub first : C0State
  pub dispatch : ℕ → Core → (cause edata user : ℤ) → DispatchOutcome

-- with more units a dispatch comes to the same end, or is at least as far; and a bad next user is no end of it
pub record MeaningLaws (e : KernelMeaning) : Type 0 where
  pub same : (n k : ℕ) (c : Core) (cause edata user : ℤ) → (e.dispatch n c cause edata user).end ≢ NotYet → e.dispatch (n + k) c cause edata user
      ≡ e.dispatch n c cause edata user
  pub more : (n k : ℕ) (c : Core) (cause edata user : ℤ) →
      take (length (e.dispatch n c cause edata user).calls) (e.dispatch (n + k) c cause edata user).calls ≡ (e.dispatch n c cause edata user).calls
  pub proper : (n : ℕ) (c : Core) (cause edata user : ℤ) → (e.dispatch n c cause edata user).end ≢ Faults BadUser
