-- A kernel's data stays typed, and a checked unit's dispatch ends.
use Rattle.std.specs.Int.{w32}
use Rattle.std.specs.Prelude.{FitsSigned, ◌≡◌, ◌≤◌, ℕ, ℤ, length, Some, option_and_then, slice_get, All}
use Rattle.c0_tree.specs.Primitives.{CPrimitive, kernel_primitives}
use Rattle.c0_meaning.specs.Value.{Values}
use Rattle.c0_tree.specs.Tree.{CUnit}
use Rattle.c0_meaning.specs.Unit.{IsChecked}
use Rattle.c0_meaning.specs.TypedState.{AreScalars, IsScalar, IsTypedState}
use Rattle.c0_meaning.specs.RunLaws.{AnswersAnInt}
use Rattle.c0_meaning.specs.State.{C0State}
use Rattle.c0_meaning.specs.World.{Cost, Configuration}
use Rattle.c0_meaning.specs.Execution as c0_run
use Rattle.layer_map.specs.Map.{Map, ParamsInRange}
use Rattle.cvm_model.specs.Kernel.{Changes, Core, NotYet, KernelMeaning}
use Rattle.cvm_model.specs.KernelMeaning.{Machines, ints_of, call_numbered, kernel_primitive, setting_of, machines_of, kernel_meaning}
use Rattle.cvm_model.specs.Primitives.{KernelCall, primitive_number, arguments_of}
use Rattle.cvm_model.specs.Stands.{UserFits, input_room, CoreFits}

-- data is typed at the start, and stays so in a dispatch with ints, in a CVM state of this map
pub record StaysTyped (m : Map) (e : KernelMeaning) (Typed : C0State → Type 0) : Type 0 where
  pub starts : Typed e.first
  pub stays : (n : ℕ) (c : Core) (cause edata user : ℤ) → CoreFits m c → FitsSigned w32 cause → FitsSigned w32 edata → FitsSigned w32 user →
      Typed c.c0 → Typed (e.dispatch n c cause edata user).after.c0

-- a checked unit's data stays typed
abbrev pub UnitsStayTyped : Type 0
UnitsStayTyped = (u : CUnit) (m : Map) → IsChecked u → ParamsInRange m.params → StaysTyped m (kernel_meaning u m.params) (IsTypedState u)

-- and its dispatch isn't over there only where units are wanting: it is never stuck, and answers an int
abbrev pub UnitsWantUnits : Type 0
UnitsWantUnits = (u : CUnit) (m : Map) (n : ℕ) (c : Core) (cause edata user : ℤ) → IsChecked u → ParamsInRange m.params → CoreFits m c →
    FitsSigned w32 cause → FitsSigned w32 edata → FitsSigned w32 user → IsTypedState u c.c0 →
    ((kernel_meaning u m.params).dispatch n c cause edata user).end ≡ NotYet →
    (used : Cost) × (d : Configuration Machines Changes)
    × (c0_run.dispatch (setting_of u m.params) n cause edata user c.c0 (machines_of m.params c) ≡ c0_run.NotYet used d)

-- where it is done it has answered an int
abbrev pub UnitsAnswerInts : Type 0
UnitsAnswerInts = (u : CUnit) (m : Map) (n : ℕ) (c : Core) (cause edata user : ℤ) → IsChecked u → ParamsInRange m.params → CoreFits m c →
    FitsSigned w32 cause → FitsSigned w32 edata → FitsSigned w32 user → IsTypedState u c.c0 →
    AnswersAnInt (c0_run.dispatch (setting_of u m.params) n cause edata user c.c0 (machines_of m.params c))

-- the call of a row of the table of primitives with these arguments: its number is the row's, and its arguments are the ints
pub record IsCallOf (n : ℕ) (args : Values) (call : KernelCall) : Type 0 where
  pub is : option_and_then (call_numbered n) (ints_of args) ≡ Some call
  pub number : primitive_number call ≡ n
  pub arguments : ints_of args ≡ Some (arguments_of call)

-- a law: a row's arguments make a call; and over users of few pages its answer has the row's type
pub record RowsAreCalled : Type 0 where
  pub call : (n : ℕ) (row : CPrimitive) (args : Values) → slice_get kernel_primitives n ≡ Some row → AreScalars row.args args
      → (call : KernelCall) × IsCallOf n args call
  pub answer : (n : ℕ) (row : CPrimitive) (args : Values) (v : Machines) → slice_get kernel_primitives n ≡ Some row → AreScalars row.args args
      → v.most ≤ 1024 → All (UserFits v.most) v.users → length v.console.input ≤ input_room → IsScalar row.answer (kernel_primitive n args v).answer
