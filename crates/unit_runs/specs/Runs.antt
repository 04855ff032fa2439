-- That a kernel's code runs as its unit means, over any layer.
use Rattle.std.specs.Prelude.{◌≡◌, ℕ, ◌≤◌, List, length, map, take, drop}
use Rattle.mips_table.specs.declared.inst.Inst.{Inst}
use Rattle.masm.specs.declared.registers.CodeAddresses.{CodeAddresses}
use Rattle.layer_map.specs.Map.{MapInRange, layer_words}
use Rattle.c0_tree.specs.declared.tree.Unit.{Unit as Source}
use Rattle.c0_tree.specs.Tree.{CUnit}
use Rattle.c0_tree.specs.View.{unit_view}
use Rattle.c0_meaning.specs.Env.{typed_of}
use Rattle.c0_meaning.specs.Words.{all_words}
use Rattle.c0_meaning.specs.Sound.{shapes}
use Rattle.c0_meaning.specs.Unit.{IsChecked}
use Rattle.c0_meaning.specs.TypedState.{IsTypedState}
use Rattle.c0_unit.specs.Code.{code_words, unit_words}
use Rattle.layer_contract.specs.Layer.{Linked, PrimitivesAnswer, Laws}
use Rattle.layer_contract.specs.Calls.{CallsFollow}
use Rattle.layer_contract.specs.Follows.{KernelRuns}
use Rattle.cvm_model.specs.KernelMeaning.{kernel_meaning}
use Rattle.cvm_model.specs.Stands.{Site}
use Rattle.unit_runs.specs.Placed.{CodeStands}

-- A law: where the code of a checked unit stands behind the words of a layer whose primitives answer, a dispatch over typed data runs as the unit means.
abbrev pub UnitsRunOverLayers : Type 0
UnitsRunOverLayers = (u : CUnit) (p : CodeAddresses) (y : Site) (code : List Inst) (sizes : List ℕ) → CodeStands u p y code
    → Linked y.map sizes (take layer_words y.linked) → PrimitivesAnswer y → KernelRuns y (IsTypedState u) (kernel_meaning u y.map.params)

-- A law: over a layer that keeps its laws, the calls that such a dispatch has ended are those that the machine ends, in order, and it ends no others.
abbrev pub UnitsCallsFollow : Type 0
UnitsCallsFollow = (u : CUnit) (p : CodeAddresses) (y : Site) (code : List Inst) (sizes : List ℕ) → CodeStands u p y code
    → Linked y.map sizes (take layer_words y.linked) → Laws y sizes → CallsFollow y (IsTypedState u) (kernel_meaning u y.map.params)

-- The code of a unit stands behind a layer's words, in a map of its sizes.
pub record IsLinked (u : CUnit) (y : Site) : Type 0 where
  pub range : MapInRange y.map
  pub code_words : y.map.code_words ≡ code_words u
  pub global_words : y.map.global_words ≡ all_words (shapes u) (map typed_of u.globals)
  pub long : layer_words ≤ length y.linked
  pub code : drop layer_words y.linked ≡ unit_words u

-- A law: so do the words that a checked unit is compiled to.
abbrev pub CompiledUnitsRun : Type 0
CompiledUnitsRun = (s : Source) (y : Site) (sizes : List ℕ) → IsChecked (unit_view s) → IsLinked (unit_view s) y
    → Linked y.map sizes (take layer_words y.linked) → PrimitivesAnswer y
    → KernelRuns y (IsTypedState (unit_view s)) (kernel_meaning (unit_view s) y.map.params)

-- A law: so are those of a dispatch of compiled words.
abbrev pub CompiledUnitsCallsFollow : Type 0
CompiledUnitsCallsFollow = (s : Source) (y : Site) (sizes : List ℕ) → IsChecked (unit_view s) → IsLinked (unit_view s) y
    → Linked y.map sizes (take layer_words y.linked) → Laws y sizes → CallsFollow y (IsTypedState (unit_view s)) (kernel_meaning (unit_view s) y.map.params)
