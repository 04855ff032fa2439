-- A compiled unit's code stands where its addresses say.
use Rattle.std.proofs.Common.{◌≡◌, ℕ, ◌+◌, ◌*◌, List, refl, sym, ap, ◌∙◌}
use Rattle.masm.specs.declared.registers.CodeAddresses.{CodeAddresses}
use Rattle.layer_map.specs.Map.{layer_words, next_page}
use Rattle.c0_tree.specs.Primitives.{kernel_primitives}
use Rattle.c0_tree.specs.Tree.{CUnit}
use Rattle.c0_tree.specs.View.{unit_view}
use Rattle.c0_meaning.specs.Operators.{KernelFault, NullUse, Bounds, DivZero, StackOut}
use Rattle.c0_meaning.specs.CallChain.{dispatch_number}
use Rattle.c0_meaning.specs.Unit.{IsChecked}
use Rattle.c0_expr_code.specs.Scope.{exit_number}
use Rattle.c0_unit.specs.Code.{unit_code}
use Rattle.c0_unit.specs.Laws.{AreAddressesOf, StandsIn, UnitStands, UnitsStand, UnitsHaveAddresses}
use Rattle.cvm_model.specs.Kernel.{power_of}
use Rattle.cvm_model.specs.KernelMeaning.{fault_of}
use Rattle.cvm_model.specs.Stands.{Site}
use Rattle.unit_runs.specs.Placed.{CodeStandsAt, CodeStands}
use Rattle.unit_runs.specs.Runs.{UnitsRunOverLayers, UnitsCallsFollow, IsLinked, CompiledUnitsRun, CompiledUnitsCallsFollow}

same_exit : (f : KernelFault) → 2058 + exit_number f ≡ 2057 + power_of (fault_of f)
same_exit NullUse = refl
same_exit Bounds = refl
same_exit DivZero = refl
same_exit StackOut = refl

as_piece : (u : CUnit) (first k : ℕ) (piece : List _) → StandsIn u first k piece → CodeStandsAt (unit_code u first) k piece
as_piece u first k piece s = (s.before, s.after, s.is, s.from, s.behind)

-- its code stands at the addresses of its functions, exits and routines
pub code_stands : UnitsStand → (u : CUnit) (p : CodeAddresses) (y : Site) → IsChecked u → AreAddressesOf u (dispatch_number u) p → IsLinked u y → CodeStands u p y (unit_code u (dispatch_number u))
code_stands stand u p y checked addresses l =
    let s : UnitStands u (dispatch_number u) p = stand kernel_primitives u checked.well_formed (dispatch_number u) p addresses in
    record {
      checked = checked;
      range = l.range;
      code_words = l.code_words ∙ sym s.words;
      global_words = l.global_words;
      long = l.long;
      linked = l.code;
      in_range = s.in_range;
      globals = addresses.globals_at ∙ ap (λ n. 4 * next_page (layer_words + n)) (sym l.code_words);
      exits = λ f. s.exits f ∙ same_exit f;
      primitives = s.primitives;
      below = s.below;
      rest = s.rest;
      entry = s.entry;
      begins = s.begins;
      functions = λ n f is. as_piece u (dispatch_number u) _ _ (s.functions n f is);
      new_object = as_piece u (dispatch_number u) _ _ s.new_object;
    }

pub compiled : UnitsHaveAddresses → UnitsStand → UnitsRunOverLayers → CompiledUnitsRun
compiled have stand runs s y sizes checked l variables answers = let p = have kernel_primitives s checked.well_formed (dispatch_number (unit_view s)) in runs _ p.0 y _ sizes (code_stands stand _ p.0 y checked p.1 l) variables answers

pub compiled_calls : UnitsHaveAddresses → UnitsStand → UnitsCallsFollow → CompiledUnitsCallsFollow
compiled_calls have stand follow s y sizes checked l variables laws = let p = have kernel_primitives s checked.well_formed (dispatch_number (unit_view s)) in follow _ p.0 y _ sizes (code_stands stand _ p.0 y checked p.1 l) variables laws
