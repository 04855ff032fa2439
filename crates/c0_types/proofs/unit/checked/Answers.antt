-- Where no fault was met none stands, and the unit is checked; a fault that was met last is the least.
use Rattle.std.proofs.Common.{◌≡◌, sym, ap, ◌∙◌}
use Rattle.c0_tree.specs.Primitives.{primitives_of}
use Rattle.c0_tree.specs.Tree.{CUnit}
use Rattle.c0_tree.specs.View.{unit_view}
use Rattle.c0_meaning.specs.Sizes.{struct_sizes}
use Rattle.c0_meaning.specs.Sound.{shapes}
use Rattle.c0_meaning.specs.Unit.{IsCheckedAs}
use Rattle.c0_meaning.proofs.StableTypes.{shapes_kept}
use Rattle.c0_name_check.specs.Met.{fault_view, met_view}
use Rattle.c0_types.specs.Answer.{type_fault_view}
use Rattle.c0_types.specs.Source.{source_faults_as}
use Rattle.c0_types.proofs.UnitAnswer.{faultless_checked, says_least}
use Rattle.c0_types.proofs.unit.checked.Goals as goal

pub returns-in-Some : goal.returns-in-Some
returns-in-Some c = record {
  checked = tt;
  measured = tt;
  faultless = tt;
  typed = tt;
  resolved = tt;
  fault = says_least c.args.program (type_fault_view c.answer_of.result) (fault_view c.in-Some.fault) (unit_view c.args.unit) c.answer_of.ensures
      ((c.kept_fault_is_least.ensures.least (source_faults_as c.args.program (unit_view c.args.unit)) (fault_view c.in-Some.fault)).0 (sym c.in_ok-words.ensures.met ∙ ap met_view c.in-Some.is));
}

pub returns-in-None : goal.returns-in-None
returns-in-None c =
    let u : CUnit = unit_view c.args.unit in
    let none = (c.kept_fault_is_least.ensures.none (source_faults_as c.args.program u)).0 (sym c.in_ok-words.ensures.met ∙ ap met_view c.in-None.is) in
    let checked : IsCheckedAs c.args.program (unit_view c.check_unit.new.unit) =
    faultless_checked c.args.program c.faultless_units_are_checked.ensures c.resolving_is_stable.ensures u (unit_view c.check_unit.new.unit) c.requires.plain none c.in_ok-words.ensures.resolved in
    let same : shapes (unit_view c.check_unit.new.unit) ≡ shapes u =
    ap shapes c.in_ok-words.ensures.resolved ∙ shapes_kept (shapes u) 0 u.structs in
    record {
      checked = checked;
      measured = record { table = primitives_of c.args.program; well_formed = checked.well_formed; told = c.in_ok-words.ensures.words ∙ ap struct_sizes (sym same) };
      faultless = none;
      typed = (c.sources_are_typed_or_faulty.ensures c.args.program (unit_view c.args.unit)).1 none;
      resolved = c.in_ok-words.ensures.resolved;
      fault = tt;
    }
