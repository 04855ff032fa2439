-- The structs so far are checked, and the faults of the others are still to be met.
use Rattle.std.proofs.Common.{◌≡◌, ◌<◌, ℕ, get_or, length, map}
use Rattle.c0_tree.specs.declared.tree.StructDef.{StructDef}
use Rattle.c0_tree.specs.View.{struct_view}
use Rattle.c0_body_check.specs.Scope.{MapTells, typed_view}
use Rattle.c0_body_check.proofs.InPlace.{rest}
use Rattle.c0_meaning.specs.Env.{shape_of}
use Rattle.c0_meaning.specs.Fault.{kept_all}
use Rattle.c0_meaning.specs.Unit.{structs_faults}
use Rattle.c0_name_check.specs.Met.{met_view}
use Rattle.c0_types.specs.NumberedStruct.{resolved_struct}
use Rattle.c0_types.proofs.DeclaredInPlace.{numbered}
use Rattle.c0_types.proofs.structs.check_each.Given as goal

abbrev pub invariant-loop-definition : goal.invariant-loop-definition
invariant-loop-definition l = record {
  at : l.number ≡ l.definition-index;
  count : length l.field_names.items ≡ l.definition-index;
  changed :
      map struct_view l.structs
      ≡ numbered (resolved_struct (map shape_of (map struct_view l.initial.structs))) 0 l.definition-index (map struct_view l.initial.structs);
  fields : (i : ℕ) (n : _) (s : StructDef) → i < l.definition-index
      → MapTells (λ v. v.text) (get_or l.field_names.items i n) (map typed_view (get_or l.structs i s).fields.items);
  met :
      kept_all (met_view l.least) (structs_faults (map shape_of (map struct_view l.initial.structs)) (rest l.definition-index (map struct_view l.initial.structs)))
      ≡ kept_all (met_view l.initial.least) (structs_faults (map shape_of (map struct_view l.initial.structs)) (map struct_view l.initial.structs));
}
