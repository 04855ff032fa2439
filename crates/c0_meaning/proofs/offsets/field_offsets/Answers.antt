use Rattle.std.proofs.Common.{◌≡◌, ◌<◌, List, length, map, subst, sym, ap, ◌∙◌}
use Rattle.std.specs.List.{All}
use Rattle.c0_tree.specs.declared.tree.StructDef.{StructDef}
use Rattle.c0_tree.specs.declared.tree.Unit.{Unit as Source}
use Rattle.c0_tree.specs.View.{struct_view, unit_view}
use Rattle.c0_meaning.specs.Sound.{shapes, IsSizedStruct}
use Rattle.c0_meaning.proofs.WellFormed.{well_formed_sized, well_formed_few}
use Rattle.c0_meaning.proofs.offsets.field_offsets.Goals as goal

pub structs_offsets-requires-clause-fields : goal.structs_offsets-requires-clause-fields
structs_offsets-requires-clause-fields c =
    let e : c.deref.result.now ≡ c.args.unit.now.structs.items = c.deref.ensures.value ∙ ap (λ (u : Source). u.structs.items) c.unit.ensures.same in
    subst (λ (ss : List StructDef). All (IsSizedStruct (shapes (unit_view c.args.unit.now))) (map struct_view ss)) (sym e)
    (well_formed_sized _ _ c.unit.ensures.well_formed.1)

pub structs_offsets-requires-clause-few : goal.structs_offsets-requires-clause-few
structs_offsets-requires-clause-few c =
    let e : c.deref.result.now ≡ c.args.unit.now.structs.items = c.deref.ensures.value ∙ ap (λ (u : Source). u.structs.items) c.unit.ensures.same in
    subst (λ (ss : List StructDef). All (λ s. length s.fields < 4294967296) (map struct_view ss)) (sym e) (well_formed_few _ _ c.unit.ensures.well_formed.1)
